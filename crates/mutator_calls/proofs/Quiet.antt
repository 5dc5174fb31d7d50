-- Calls that write nothing: those that make no event, the name of a field, a look, and a look at the word that a name
-- answers. The image shows the same table after them.
use Rattle.std.proofs.Common.{◌≡◌, ℕ, [], ◌∷◌, refl, ap}
use Rattle.plain_table.specs.declared.events.Act.TheVariants.{Name, Look}
use Rattle.plain_table.specs.declared.events.Field.{Field}
use Rattle.plain_table.specs.declared.events.Space.{Space}
use Rattle.plain_table.specs.declared.scripts.Op.{Op}
use Rattle.plain_table.specs.declared.reports.Reply.{Reply}
use Rattle.plain_table.specs.declared.reports.Reply.TheVariants as reply
use Rattle.plain_table.specs.Places.{object_of}
use Rattle.plain_table.specs.Table.{Table}
use Rattle.plain_table.specs.Rows.{Holds, look}
use Rattle.plain_table.specs.History.{IsLegal}
use Rattle.plain_table.specs.Shapes.{IsShape, event}
use Rattle.entry_word.specs.Image.{image_of}
use Rattle.mutator_calls.specs.declared.heap.Mutator.{Mutator}
use Rattle.mutator_calls.specs.Calls.{Makes, Sees}

-- the name of a field, and a look
pub IsLegal-name : (s : Table) (f : Field) (w : ℕ) → Holds s 0 (object_of f) → w ≡ s.words f → IsLegal s (event 0 (Name f) (reply.Word w))
IsLegal-name s f w holds is = (holds, ap reply.Word is)

pub IsLegal-look : (s : Table) (p : Space) (w first last : ℕ) (said : Reply) → said ≡ look s p w first last →
    IsLegal s (event 0 (Look p w first last) said)
IsLegal-look s p w first last said is = (tt, is)

module _ (m : Mutator) (s : Table) (h : Sees (image_of m.image) s) (call : Op) (said : Reply) where
  pub Makes-nothing : IsShape 0 s.cycle (s.vars 0) (s.ticket 0) call said [] → Makes m m s call said
  Makes-nothing shape =
      record { events = []; legal = tt; own = tt; shape = shape; held = refl; ticket = refl; sees = h; handed = λ linked was. was }

  pub Makes-look : (p : Space) (w first last : ℕ) → said ≡ look s p w first last →
      IsShape 0 s.cycle (s.vars 0) (s.ticket 0) call said (event 0 (Look p w first last) said ∷ []) → Makes m m s call said
  Makes-look p w first last is shape = record {
    events = event 0 (Look p w first last) said ∷ [];
    legal = (IsLegal-look s p w first last said is, tt);
    own = (refl, tt);
    shape = shape;
    held = refl;
    ticket = refl;
    sees = h;
    handed = λ linked was. was;
  }

  pub Makes-name : (f : Field) (w : ℕ) → Holds s 0 (object_of f) → w ≡ s.words f →
      IsShape 0 s.cycle (s.vars 0) (s.ticket 0) call said (event 0 (Name f) (reply.Word w) ∷ []) → Makes m m s call said
  Makes-name f w holds is shape = record {
    events = event 0 (Name f) (reply.Word w) ∷ [];
    legal = (IsLegal-name s f w holds is, tt);
    own = (refl, tt);
    shape = shape;
    held = refl;
    ticket = refl;
    sees = h;
    handed = λ linked was. was;
  }

  pub Makes-load : (f : Field) (p : Space) (w first last : ℕ) → Holds s 0 (object_of f) → w ≡ s.words f → said ≡ look s p w first last →
      IsShape 0 s.cycle (s.vars 0) (s.ticket 0) call said (event 0 (Name f) (reply.Word w) ∷ event 0 (Look p w first last) said ∷ []) →
      Makes m m s call said
  Makes-load f p w first last holds is looks shape = record {
    events = event 0 (Name f) (reply.Word w) ∷ event 0 (Look p w first last) said ∷ [];
    legal = (IsLegal-name s f w holds is, (IsLegal-look s p w first last said looks, tt));
    own = (refl, (refl, tt));
    shape = shape;
    held = refl;
    ticket = refl;
    sees = h;
    handed = λ linked was. was;
  }
