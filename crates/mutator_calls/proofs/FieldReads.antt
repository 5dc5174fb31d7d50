-- The calls that read an external field: its name, and a load by it.
use Rattle.std.proofs.Common.{◌≡◌, ℕ, ◌<◌, [], ◌∷◌, Some, refl, sym}
use Rattle.plain_table.specs.declared.events.Act.TheVariants.{Name, Look}
use Rattle.plain_table.specs.declared.events.Space.TheVariants.{External}
use Rattle.plain_table.specs.declared.scripts.Op.TheVariants as op
use Rattle.plain_table.specs.declared.reports.Reply.{Reply}
use Rattle.plain_table.specs.declared.reports.Reply.TheVariants as reply
use Rattle.plain_table.specs.Places.{object_of}
use Rattle.plain_table.specs.Table.{Table}
use Rattle.plain_table.specs.Rows.{Holds, look}
use Rattle.plain_table.specs.Shapes.{IsLoad, event, external_field}
use Rattle.entry_word.specs.Image.{image_of}
use Rattle.mutator_calls.specs.declared.heap.Mutator.{Mutator}
use Rattle.mutator_calls.specs.Calls.{Makes, Sees}
use Rattle.mutator_calls.proofs.Fields.{Holds-variable, WithObject-some, object_of-external_field}
use Rattle.mutator_calls.proofs.Quiet.{Makes-load, Makes-name}

module _ (m : Mutator) (s : Table) (h : Sees (image_of m.image) s) (var f o w : ℕ) (small : var < 16) (pair : f < 2) (held : Some o ≡ s.vars 0 var)
    (word : w ≡ s.words (external_field o f)) where
  holds : Holds s 0 (object_of (external_field o f))
  holds = Holds-variable s var o (external_field o f) small (sym held) (object_of-external_field o f pair)

  pub Makes-external_name : Makes m m s (op.Name var f) (reply.Word w)
  Makes-external_name =
      Makes-name m s h (op.Name var f) (reply.Word w) (external_field o f) w holds word
      (WithObject-some (s.vars 0) var o (reply.Word w) (event 0 (Name (external_field o f)) (reply.Word w) ∷ [])
      (λ q. event 0 (Name (external_field o f)) (reply.Word w) ∷ [] ≡ event 0 (Name (external_field q f)) (reply.Word w) ∷ []) (sym held) refl)

  pub Makes-external_load : (first last : ℕ) (said : Reply) → said ≡ look s External w first last → Makes m m s (op.Load var f first last) said
  Makes-external_load first last said looks =
      Makes-load m s h (op.Load var f first last) said (external_field o f) External w first last holds word looks
      (WithObject-some (s.vars 0) var o said (event 0 (Name (external_field o f)) (reply.Word w) ∷ event 0 (Look External w first last) said ∷ [])
      (λ q. IsLoad 0 External (external_field q f) first last said (event 0 (Name (external_field o f)) (reply.Word w) ∷ event 0 (Look External w first last) said ∷ []))
      (sym held) (w, refl))
