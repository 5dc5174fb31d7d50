-- The calls that store: by an external field, and by any word; and exchanges by a field.
use Rattle.std.proofs.Common.{◌≡◌, ◌⊎◌, ℕ, ◌^◌, ◌<◌, List, [], ◌∷◌, Some, refl, sym, ap, subst, ◌∙◌, inl, inr}
use Rattle.plain_table.specs.declared.events.Act.TheVariants.{Name, Look, Set, Swap}
use Rattle.plain_table.specs.declared.events.Event.{Event}
use Rattle.plain_table.specs.declared.events.Space.TheVariants.{External}
use Rattle.plain_table.specs.declared.scripts.Op.TheVariants as op
use Rattle.plain_table.specs.declared.reports.Reply.{Reply}
use Rattle.plain_table.specs.declared.reports.Reply.TheVariants as reply
use Rattle.plain_table.specs.Places.{object_of}
use Rattle.plain_table.specs.Table.{Table}
use Rattle.plain_table.specs.Rows.{Holds}
use Rattle.plain_table.specs.Shapes.{IsMiss, IsStore, IsSwap, WithObject, event, external_field}
use Rattle.mutator_calls.specs.declared.heap.Mutator.{Mutator}
use Rattle.mutator_calls.specs.Calls.{Makes}
use Rattle.mutator_calls.specs.Exchanges.{Exchanges, Follows, Writes, stored}
use Rattle.mutator_calls.proofs.Fields.{Holds-variable, WithObject-some, object_of-external_field}
use Rattle.mutator_calls.proofs.Quiet.{IsLegal-look, IsLegal-name}

-- a miss is answered as it is
stored-miss : (said : Reply) → IsMiss said → stored said ≡ said
stored-miss said (inl null) = ap stored null ∙ sym null
stored-miss said (inr fault) = ap stored fault ∙ sym fault

module _ (old new : Mutator) (s : Table) (w first last value : ℕ) (found : Reply) (small : value < 2 ^ 48) (x : Exchanges old new s w first last value found) where
  pub Makes-raw_store : Makes old new s (op.RawSet w first last value) (stored found)
  Makes-raw_store = by_outcome x.outcome
    where
      by_outcome : (IsMiss found × Follows old new s s) ⊎ ((v : ℕ) × (found ≡ reply.Value v) × Writes old new s w first last value v) →
          Makes old new s (op.RawSet w first last value) (stored found)
      by_outcome (inl miss) = subst (λ (said : Reply). Makes old new s (op.RawSet w first last value) said) (sym (stored-miss found miss.0)) (record {
        events = event 0 (Look External w first last) found ∷ [];
        legal = (IsLegal-look s External w first last found x.looks, tt);
        own = (refl, tt);
        shape = inl (miss.0, refl);
        held = refl;
        ticket = refl;
        sees = miss.1.sees;
        handed = miss.1.handed;
      })
      by_outcome (inr hit) = subst (λ (said : Reply). Makes old new s (op.RawSet w first last value) (stored said)) (sym hit.1) (record {
        events = event 0 (Look External w first last) (reply.Value hit.0) ∷ event 0 (Set w first last value) reply.Ok ∷ [];
        legal = (IsLegal-look s External w first last (reply.Value hit.0) (sym hit.1 ∙ x.looks), (((hit.2.cell, small), refl), tt));
        own = (refl, (refl, tt));
        shape = inr (hit.0, refl);
        held = refl;
        ticket = refl;
        sees = hit.2.follows.sees;
        handed = hit.2.follows.handed;
      })

  -- by the field of a variable's object
  module _ (var f o : ℕ) (few : var < 16) (pair : f < 2) (held : Some o ≡ s.vars 0 var) (word : w ≡ s.words (external_field o f)) where
    holds : Holds s 0 (object_of (external_field o f))
    holds = Holds-variable s var o (external_field o f) few (sym held) (object_of-external_field o f pair)

    shaped-store : (said : Reply) (events : List Event) → IsStore 0 (external_field o f) first last value said events →
        WithObject (s.vars 0) var said events (λ q. IsStore 0 (external_field q f) first last value said events)
    shaped-store said events is = WithObject-some (s.vars 0) var o said events (λ q. IsStore 0 (external_field q f) first last value said events) (sym held) is

    shaped-swap : (said : Reply) (events : List Event) → IsSwap 0 (external_field o f) first last value said events →
        WithObject (s.vars 0) var said events (λ q. IsSwap 0 (external_field q f) first last value said events)
    shaped-swap said events is = WithObject-some (s.vars 0) var o said events (λ q. IsSwap 0 (external_field q f) first last value said events) (sym held) is

    pub Makes-store : Makes old new s (op.Store var f first last value) (stored found)
    Makes-store = by_outcome x.outcome
      where
        by_outcome : (IsMiss found × Follows old new s s) ⊎ ((v : ℕ) × (found ≡ reply.Value v) × Writes old new s w first last value v) →
            Makes old new s (op.Store var f first last value) (stored found)
        by_outcome (inl miss) = subst (λ (said : Reply). Makes old new s (op.Store var f first last value) said) (sym (stored-miss found miss.0)) (record {
          events = event 0 (Name (external_field o f)) (reply.Word w) ∷ event 0 (Look External w first last) found ∷ [];
          legal = (IsLegal-name s (external_field o f) w holds word, (IsLegal-look s External w first last found x.looks, tt));
          own = (refl, (refl, tt));
          shape = shaped-store found (event 0 (Name (external_field o f)) (reply.Word w) ∷ event 0 (Look External w first last) found ∷ []) (w, inl (miss.0, refl));
          held = refl;
          ticket = refl;
          sees = miss.1.sees;
          handed = miss.1.handed;
        })
        by_outcome (inr hit) = subst (λ (said : Reply). Makes old new s (op.Store var f first last value) (stored said)) (sym hit.1) (record {
          events = event 0 (Name (external_field o f)) (reply.Word w) ∷ event 0 (Look External w first last) (reply.Value hit.0) ∷ event 0 (Set w first last value) reply.Ok ∷ [];
          legal = (
            IsLegal-name s (external_field o f) w holds word,
            (IsLegal-look s External w first last (reply.Value hit.0) (sym hit.1 ∙ x.looks), (((hit.2.cell, small), refl), tt)),
          );
          own = (refl, (refl, (refl, tt)));
          shape = shaped-store reply.Ok (event 0 (Name (external_field o f)) (reply.Word w) ∷ event 0 (Look External w first last) (reply.Value hit.0) ∷ event 0 (Set w first last value) reply.Ok ∷ []) (w, inr (hit.0, refl));
          held = refl;
          ticket = refl;
          sees = hit.2.follows.sees;
          handed = hit.2.follows.handed;
        })

    pub Makes-swap : Makes old new s (op.Swap var f first last value) found
    Makes-swap = by_outcome x.outcome
      where
        by_outcome : (IsMiss found × Follows old new s s) ⊎ ((v : ℕ) × (found ≡ reply.Value v) × Writes old new s w first last value v) →
            Makes old new s (op.Swap var f first last value) found
        by_outcome (inl miss) = record {
          events = event 0 (Name (external_field o f)) (reply.Word w) ∷ event 0 (Look External w first last) found ∷ [];
          legal = (IsLegal-name s (external_field o f) w holds word, (IsLegal-look s External w first last found x.looks, tt));
          own = (refl, (refl, tt));
          shape = shaped-swap found (event 0 (Name (external_field o f)) (reply.Word w) ∷ event 0 (Look External w first last) found ∷ []) (w, inl (miss.0, refl));
          held = refl;
          ticket = refl;
          sees = miss.1.sees;
          handed = miss.1.handed;
        }
        by_outcome (inr hit) = subst (λ (said : Reply). Makes old new s (op.Swap var f first last value) said) (sym hit.1) (record {
          events = event 0 (Name (external_field o f)) (reply.Word w) ∷ event 0 (Look External w first last) (reply.Value hit.0) ∷ event 0 (Swap w first last value) (reply.Value hit.0) ∷ [];
          legal = (
            IsLegal-name s (external_field o f) w holds word,
            (IsLegal-look s External w first last (reply.Value hit.0) (sym hit.1 ∙ x.looks), (((hit.2.cell, small), ap reply.Value hit.2.was), tt)),
          );
          own = (refl, (refl, (refl, tt)));
          shape = shaped-swap (reply.Value hit.0) (event 0 (Name (external_field o f)) (reply.Word w) ∷ event 0 (Look External w first last) (reply.Value hit.0) ∷ event 0 (Swap w first last value) (reply.Value hit.0) ∷ []) (w, inr (hit.0, refl));
          held = refl;
          ticket = refl;
          sees = hit.2.follows.sees;
          handed = hit.2.follows.handed;
        })
