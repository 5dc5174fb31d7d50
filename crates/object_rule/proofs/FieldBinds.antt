-- Binding an external cell that the caller filled to a field keeps the rule, whether the field is 0 or holds a word.
use Rattle.std.proofs.Common.{ℕ, ◌^◌, ◌<◌, ◌==◌, refl, inl}
use prog.Atomic.{either}
use Rattle.atomic_table.specs.Table.{Me}
use Rattle.plain_table.specs.declared.events.Field.TheVariants as field
use Rattle.plain_table.specs.declared.events.Space.TheVariants.{External}
use Rattle.plain_table.specs.Index.{index_of}
use Rattle.plain_table.specs.Places.{object_of}
use Rattle.plain_table.specs.Rows.{with_bound, with_unbound}
use Rattle.plain_table.specs.Words.{field_place}
use Rattle.plain_table.proofs.Branches.{if_either}
use Rattle.entry_base.specs.declared.view.Opening.{Opening}
use Rattle.entry_base.specs.declared.view.View.{View}
use Rattle.entry_base.specs.Callers.{IsCaller}
use Rattle.entry_base.specs.Lists.{Has}
use Rattle.entry_base.specs.Owns.{IsHeld, Owns, claim_of, without_claim}
use Rattle.entry_base.proofs.OwnsStay.{claims_left}
use Rattle.entry_base.proofs.Steps.{Keeps}
use Rattle.entry_base.proofs.Sums.{each_has}
use Rattle.object_rule.specs.Fields.{Bound}
use Rattle.object_rule.proofs.BindSteps.{binds_field, bound_view}

pub binds : (key : Opening) (slots id : ℕ) (me : Me (Unit {0}) View) (number word : ℕ) → IsCaller key me.0 → me.0.number < 8 → IsHeld me.0 (object_of (field.External number)) → Has me.0.fresh (claim_of me.0 External (index_of word)) → word < 2 ^ 32 → Keeps key slots id me (field_place (field.External number)) (λ n. either (n == 0) word n) (λ found w. Bound me.0 (field.External number) word found w)
binds key slots id me number word caller mutator held filled fits =
    let v = me.0 in
    binds_field key v (field.External number) word (λ n. v.pending) (without_claim v.number External (index_of word) v.fresh) caller mutator held fits (λ log shown words s g. record {
      may = inl (each_has _ v.fresh (claim_of v External (index_of word)) g.owns.fresh filled).1;
      owns = λ n es is.
          let left = claims_left _ s.fresh v.number External (index_of word) v.fresh g.owns.fresh in
          if_either (λ t. Owns t (bound_view v v.pending (without_claim v.number External (index_of word) v.fresh) es)) (s.words (field.External number) == 0)
          (with_bound s v.number (field.External number) word) (with_unbound s v.number (field.External number) word)
          (record { variables = g.owns.variables; pending = g.owns.pending; owed = g.owns.owed; fresh = left })
          (record { variables = g.owns.variables; pending = g.owns.pending; owed = g.owns.owed; fresh = left });
    }) slots id me.1 (λ found w. Bound v (field.External number) word found w) (λ n es small extends. record {
      same = record { opening = refl; number = refl; numbers = refl; cut = refl; knows = λ x has. has };
      rest = (refl, refl, refl, refl);
      fresh = refl;
      extends = extends;
      small = small;
    })
