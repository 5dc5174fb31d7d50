-- What a session with all numbers knows at the end: its history is the whole one.
use Rattle.std.proofs.Common.{◌≡◌, ℕ, ◌≤◌, List, [], ◌∷◌, ◌++◌, refl, ap, subst, ◌∙◌, arith, append-nil}
use mathlib.Core.Option.{some}
use lib.ListN.{get_elem?}
use Rattle.plain_table.specs.declared.events.Event.{Event}
use Rattle.plain_table.specs.Table.{Table}
use Rattle.plain_table.specs.History.{IsLegalHistory, after}
use Rattle.entry_base.specs.declared.view.Opening.{Opening}
use Rattle.entry_base.specs.declared.view.View.{View}
use Rattle.entry_base.specs.Lists.{Each}
use Rattle.entry_base.specs.Numbers.{HasNumber, IsPhaseEvent, IsQuiet}
use Rattle.entry_base.specs.Rule.{StateKept, Kept}
use Rattle.entry_base.specs.Openings.{IsBase}
use Rattle.entry_base.proofs.Sums.{each_last}

-- no event is left after it
none_after : (v : View) (es : List Event) → ((n : ℕ) → n ≤ 12 → HasNumber v n) → Each IsPhaseEvent es → IsQuiet v es → es ≡ []
none_after v [] all low quiet = refl
none_after v (e ∷ es) all low quiet = absurd (let a = all e.by low.0.0 in let q = quiet.0 in omega arith)

pub closes : (key : Opening) (words : List ℕ) (views : List View) (id : ℕ) (v : View) (k : Kept key words views) → get_elem? views id ≡ some v → ((n : ℕ) → n ≤ 12 → HasNumber v n)
    → (k.log ≡ v.seen) × Each IsPhaseEvent v.seen × ((b : Table) → IsBase key b → IsLegalHistory b v.seen × StateKept key v.seen k.shown words views (after b v.seen))
closes key words views id v k at all = (
  same,
  subst (Each IsPhaseEvent) same k.numbers.events,
  λ b base. subst (λ l. IsLegalHistory b l × StateKept key l k.shown words views (after b l)) same ((k.states b base).follows, (k.states b base).state),
)
  where
    same : k.log ≡ v.seen
    same =
        let st = k.numbers.stands id v at in
        let low : Each IsPhaseEvent st.rest = each_last IsPhaseEvent v.seen st.rest (subst (Each IsPhaseEvent) st.seen k.numbers.events) in
        st.seen ∙ (ap (λ l. v.seen ++ l) (none_after v st.rest all low st.quiet) ∙ append-nil v.seen)
