-- A state whose cycle changed shows the table with the change of its cycle.
use Rattle.std.proofs.Common.{◌≡◌, Option, Some, None, ap, refl, subst, sym, ◌∙◌}
use Rattle.std.specs.Option.{option_map}
use Rattle.plain_table.specs.Cycle.{Cycle}
use Rattle.plain_program.specs.Kept.{Kept, KeptCycle, shown, shown_cycle}

pub shown-cycle : (inside old : Kept) (c d : KeptCycle) (change : Cycle → Cycle) → inside ≡ old → inside.cycle ≡ Some c →
    shown_cycle d ≡ change (shown_cycle c) →
    shown (record inside { cycle = Some d }) ≡ record (shown old) { cycle = option_map change (shown old).cycle }
shown-cycle inside old c d change is some changed =
    ap (λ (cycle : Option Cycle). record (shown inside) { cycle = cycle })
    (ap Some changed ∙ sym (ap (λ (kept : Option KeptCycle). option_map change (option_map shown_cycle kept)) some))
    ∙ ap (λ (k : Kept). record (shown k) { cycle = option_map change (shown k).cycle }) is

-- a state with no cycle stays as it is
pub shown-no_cycle : (inside old : Kept) (change : Cycle → Cycle) → inside ≡ old → inside.cycle ≡ None →
    shown inside ≡ record (shown old) { cycle = option_map change (shown old).cycle }
shown-no_cycle inside old change is none =
    ap (λ (cycle : Option Cycle). record (shown inside) { cycle = cycle })
    (subst (λ (kept : Option KeptCycle). option_map shown_cycle kept ≡ option_map change (option_map shown_cycle kept)) (sym none) refl)
    ∙ ap (λ (k : Kept). record (shown k) { cycle = option_map change (shown k).cycle }) is
