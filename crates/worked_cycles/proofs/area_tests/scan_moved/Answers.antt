use Rattle.std.proofs.Common.{◌≡◌, ◌∙◌, ◌≤◌, ◌∷◌, ◌++◌, [], List, ℕ, sym, ap, subst, arith}
use Rattle.entry_base.specs.Lists.{count_in}
use Rattle.entry_base.proofs.OneByOne.{same_trans}
use Rattle.call_base.proofs.PassedParts.{IsPassed-parts, PassedField-stays, PassedReference-stays}
use Rattle.worked_cycles.proofs.area_tests.scan_moved.Goals as goal

pub scan_step-requires-clause-passed : goal.scan_step-requires-clause-passed
scan_step-requires-clause-passed g c =
    let t = c.take_below-index.ensures in
    let a = c.pass_moved.ensures in
    let b = c.pass_field.ensures in
    let d = c.pass_field-2.ensures in
    let e = c.pass_reference.ensures in
    let f = c.pass_three.ensures in
    let after_d = same_trans _ _ _ e.same f.same in
    let after_b = same_trans _ _ _ d.same after_d in
    let after_a = same_trans _ _ _ b.same after_b in
    let before = f.hands ∙ (e.hands ∙ (d.hands ∙ (b.hands ∙ (a.hands ∙ t.hands)))) in
    IsPassed-parts _ 0
    (subst (λ (hands : List ℕ). 1 ≤ count_in 0 hands) (sym before) c.requires.hands)
    (PassedField-stays _ _ after_a _ a.passed)
    (PassedField-stays _ _ after_b _ b.passed)
    (PassedField-stays _ _ after_d _ d.passed)
    (PassedReference-stays _ _ f.same 0 0 e.passed)
    f.second
    f.third
    f.fourth
