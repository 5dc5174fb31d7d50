use Rattle.std.proofs.Common.{◌≡◌, ◌∙◌, ◌≤◌, ◌∷◌, ◌++◌, [], List, ℕ, sym, ap, subst, arith}
use Rattle.entry_base.specs.Lists.{count_in}
use Rattle.entry_base.proofs.OneByOne.{same_trans}
use Rattle.call_base.proofs.PassedParts.{IsPassed-parts, PassedField-stays, PassedReference-stays}
use Rattle.worked_cycles.proofs.scan_tests.scan_first.Goals as goal

pub scan_step-requires-clause-passed : goal.scan_step-requires-clause-passed
scan_step-requires-clause-passed g c =
    let a = c.pass_external.ensures in
    let b = c.pass_field.ensures in
    let d = c.pass_trusted.ensures in
    let e = c.pass_three.ensures in
    let f = c.pass_linked.ensures in
    let after_d = same_trans _ _ _ e.same f.same in
    let after_b = same_trans _ _ _ d.same after_d in
    let after_a = same_trans _ _ _ b.same after_b in
    let before = e.hands ∙ (d.hands ∙ (b.hands ∙ (a.hands ∙ c.requires.hands))) in
    let one : 1 ≤ count_in 0 (1 ∷ 0 ∷ []) = (let low : 1 ≤ 1 = omega arith in low) in
    IsPassed-parts _ 0
    (subst (λ (hands : List ℕ). 1 ≤ count_in 0 hands) (sym (f.hands ∙ ap (λ (hands : List ℕ). 1 ∷ hands) before)) one)
    (PassedField-stays _ _ after_a _ a.passed)
    (PassedField-stays _ _ after_b _ b.passed)
    (PassedField-stays _ _ after_d _ d.passed)
    f.passed
    (PassedReference-stays _ _ f.same 0 1 e.second)
    (PassedReference-stays _ _ f.same 0 2 e.third)
    (PassedReference-stays _ _ f.same 0 3 e.fourth)
