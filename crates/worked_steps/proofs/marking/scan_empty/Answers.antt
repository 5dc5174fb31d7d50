use Rattle.std.proofs.Common.{◌∙◌, ◌≤◌, List, ℕ, sym, subst}
use Rattle.entry_base.specs.Lists.{count_in}
use Rattle.entry_base.proofs.OneByOne.{same_trans}
use Rattle.call_base.proofs.PassedParts.{IsPassed-parts, PassedField-stays, PassedReference-stays}
use Rattle.worked_steps.proofs.marking.scan_empty.Goals as goal

pub scan_step-requires-clause-passed : goal.scan_step-requires-clause-passed
scan_step-requires-clause-passed c =
    let a = c.pass_empty_field.ensures in
    let b = c.pass_empty_field-2.ensures in
    let d = c.pass_empty_field-3.ensures in
    let e = c.pass_empty_reference.ensures in
    let f = c.pass_empty_reference-2.ensures in
    let g = c.pass_empty_reference-3.ensures in
    let h = c.pass_empty_reference-4.ensures in
    let last = h.same in
    let after_f = same_trans _ _ _ g.same last in
    let after_e = same_trans _ _ _ f.same after_f in
    let after_d = same_trans _ _ _ e.same after_e in
    let after_b = same_trans _ _ _ d.same after_d in
    let after_a = same_trans _ _ _ b.same after_b in
    IsPassed-parts _ c.args.object
    (subst (λ (hands : List ℕ). 1 ≤ count_in c.args.object hands) (sym (h.hands ∙ (g.hands ∙ (f.hands ∙ (e.hands ∙ (d.hands ∙ (b.hands ∙ a.hands))))))) c.requires.hands)
    (PassedField-stays _ _ after_a _ (a.passed (c.if-not-pass_empty_field.false)))
    (PassedField-stays _ _ after_b _ (b.passed (c.if-not-pass_empty_field-2.false)))
    (PassedField-stays _ _ after_d _ (d.passed (c.if-not-pass_empty_field-3.false)))
    (PassedReference-stays _ _ after_e c.args.object 0 (e.passed (c.if-not-pass_empty_reference.false)))
    (PassedReference-stays _ _ after_f c.args.object 1 (f.passed (c.if-not-pass_empty_reference-2.false)))
    (PassedReference-stays _ _ last c.args.object 2 (g.passed (c.if-not-pass_empty_reference-3.false)))
    (h.passed (c.if-not-pass_empty_reference-4.false))
