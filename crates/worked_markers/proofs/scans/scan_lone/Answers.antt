use Rattle.std.proofs.Common.{sym, subst, ◌≤◌, ◌∙◌, ap}
use Rattle.entry_base.specs.Lists.{count_in}
use Rattle.entry_base.specs.Passed.{field_of}
use Rattle.entry_base.specs.Sessions.{view}
use Rattle.entry_base.proofs.OneByOne.{same_trans}
use Rattle.call_base.proofs.PassedParts.{IsPassed-parts, PassedField-stays, PassedReference-stays}
use Rattle.worked_markers.proofs.scans.scan_lone.Goals as goal

pub scanned-requires-clause-passed : goal.scanned-requires-clause-passed
scanned-requires-clause-passed g c =
    let o = c.args.object in
    let r1 = c.pass_empty.ensures in
    let r2 = c.pass_empty-2.ensures in
    let r3 = c.pass_empty-3.ensures in
    let r4 = c.pass_empty-4.ensures in
    let s3 = same_trans _ _ _ r3.same r4.same in
    let s2 = same_trans _ _ _ r2.same s3 in
    let s1 = same_trans _ _ _ r1.same s2 in
    let f3 = same_trans _ _ _ c.pass_trusted.ensures.same s1 in
    let f2 = same_trans _ _ _ c.pass_external-second.ensures.same f3 in
    let hands = r4.hands ∙ r3.hands ∙ r2.hands ∙ r1.hands ∙ c.pass_trusted.ensures.hands ∙ c.pass_external-second.ensures.hands ∙ c.pass_external-first.ensures.hands in
    IsPassed-parts (view c.pass_empty-4.new.s) o (subst (λ n. 1 ≤ n) (sym (ap (count_in o) hands)) c.requires.hands)
    (PassedField-stays _ _ f2 (field_of o 0) c.pass_external-first.ensures.passed) (PassedField-stays _ _ f3 (field_of o 1) c.pass_external-second.ensures.passed)
    (PassedField-stays _ _ s1 (field_of o 2) c.pass_trusted.ensures.passed)
    (PassedReference-stays _ _ s2 o 0 r1.passed) (PassedReference-stays _ _ s3 o 1 r2.passed) (PassedReference-stays _ _ r4.same o 2 r3.passed) r4.passed
