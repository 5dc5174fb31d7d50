use Rattle.std.proofs.Common.{◌≤◌, [], ◌∷◌, ◌++◌, ap, arith}
use Rattle.plain_table.specs.Scans.{Visit}
use Rattle.entry_base.specs.Lists.{count_in}
use Rattle.entry_base.specs.Passed.{field_of}
use Rattle.entry_base.specs.Sessions.{view}
use Rattle.entry_base.proofs.OneByOne.{own_trans, same_trans}
use Rattle.entry_base.proofs.Sums.{count_append, count_self, count_without}
use Rattle.call_base.proofs.PassedParts.{IsPassed-parts, PassedField-stays, PassedReference-stays}
use Rattle.call_base.proofs.ScanParts.{part_still, part_trans}
use Rattle.marker.proofs.Passes.{begins}
use Rattle.marker.proofs.scans.scan_object.Goals as goal

pub scanned-requires-clause-passed : goal.scanned-requires-clause-passed
scanned-requires-clause-passed c =
    let o = c.args.object in
    let r1 = c.pass_reference.ensures in
    let r2 = c.pass_reference-2.ensures in
    let r3 = c.pass_reference-3.ensures in
    let r4 = c.pass_reference-4.ensures in
    let s4 = r4.called.same in
    let s3 = same_trans _ _ _ r3.called.same s4 in
    let s2 = same_trans _ _ _ r2.called.same s3 in
    let s1 = same_trans _ _ _ r1.called.same s2 in
    let f3 = same_trans _ _ _ (c.pass_trusted.ensures.part []).called.same s1 in
    let f2 = same_trans _ _ _ (c.pass_external-2.ensures.part []).called.same f3 in
    let had = c.requires.hands o in
    let self = count_self o c.args.stack.now.items in
    let a = ap (count_in o) c.pass_external.ensures.leaves.hands in
    let b = ap (count_in o) c.pass_external-2.ensures.leaves.hands in
    let d = ap (count_in o) c.pass_trusted.ensures.leaves.hands in
    let e = r1.brings.1.hands o in
    let f = r2.brings.1.hands o in
    let g = r3.brings.1.hands o in
    let h = r4.brings.1.hands o in
    IsPassed-parts (view c.pass_reference-4.new.s) o (omega (arith, had, self, a, b, d, e, f, g, h))
    (PassedField-stays _ _ f2 (field_of o 0) c.pass_external.ensures.passed) (PassedField-stays _ _ f3 (field_of o 1) c.pass_external-2.ensures.passed) (PassedField-stays _ _ s1 (field_of o 2) c.pass_trusted.ensures.passed)
    (PassedReference-stays _ _ s2 o 0 r1.passed) (PassedReference-stays _ _ s3 o 1 r2.passed) (PassedReference-stays _ _ s4 o 2 r3.passed) r4.passed

pub returns-clause-scans : goal.returns-clause-scans
returns-clause-scans c =
    let o = c.args.object in
    let x1 = c.pass_external.ensures in
    let x2 = c.pass_external-2.ensures in
    let x3 = c.pass_trusted.ensures in
    let r1 = c.pass_reference.ensures in
    let r2 = c.pass_reference-2.ensures in
    let r3 = c.pass_reference-3.ensures in
    let r4 = c.pass_reference-4.ensures in
    let had = c.requires.hands o in
    let self = count_self o c.args.stack.now.items in
    let a0 = ap (count_in o) x1.leaves.hands in
    let b0 = ap (count_in o) x2.leaves.hands in
    let d0 = ap (count_in o) x3.leaves.hands in
    let e0 = r1.brings.1.hands o in
    let f0 = r2.brings.1.hands o in
    let g0 = r3.brings.1.hands o in
    let h0 = r4.brings.1.hands o in
    let stands : 1 ≤ count_in o (view c.pass_reference-4.new.s).hands = omega (arith, had, self, a0, b0, d0, e0, f0, g0, h0) in
    let p1 = part_trans _ _ _ _ _ _ [] [] (begins (view c.args.s.now) o) (x1.part (field_of o 1 ∷ field_of o 2 ∷ [])) in
    let p2 = part_trans _ _ _ _ _ _ [] [] p1 (x2.part (field_of o 2 ∷ [])) in
    let p3 = part_trans _ _ _ _ _ _ [] [] p2 (x3.part []) in
    let p4 = part_trans _ _ _ _ _ _ [] [] p3 (part_still _ _ (Visit o []) r1.called) in
    let p5 = part_trans _ _ _ _ _ _ [] [] p4 (part_still _ _ (Visit o []) r2.called) in
    let p6 = part_trans _ _ _ _ _ _ [] [] p5 (part_still _ _ (Visit o []) r3.called) in
    let p7 = part_trans _ _ _ _ _ _ [] [] p6 (part_still _ _ (Visit o []) r4.called) in
    record {
      came = ((r1.brings.0 ++ r2.brings.0) ++ r3.brings.0) ++ r4.brings.0;
      part = part_trans _ _ _ _ _ _ [] (o ∷ []) p7 c.scanned.ensures.part;
      own = own_trans _ _ _ x1.leaves.own (own_trans _ _ _ x2.leaves.own (own_trans _ _ _ x3.leaves.own
          (own_trans _ _ _ r1.brings.1.own (own_trans _ _ _ r2.brings.1.own (own_trans _ _ _ r3.brings.1.own (own_trans _ _ _ r4.brings.1.own c.scanned.ensures.own))))));
      hands = λ q.
          let a = ap (count_in q) x1.leaves.hands in
          let b = ap (count_in q) x2.leaves.hands in
          let d = ap (count_in q) x3.leaves.hands in
          let e = r1.brings.1.hands q in
          let f = r2.brings.1.hands q in
          let g = r3.brings.1.hands q in
          let h = r4.brings.1.hands q in
          let left = ap (count_in q) c.scanned.ensures.hands in
          let without = count_without o (view c.pass_reference-4.new.s).hands q stands in
          let i = count_append q ((r1.brings.0 ++ r2.brings.0) ++ r3.brings.0) r4.brings.0 in
          let j = count_append q (r1.brings.0 ++ r2.brings.0) r3.brings.0 in
          let k = count_append q r1.brings.0 r2.brings.0 in
          omega (arith, a, b, d, e, f, g, h, left, without, i, j, k);
      stack = λ q.
          let e = r1.brings.1.stack q in
          let f = r2.brings.1.stack q in
          let g = r3.brings.1.stack q in
          let h = r4.brings.1.stack q in
          let i = count_append q ((r1.brings.0 ++ r2.brings.0) ++ r3.brings.0) r4.brings.0 in
          let j = count_append q (r1.brings.0 ++ r2.brings.0) r3.brings.0 in
          let k = count_append q r1.brings.0 r2.brings.0 in
          omega (arith, e, f, g, h, i, j, k);
    }
