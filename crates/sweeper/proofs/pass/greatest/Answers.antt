use Rattle.std.proofs.Common.{◌≡◌, ◌+◌, ◌-◌, ◌<◌, ◌≤◌, ◌^◌, length, sym, subst, arith}
use Rattle.sweeper.specs.Pass.{entries_from}
use Rattle.sweeper.proofs.EntryParts.{length-part, part-bits}
use Rattle.sweeper.proofs.GreatestMark.{greatest_after-none, last-marked, none-marked, power-below}
use Rattle.sweeper.proofs.pass.greatest.Goals as goal

pub returns-then-mask-ne0 : goal.returns-then-mask-ne0
returns-then-mask-ne0 c =
    let ws = c.args.words.now in
    let base = c.args.span.base in
    let end = c.loop-end.end in
    let first = c.saturating_sub-first.result in
    let mask = c.mark_mask-mask.result in
    let inside : base + end ≤ length ws = omega (arith, c.requires.inside, c.loop-end.invariant.within) in
    let some : mask < 2 ^ (end - first) = subst (λ n. mask < 2 ^ n) (length-part ws base first end inside) c.mark_mask-mask.ensures.past in
    let r : c.ilog2.result < end - first = power-below c.ilog2.result (end - first) (omega (arith, c.ilog2.ensures.power_le, some)) in
    sym (last-marked (entries_from ws base) c.args.span.from c.args.span.limit c.requires.marks first end mask c.loop-end.invariant.below c.loop-end.invariant.within
    (part-bits 62 ws base first end mask inside c.mark_mask-mask.ensures.bits) c.loop-end.invariant.above c.ilog2.result (omega (arith, r)) c.ilog2.ensures.power_le c.ilog2.ensures.next_power_gt)

pub loop-end-preserved : goal.loop-end-preserved
loop-end-preserved c =
    let ws = c.args.words.now in
    let base = c.args.span.base in
    let end = c.loop-end.end in
    let first = c.saturating_sub-first.result in
    let mask = c.mark_mask-mask.result in
    let inside : base + end ≤ length ws = omega (arith, c.requires.inside, c.loop-end.invariant.within) in
    record {
      within = omega (arith, c.loop-end.invariant.within, c.saturating_sub-first.ensures);
      below = omega (arith, c.loop-end.invariant.below, c.saturating_sub-first.ensures);
      above = none-marked (entries_from ws base) c.args.span.from c.args.span.limit c.requires.marks first end mask c.loop-end.invariant.below c.loop-end.invariant.within
          (part-bits 62 ws base first end mask inside c.mark_mask-mask.ensures.bits) c.loop-end.invariant.above (omega (arith, c.if-mask-ne0.false));
    }

pub returns : goal.returns
returns c =
    let none : c.loop-end.end ≡ 0 = omega (arith, c.loop-end-test.false) in
    sym (greatest_after-none (entries_from c.args.words.now c.args.span.base) c.args.span.from c.args.span.limit (λ k to. c.loop-end.invariant.above k (omega (arith, none)) to))
