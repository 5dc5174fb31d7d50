use Rattle.std.proofs.Common.{◌≡◌, ◌-◌, sym, ap, subst, ◌∙◌, arith}
use Rattle.sweeper.specs.Moves.{IsMovedAt, applied}
use Rattle.sweeper.proofs.MoveLoop.{IsMoving-limits, IsMoving-step, IsMoving-field}
use Rattle.sweeper.proofs.moves.move_chunk.Goals as goal

pub loop-entry-init : goal.loop-entry-init
loop-entry-init c = record {
  later = c.requires.order;
  moved = λ start_words at_end. at_end;
}

pub plan_of-plan-requires-clause-inside : goal.plan_of-plan-requires-clause-inside
plan_of-plan-requires-clause-inside c =
    let some = c.requires.some in
    let table = some.1 in
    let limits = IsMoving-limits table.0 table.1 some.0 c.args.span.base c.args.span.limit c.args.span.start table.2 in
    let same = (some.2 table.0 table.1 table.2).long in
    omega (arith, limits.2, same)

pub plan_of-plan-requires-clause-below : goal.plan_of-plan-requires-clause-below
plan_of-plan-requires-clause-below c =
    let some = c.requires.some in
    let table = some.1 in
    let limits = IsMoving-limits table.0 table.1 some.0 c.args.span.base c.args.span.limit c.args.span.start table.2 in
    omega (arith, limits.0, c.requires.below)

pub plan_of-plan-requires-clause-field : goal.plan_of-plan-requires-clause-field
plan_of-plan-requires-clause-field c =
    let some = c.requires.some in
    let table = some.1 in
    IsMoving-field table.0 table.1 some.0 c.args.span.base c.args.span.limit c.args.span.start table.2 c.loop-entry.words c.loop-entry.entry (c.loop-entry.entry - 1) (omega arith) (omega (arith, c.requires.below))
    (c.loop-entry.invariant.moved some.0 some.2 table.0 table.1 table.2)

pub apply-requires-clause-entry : goal.apply-requires-clause-entry
apply-requires-clause-entry c =
    let some = c.requires.some in
    let table = some.1 in
    let limits = IsMoving-limits table.0 table.1 some.0 c.args.span.base c.args.span.limit c.args.span.start table.2 in
    let same = (some.2 table.0 table.1 table.2).long in
    omega (arith, limits.0, limits.2, same, c.requires.below)

pub apply-requires-clause-few : goal.apply-requires-clause-few
apply-requires-clause-few c =
    let some = c.requires.some in
    let table = some.1 in
    let limits = IsMoving-limits table.0 table.1 some.0 c.args.span.base c.args.span.limit c.args.span.start table.2 in
    omega (arith, limits.0, limits.1, c.requires.below)

pub loop-entry-preserved : goal.loop-entry-preserved
loop-entry-preserved c = record {
  later = omega arith;
  moved = λ start_words at_end s cycle h.
      subst (λ words. IsMovedAt s cycle c.args.span.start start_words words (c.loop-entry.entry - 1))
      (sym (c.apply.ensures ∙ ap (applied c.loop-entry.words c.args.span.base (c.loop-entry.entry - 1)) c.plan_of-plan.ensures.plan))
      (IsMoving-step s cycle start_words c.args.span.base c.args.span.limit c.args.span.start h c.loop-entry.words c.loop-entry.entry (c.loop-entry.entry - 1) (omega arith) (omega (arith, c.requires.below))
      (c.loop-entry.invariant.moved start_words at_end s cycle h));
}

pub returns : goal.returns
returns c = λ start_words at_end s cycle h.
    let last : c.loop-entry.entry ≡ c.args.first = omega arith in
    subst (IsMovedAt s cycle c.args.span.start start_words c.loop-entry.words) last (c.loop-entry.invariant.moved start_words at_end s cycle h)
