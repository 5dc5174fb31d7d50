use Rattle.plain_table.specs.Table.{opening}
use Rattle.plain_program.proofs.OneByOne.{replayed-start, replayed-next}
use Rattle.plain_program.proofs.replays.replay.Goals as goal

pub loop-event-init : goal.loop-event-init
loop-event-init c = replayed-start c.in_ok-state.state c.args.limits c.args.events.now c.in_ok-state.ensures.opening c.in_ok-state.ensures.unspent

pub loop-event-preserved : goal.loop-event-preserved
loop-event-preserved c =
    replayed-next c.loop-event.state c.step.new.state (opening c.args.limits) c.args.events.now c.loop-event.event-index _ c.loop-event-test.true
    c.loop-event.invariant c.in_ok-step.field-0 c.if-not-branch.false c.in_ok-step.ensures.answer c.in_ok-step.ensures.next c.in_ok-step.ensures.unspent
