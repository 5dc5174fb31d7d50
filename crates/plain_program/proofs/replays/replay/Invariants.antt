use Rattle.plain_table.specs.Table.{opening}
use Rattle.plain_program.proofs.OneByOne.{IsReplayed}
use Rattle.plain_program.proofs.replays.replay.Given as goal

abbrev pub invariant-loop-event : goal.invariant-loop-event
invariant-loop-event l = IsReplayed l.state (opening l.fn.limits) l.events l.event-index
