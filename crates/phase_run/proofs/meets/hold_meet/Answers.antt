-- A meet does nothing, or starts or finishes a cycle.
use Rattle.phase_run.proofs.MeetRuns.{meets_to_finish, meets_to_start}
use Rattle.phase_run.proofs.meets.hold_meet.Goals as goal

pub returns-in_ok-start-in-Start-clause-meets : goal.returns-in_ok-start-in-Start-clause-meets
returns-in_ok-start-in-Start-clause-meets c =
    meets_to_start c.args.mutator.now c.start.new.self c.args.meet c.in-Start.policy c.in_ok-start-in-Start.field-0 c.in-Start.is c.requires.fits c.in_ok-start-in-Start.ensures.starts

pub returns-in-Finish-clause-meets : goal.returns-in-Finish-clause-meets
returns-in-Finish-clause-meets c =
    meets_to_finish c.args.mutator.now c.finish.new.self c.args.meet c.finish.result c.in-Finish.is c.requires.fits c.finish.ensures.finishes
