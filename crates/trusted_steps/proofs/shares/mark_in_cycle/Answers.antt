use Rattle.std.proofs.Common.{sym, subst}
use Rattle.entry_base.specs.Openings.{phase_of}
use Rattle.entry_base.specs.Sessions.{view}
use Rattle.call_base.specs.Called.{Called}
use Rattle.call_base.proofs.CallsInOrder.{called_none}
use Rattle.trusted_steps.proofs.SharedMarks.{mark_for-none, phase_none}
use Rattle.trusted_steps.proofs.shares.mark_in_cycle.Goals as goal

pub returns-else-in_cycle-clause-called : goal.returns-else-in_cycle-clause-called
returns-else-in_cycle-clause-called c =
    let v = view c.args.s.now in
    let idle = phase_none (phase_of v.opening) c.args.s.now.in_cycle c.args.s.now.tied.in_cycle c.if-in_cycle.ensures in
    subst (λ l. Called v l v) (sym (mark_for-none v.number (phase_of v.opening) c.args.word idle)) (called_none v)
