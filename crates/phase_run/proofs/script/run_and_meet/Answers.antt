-- The calls and scans of the phase, and then its meet.
use Rattle.std.proofs.Common.{◌≡◌, List, subst}
use Rattle.plain_table.specs.declared.scripts.Op.{Op}
use Rattle.plain_table.specs.declared.reports.Reply.{Reply}
use Rattle.phase_run.specs.Run.{puts_of_all}
use Rattle.phase_run.proofs.ScriptRuns.{runs_phase}
use Rattle.phase_run.proofs.script.run_and_meet.Goals as goal

pub returns-clause-runs : goal.returns-clause-runs
returns-clause-runs g c =
    let worked = c.in_ok-worked.worked in
    let counted : c.count_all_puts-puts.result ≡ puts_of_all c.args.phase.now.calls worked.replies =
    subst (λ (replies : List (List Reply)). c.count_all_puts-puts.result ≡ puts_of_all c.args.phase.now.calls replies) c.as_slice-2.ensures
    (subst (λ (calls : List (List Op)). c.count_all_puts-puts.result ≡ puts_of_all calls c.as_slice-2.result.now) c.as_slice.ensures c.count_all_puts-puts.ensures.puts) in
    runs_phase c.args.limits.now c.args.mutator worked.mutator c.hold_meet.new.mutator c.args.phase.now (record { replies = worked.replies; meet = c.in_ok-meet.meet })
    c.count_all_puts-puts.result counted c.in_ok-worked.ensures.works c.in_ok-meet.ensures.meets
