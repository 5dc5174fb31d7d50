-- What a phase on threads leaves, for each table that the image showed: with its meet it is a part of the history.
use Rattle.std.proofs.Common.{◌≡◌, length}
use Rattle.plain_table.specs.declared.scripts.Limits.{Limits}
use Rattle.plain_table.specs.declared.scripts.Phase.{Phase}
use Rattle.entry_base.specs.Openings.{opening_of}
use Rattle.mutator_calls.specs.declared.heap.Mutator.{Mutator}
use Rattle.mutator_calls.specs.Calls.{IsReady, owed_of}
use Rattle.phases.specs.declared.phases.PhaseOut.{PhaseOut}
use Rattle.phases.specs.Phases.{CanRun, Ran}
use Rattle.phase_run.specs.Run.{WorksEach}
use Rattle.phase_run.proofs.OldObjects.{begun_cycle, old-scanned, roots-scanned}
use Rattle.phase_run.proofs.PutCounts.{puts_of_all-phase}
use Rattle.phase_run.proofs.Works.{HandsOver-worked, IsBase-seen, Sees-worked, legal-after}

pub WorksEach-ran : (limits : Limits) (old new : Mutator) (phase : Phase) → IsReady old → CanRun limits phase.calls →
    (out : PhaseOut) (ran : Ran limits (opening_of old.image) phase.calls (owed_of old) out) → new.image ≡ out.image → length new.list.items ≡ length old.list.items →
    new.owed ≡ length out.shaded.items → owed_of new ≡ out.shaded.items → new.area ≡ old.area → WorksEach limits old new phase out.replies
WorksEach-ran limits old new phase ready can out ran same long many listed kept begins s linked starts sees handed =
    let base = IsBase-seen old s sees in
    let legal = legal-after limits old phase.calls ready out ran s sees in
    record {
      during = ran.history;
      legal = legal;
      belongs = λ met report belongs. record {
        calls = ran.calls_made s base;
        scans = ran.scans s base;
        numbers = ran.numbers;
        roots = λ begin some o root. let c = begun_cycle s (starts begin) in
            roots-scanned limits old phase.calls ready out ran s linked sees handed c.0 c.1 some o root;
        old = λ begin some none o reach. let c = begun_cycle s (starts begin) in
            old-scanned limits old phase.calls ready out ran s linked sees handed c.0 c.1 can some none o reach;
        lists = ran.lists;
        meet = belongs;
      };
      puts = puts_of_all-phase limits phase.calls out.replies s ran.history can.range.mutators.1 can.range.markers can.lists ran.lists legal (ran.calls_made s base) (ran.scans s base) ran.numbers;
      sees = Sees-worked limits old phase.calls ready out ran new same long many listed kept s sees;
      handed = HandsOver-worked limits old phase.calls ready out ran new same long many listed kept s linked sees handed;
    }
