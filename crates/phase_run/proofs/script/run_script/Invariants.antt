-- The phases before this turn have run.
use Rattle.std.proofs.Common.{◌≡◌, ◌≤◌, take, slice_index}
use Rattle.plain_table.specs.Table.{opening}
use Rattle.plain_table.specs.Words.{phase_place}
use Rattle.script_reader.specs.Valid.{operations_of}
use Rattle.entry_word.specs.Image.{sizes_of}
use Rattle.mutator_calls.specs.Calls.{IsReady}
use Rattle.phase_run.specs.Meets.{words_after}
use Rattle.phase_run.specs.Run.{HaveRun}
use Rattle.phase_run.proofs.script.run_script.Given as goal

abbrev pub invariant-loop-phase : goal.invariant-loop-phase
invariant-loop-phase g l = record {
  ready : IsReady l.mutator;
  sizes : sizes_of l.mutator.image.shape ≡ (opening l.initial.script.limits).sizes;
  run : HaveRun l.initial.script.limits l.mutator (take l.phase-index l.initial.script.phases) l.reports l.puts;
  word : slice_index l.mutator.image.words.items phase_place ≡ words_after 0 (take l.phase-index l.initial.script.phases);
  few : l.puts ≤ operations_of (take l.phase-index l.initial.script.phases);
}
