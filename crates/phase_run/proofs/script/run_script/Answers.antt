-- Each turn runs one phase more.
use Rattle.std.proofs.Common.{◌≡◌, ℕ, ◌+◌, ◌<◌, List, [], length, get_or, take, refl, sym, ap, subst, ◌∙◌, arith}
use Rattle.std.proofs.lemmas.List.{take_all}
use Rattle.plain_table.specs.declared.scripts.Phase.{Phase}
use Rattle.plain_table.specs.declared.reports.PhaseReport.{PhaseReport}
use Rattle.script_reader.specs.Valid.{lists_length}
use Rattle.entry_word.specs.Image.{sizes_of}
use Rattle.phases.specs.Phases.{CanRun}
use Rattle.phase_run.specs.Meets.{IsMeetAt, word_after, words_after}
use Rattle.phase_run.specs.Run.{HaveRun, RunsEach}
use Rattle.phase_run.proofs.ScriptRuns.{answers_run, runs_nothing, runs_turn, sees_opening}
use Rattle.phase_run.proofs.ValidRuns.{CanRun-valid, each_meet, operations_of-more, operations_of-take, phase-few, range_of, words_after-more}
use Rattle.phase_run.proofs.script.run_script.Goals as goal

pub loop-phase-init : goal.loop-phase-init
loop-phase-init g c =
    let limits = c.args.script.now.limits in
    let sizes = ap sizes_of c.in_ok-mutator.ensures.shape ∙ c.shape_of.ensures.sizes in
    let sees = sees_opening limits c.in_ok-mutator.mutator (range_of limits c.requires.valid.limits) sizes c.in_ok-mutator.ensures.opening in
    record {
      ready = c.in_ok-mutator.ensures.ready;
      sizes = sizes;
      run = subst (λ (rs : List PhaseReport). HaveRun limits c.in_ok-mutator.mutator [] rs 0) (sym c.new-reports.ensures) (runs_nothing limits c.in_ok-mutator.mutator sees);
      word = sees.shows.words.phase;
      few = omega arith;
    }

-- the phase of this turn is that of the script
pub run_and_meet-requires-clause-calls : goal.run_and_meet-requires-clause-calls
run_and_meet-requires-clause-calls g c lifetimes live =
    let script = c.args.script.now in
    let k = c.loop-phase.phase-index in
    let d = c.phase-item.result in
    let is : d ≡ get_or script.phases k d = c.phase-item.is ∙ ap (λ (phases : List Phase). get_or phases k d) c.as_slice-phases.ensures in
    let within : k < length script.phases = subst (λ (phases : List Phase). k < length phases) c.as_slice-phases.ensures c.loop-phase-test.true in
    subst (λ (phase : Phase). CanRun script.limits phase.calls) (sym is) (CanRun-valid script c.requires.valid k d within)

pub run_and_meet-requires-clause-few : goal.run_and_meet-requires-clause-few
run_and_meet-requires-clause-few g c lifetimes live =
    let script = c.args.script.now in
    let k = c.loop-phase.phase-index in
    let d = c.phase-item.result in
    let is : d ≡ get_or script.phases k d = c.phase-item.is ∙ ap (λ (phases : List Phase). get_or phases k d) c.as_slice-phases.ensures in
    let within : k < length script.phases = subst (λ (phases : List Phase). k < length phases) c.as_slice-phases.ensures c.loop-phase-test.true in
    let calls = ap (λ (phase : Phase). lists_length phase.calls) is in
    let most = phase-few script c.requires.valid k d within in
    omega (arith, calls, most)

pub run_and_meet-requires-clause-meet : goal.run_and_meet-requires-clause-meet
run_and_meet-requires-clause-meet g c lifetimes live =
    let script = c.args.script.now in
    let k = c.loop-phase.phase-index in
    let d = c.phase-item.result in
    let is : d ≡ get_or script.phases k d = c.phase-item.is ∙ ap (λ (phases : List Phase). get_or phases k d) c.as_slice-phases.ensures in
    let within : k < length script.phases = subst (λ (phases : List Phase). k < length phases) c.as_slice-phases.ensures c.loop-phase-test.true in
    subst (λ (word : ℕ). IsMeetAt word d.meet) (sym c.loop-phase.invariant.word)
    (subst (λ (phase : Phase). IsMeetAt (words_after 0 (take k script.phases)) phase.meet) (sym is) (each_meet script c.requires.valid k d within))

pub overflow_add-puts : goal.overflow_add-puts
overflow_add-puts g c =
    let script = c.args.script.now in
    let k = c.loop-phase.phase-index in
    let d = c.phase-item.result in
    let is : d ≡ get_or script.phases k d = c.phase-item.is ∙ ap (λ (phases : List Phase). get_or phases k d) c.as_slice-phases.ensures in
    let within : k < length script.phases = subst (λ (phases : List Phase). k < length phases) c.as_slice-phases.ensures c.loop-phase-test.true in
    let calls = ap (λ (phase : Phase). lists_length phase.calls) is in
    let more = operations_of-more script.phases k d within in
    let all = operations_of-take script.phases (k + 1) in
    let before = c.loop-phase.invariant.few in
    let few = c.in_ok-ran.ensures.few in
    let most = c.requires.valid.operations in
    omega (arith, before, few, calls, more, all, most)

pub loop-phase-preserved : goal.loop-phase-preserved
loop-phase-preserved g c =
    let script = c.args.script.now in
    let k = c.loop-phase.phase-index in
    let d = c.phase-item.result in
    let is : d ≡ get_or script.phases k d = c.phase-item.is ∙ ap (λ (phases : List Phase). get_or phases k d) c.as_slice-phases.ensures in
    let within : k < length script.phases = subst (λ (phases : List Phase). k < length phases) c.as_slice-phases.ensures c.loop-phase-test.true in
    let calls = ap (λ (phase : Phase). lists_length phase.calls) is in
    let more = operations_of-more script.phases k d within in
    let ran = c.in_ok-ran.ran in
    let before = c.loop-phase.invariant in
    let few = c.in_ok-ran.ensures.few in
    record {
      ready = c.in_ok-ran.ensures.ready;
      sizes = c.in_ok-ran.ensures.sizes;
      run = runs_turn script c.loop-phase.mutator ran.mutator k d c.loop-phase.reports c.push.new.self c.loop-phase.puts ran.report ran.puts within before.run
          (subst (λ (phase : Phase). RunsEach script.limits c.loop-phase.mutator ran.mutator phase ran.report ran.puts) is c.in_ok-ran.ensures.runs) c.in-Ok.ensures.ok;
      word = c.in_ok-ran.ensures.word ∙ ap (λ (word : ℕ). word_after word d.meet) before.word
          ∙ ap (λ (phase : Phase). word_after (words_after 0 (take k script.phases)) phase.meet) is ∙ sym (words_after-more 0 script.phases k d within);
      few = let was = before.few in omega (arith, was, few, calls, more);
    }

pub returns : goal.returns
returns g c =
    let script = c.args.script.now in
    let k = c.loop-phase.phase-index in
    let all : take k script.phases ≡ script.phases =
    take_all k script.phases (let long = ap (λ (phases : List Phase). length phases) c.as_slice-phases.ensures in omega (arith, long)) in
    record {
      answers = answers_run script c.loop-phase.mutator (take k script.phases) c.loop-phase.reports c.loop-phase.puts c.totals-totals.result _ all c.loop-phase.invariant.run
          c.totals-totals.ensures (record { phases = refl; live = refl; trusted = refl; objects = refl; sum = refl; puts = refl });
    }
