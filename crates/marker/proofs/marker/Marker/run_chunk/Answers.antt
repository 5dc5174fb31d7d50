use Rattle.std.proofs.Common.{◌≡◌, ◌+◌, ◌∙◌, take, refl, sym, ap, subst, arith}
use Rattle.std.proofs.lemmas.List.{take_all}
use Rattle.entry_base.specs.Lists.{AreIn}
use Rattle.entry_base.specs.Openings.{sizes_in}
use Rattle.entry_base.specs.Sessions.{view}
use Rattle.mark_steps.proofs.SeenWords.{openable_of, opened_lawful}
use Rattle.marker.specs.Runs.{Runs}
use Rattle.marker.proofs.ChunksTaken.{objects_in}
use Rattle.marker.proofs.RunsInOrder.{next-in_hands, runs-few, runs-next, runs_none}
use Rattle.marker.proofs.marker.Marker.run_chunk.Goals as goal

pub loop-object-init : goal.loop-object-init
loop-object-init c = record { caller = c.absorb-objects.ensures.caller; runs = runs_none (view c.absorb-objects.new.self); room = refl }

pub run-scans-requires-clause-hands : goal.run-scans-requires-clause-hands
run-scans-requires-clause-hands c =
    let absorbed = c.absorb-objects.ensures in
    next-in_hands (view c.absorb-objects.new.self) c.deref-object-items.result.now c.loop-object.object-index c.loop-object-test.true (view c.loop-object.s) c.loop-object.scans
    (subst (λ objects. AreIn objects (view c.absorb-objects.new.self).hands) (sym (c.deref-object-items.ensures.value ∙ absorbed.objects))
    (objects_in (view c.args.s.now) c.args.chunk (view c.absorb-objects.new.self) absorbed.absorbed)) c.loop-object.invariant.runs

pub run-scans-requires-clause-room : goal.run-scans-requires-clause-room
run-scans-requires-clause-room c =
    let i = c.loop-object.invariant in
    let same = ap (λ k. (sizes_in k).objects) (i.caller.1.opened ∙ sym c.requires.caller.1.opened) in
    let room = c.requires.room in
    let is = i.room in
    omega (arith, same, room, is)

next : (c : goal.After-run-scans) → Runs (view c.absorb-objects.new.self) (take (c.loop-object.object-index + 1) c.deref-object-items.result.now) (view c.run-scans.new.s) (c.loop-object.scans + c.run-scans.result)
next c =
    let of = c.absorb-objects.ensures.caller in
    runs-next (view c.absorb-objects.new.self) c.deref-object-items.result.now c.loop-object.object-index c.loop-object-test.true (view c.loop-object.s) (view c.run-scans.new.s) c.loop-object.scans
    c.run-scans.result c.loop-object.invariant.runs c.run-scans.ensures.runs (openable_of _ _ c.args.shared.now.openable of.1) (opened_lawful _ _ _ of.1 c.run-scans.ensures.caller.1)

pub overflow_add-scans : goal.overflow_add-scans
overflow_add-scans c =
    let some = runs-few (view c.absorb-objects.new.self) (view c.run-scans.new.s) _ _ (next c) in
    let same = ap (λ k. (sizes_in k).objects) c.absorb-objects.ensures.caller.1.opened in
    let made = c.args.shared.now.made in
    let limit = c.args.shared.now.few in
    omega (arith, some, same, made, limit)

pub loop-object-preserved : goal.loop-object-preserved
loop-object-preserved c = record { caller = c.run-scans.ensures.caller; runs = next c; room = c.run-scans.ensures.room ∙ c.loop-object.invariant.room }

pub returns-clause-runs : goal.returns-clause-runs
returns-clause-runs c =
    let whole : take c.loop-object.object-index c.deref-object-items.result.now ≡ c.deref-object-items.result.now =
    (let past = c.loop-object-test.false in take_all c.loop-object.object-index c.deref-object-items.result.now (omega (arith, past))) in record {
      holder = view c.absorb-objects.new.self;
      absorbed = c.absorb-objects.ensures.absorbed;
      runs = subst (λ objects. Runs (view c.absorb-objects.new.self) objects (view c.loop-object.s) c.loop-object.scans) (whole ∙ (c.deref-object-items.ensures.value ∙ c.absorb-objects.ensures.objects))
          c.loop-object.invariant.runs;
    }
