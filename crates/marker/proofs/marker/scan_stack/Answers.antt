use Rattle.std.proofs.Common.{◌≤◌, ◌<◌, ◌+◌, ◌∙◌, ap, subst, sym, refl, arith}
use Rattle.std.proofs.lemmas.List.{nil_from_length}
use Rattle.entry_base.specs.Openings.{sizes_in}
use Rattle.entry_base.specs.Sessions.{view}
use Rattle.entry_base.proofs.OneByOne.{hands_within_limit}
use Rattle.entry_base.proofs.Sums.{count_self}
use Rattle.mark_steps.proofs.SeenWords.{openable_of, opened_lawful}
use Rattle.marker.specs.Runs.{Scanning}
use Rattle.marker.proofs.Stacks.{few_scans, popped_in, scanning_begin, scanning_end, scanning_turn}
use Rattle.marker.proofs.marker.scan_stack.Goals as goal

pub loop-object-init : goal.loop-object-init
loop-object-init c = record { caller = c.requires.caller; scanning = scanning_begin (view c.args.s.now) c.args.stack.now.items c.requires.hands; room = refl }

pub scan_object-requires-clause-hands : goal.scan_object-requires-clause-hands
scan_object-requires-clause-hands c =
    popped_in (view c.args.s.now) (view c.loop-object.s) _ _ _ c.in-Some.object c.loop-object.scans c.loop-object.invariant.scanning c.in-Some.ensures.items

pub returns-clause-runs : goal.returns-clause-runs
returns-clause-runs c =
    let i = c.loop-object.invariant in
    let empty = c.in_default.ensures.cases.0 in
    let long = c.loop-object.stack.ok in
    scanning_end (view c.args.s.now) (view c.loop-object.s) c.args.stack.now.items c.loop-object.stack.items c.loop-object.scans (openable_of _ _ c.args.shared.now.openable c.requires.caller.1)
    (opened_lawful _ _ _ c.requires.caller.1 i.caller.1) (nil_from_length c.loop-object.stack.items (omega (arith, empty, long))) i.scanning

next : (c : goal.After-scan_object) → Scanning (view c.args.s.now) c.args.stack.now.items (view c.scan_object.new.s) c.scan_object.new.stack.items (c.loop-object.scans + 1)
next c =
    let i = c.loop-object.invariant in
    let o = c.in-Some.object in
    let within = popped_in (view c.args.s.now) (view c.loop-object.s) _ _ _ o c.loop-object.scans i.scanning c.in-Some.ensures.items in
    let self = count_self o c.pop.new.self.items in
    let here = within o in
    let low = hands_within_limit _ (view c.loop-object.s) o i.caller.1 (omega (arith, self, here)) in
    scanning_turn (view c.args.s.now) (view c.loop-object.s) c.args.stack.now.items _ _ o c.loop-object.scans i.scanning c.in-Some.ensures.items (view c.scan_object.new.s) c.scan_object.new.stack.items
    (subst (λ k. o < (sizes_in k).objects) (sym c.requires.caller.1.opened) low) c.scan_object.ensures.scans

few : (c : goal.After-scan_object) → c.loop-object.scans + 1 ≤ (sizes_in (view c.args.s.now).opening).objects
few c =
    few_scans (view c.args.s.now) (view c.scan_object.new.s) c.args.stack.now.items c.scan_object.new.stack.items (c.loop-object.scans + 1) (openable_of _ _ c.args.shared.now.openable c.requires.caller.1)
    (opened_lawful _ _ _ c.requires.caller.1 c.scan_object.ensures.caller.1) (next c)

pub overflow_add-scans : goal.overflow_add-scans
overflow_add-scans c =
    let some = few c in
    let same = ap (λ k. (sizes_in k).objects) c.requires.caller.1.opened in
    let made = c.args.shared.now.made in
    let limit = c.args.shared.now.few in
    omega (arith, some, same, made, limit)

pub loop-object-smaller : goal.loop-object-smaller
loop-object-smaller c = let some = few c in omega (arith, some)

pub loop-object-preserved : goal.loop-object-preserved
loop-object-preserved c = record {
  caller = c.scan_object.ensures.caller;
  scanning = next c;
  room = c.scan_object.ensures.room ∙ (c.pop.ensures.capacity ∙ c.loop-object.invariant.room);
}
