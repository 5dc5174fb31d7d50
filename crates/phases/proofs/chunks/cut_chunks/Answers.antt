use Rattle.std.proofs.Common.{◌≡◌, ◌≤◌, ◌∙◌, ◌++◌, ◌∷◌, [], All, length, drop, slice_range, sym, ap, ap₂, subst, arith}
use Rattle.std.proofs.lemmas.List.{length-append}
use Rattle.std.proofs.lemmas.List.Elements.{All-push}
use Rattle.entry_base.specs.declared.view.View.{View}
use Rattle.entry_base.specs.Lists.{AreIn, count_in}
use Rattle.entry_base.specs.Sessions.{view, IsChunkOf}
use Rattle.entry_base.specs.Views.{cutter}
use Rattle.marker.specs.Steals.{objects_of}
use Rattle.phases.specs.Cuts.{CutOff}
use Rattle.phases.proofs.Cuts.{CutOff-more, objects_of-append, range_within, rest_within, take_range}
use Rattle.phases.proofs.chunks.cut_chunks.Goals as goal

pub cut-requires-clause-objects : goal.cut-requires-clause-objects
cut-requires-clause-objects c =
    subst (λ objects. AreIn objects (view c.loop-from.first).hands) (sym c.in_ok-objects.ensures.items)
    (range_within c.args.owed.now (view c.loop-from.first).hands c.loop-from.from c.min-to.result (let t = c.loop-from-test.true in omega arith) c.loop-from.invariant.left)

pub loop-from-preserved : goal.loop-from-preserved
loop-from-preserved c =
    let i = c.loop-from.invariant in
    let first = view c.loop-from.first in
    let from = c.loop-from.from in
    let to = c.min-to.result in
    let owed = c.args.owed.now in
    let test = c.loop-from-test.true in
    let least = c.min-to.ensures in
    let low : from ≤ to = omega (arith, test, least) in
    let cut = c.cut.ensures in
    let copied = c.in_ok-objects.ensures.items in
    let items = c.push_reserved.ensures.items in
    let long = ap length items ∙ length-append c.loop-from.chunks.items (c.cut.result ∷ []) in
    let more = take_range owed from to low in
    let whole = i.whole test in
    let left : view c.cut.new.self ≡ cutter (slice_range owed from to) first = cut.left ∙ ap (λ objects. cutter objects first) copied in
    record {
      caller = cut.caller.0;
      cut = subst (λ objects. CutOff (view c.args.first.now) objects (view c.cut.new.self)) (sym more)
          (CutOff-more (view c.args.first.now) first (view c.cut.new.self) _ (slice_range owed from to) i.cut (range_within owed first.hands from to low i.left) left);
      chunks = subst (All (IsChunkOf c.args.shared.now)) (sym items) (All-push (IsChunkOf c.args.shared.now) c.loop-from.chunks.items c.cut.result i.chunks cut.caller.1);
      objects = ap objects_of items ∙ (objects_of-append c.loop-from.chunks.items c.cut.result ∙ (ap₂ (λ l r. l ++ r) i.objects (cut.objects ∙ copied) ∙ sym more));
      left = λ n. subst (λ (x : View). count_in n (drop to owed) ≤ count_in n x.hands) (sym left) (rest_within owed first.hands from to low i.left n);
      low = omega (arith, least);
      whole = λ more_left. omega (arith, least, long, whole, more_left);
      few = omega (arith, test, long, whole);
      room = let room = i.room in let same = c.push_reserved.ensures.capacity in omega (arith, room, same);
    }
