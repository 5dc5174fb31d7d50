use Rattle.std.proofs.Common.{◌≡◌, ◌+◌, ◌∙◌, ◌++◌, ◌∷◌, [], All, length, map, sym, ap, subst, arith, append_assoc, List, slice_index_or}
use Rattle.std.proofs.lemmas.List.{length-append, map-append}
use Rattle.std.proofs.lemmas.List.Elements.{All-push}
use Rattle.entry_base.specs.Sessions.{view, IsOf}
use Rattle.phases.specs.declared.markers.Marking.{Marking}
use Rattle.phases.specs.Sessions.{GaveOut, IsGiven}
use Rattle.phases.proofs.Given.{GaveOut-more, IsGiven-new}
use Rattle.phases.proofs.Pushes.{placed_push}
use Rattle.phases.proofs.markers.split_markings.Goals as goal

pub loop-thief-preserved : goal.loop-thief-preserved
loop-thief-preserved c =
    let i = c.loop-thief.invariant in
    let yielded = c.loop-thief.yielded in
    let thief = c.in-Some.thief in
    let number = c.loop-thief.number in
    let was = c.loop-thief.markings.items in
    let split = c.split-session.ensures in
    let marking : Marking = record { session = c.split-session.result; marker = c.in_ok-marker.marker; thief = thief; dealt = record { chunks = 0; scans = 0 } } in
    let items : c.push_reserved.new.self.items ≡ was ++ marking ∷ [] = c.push_reserved.ensures.items in
    let all : yielded ++ thief ∷ c.next.new.self.rest.items ≡ c.args.thieves.items = ap (λ l. yielded ++ l) (sym c.in-Some.ensures.steps.0) ∙ i.all in
    let whole = ap length all in
    let long = length-append yielded (thief ∷ c.next.new.self.rest.items) in
    let count = length-append yielded (thief ∷ []) in
    let more = ap length items ∙ length-append was (marking ∷ []) in
    let few = c.requires.few in
    let next = i.number in
    let same = i.long in
    let first = view c.args.first.now in
    let before = view c.loop-thief.first in
    record {
      all = append_assoc yielded (thief ∷ []) c.next.new.self.rest.items ∙ all;
      caller = split.callers.0;
      gave = subst (λ many. GaveOut first 8 many (view c.split-session.new.self)) (sym count)
          (GaveOut-more first before (view c.split-session.new.self) 8 (length yielded) number i.gave next (c.requires.numbers.0 number (omega (arith, next)) (omega (arith, next, whole, long, few))) split.left);
      number = omega (arith, next, count);
      long = omega (arith, more, same, count);
      room = let room = i.room in let cap = c.push_reserved.ensures.capacity in omega (arith, room, cap);
      thieves = ap (map (λ (m : Marking). m.thief)) items ∙ (map-append (λ (m : Marking). m.thief) was (marking ∷ []) ∙ ap (λ l. l ++ thief ∷ []) i.thieves);
      made = subst (All (λ (m : Marking). IsOf c.args.shared.now m.session × (m.marker ≡ c.args.shared.now.objects))) (sym items)
          (All-push (λ (m : Marking). IsOf c.args.shared.now m.session × (m.marker ≡ c.args.shared.now.objects)) was marking i.made (split.callers.1, c.in_ok-marker.ensures.room));
      given = λ k d low. subst (λ (ms : List Marking). IsGiven first (8 + k) (view (slice_index_or ms k d).session)) (sym items)
          (placed_push (λ p (m : Marking). IsGiven first (8 + p) (view m.session)) was marking i.given
          (subst (λ n. IsGiven first n (view c.split-session.result)) (omega (arith, next, same)) (IsGiven-new first before (view c.split-session.result) 8 (length yielded) number i.gave split.right))
          k d (omega (arith, low, more)));
    }
