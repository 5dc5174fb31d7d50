use Rattle.std.proofs.Common.{◌≤◌, ◌∙◌, [], ◌∷◌, ap, subst, arith}
use Rattle.std.specs.Prelude.{vec_capacity}
use Rattle.entry_base.specs.Lists.{count_in}
use Rattle.entry_base.specs.Openings.{sizes_in}
use Rattle.entry_base.specs.Sessions.{view}
use Rattle.entry_base.proofs.OneByOne.{own_trans}
use Rattle.entry_base.proofs.Sums.{count_append}
use Rattle.call_base.proofs.CallsInOrder.{called_trans}
use Rattle.marker.proofs.Counts.{count_cons}
use Rattle.marker.proofs.Passes.{has_room, now_white}
use Rattle.marker.proofs.scans.pass_reference.Goals as goal

pub push_reserved-requires : goal.push_reserved-requires
push_reserved-requires c =
    let e = c.shade.ensures in
    let r = c.in-Some.ensures in
    let hands = now_white c.in-Some.target _ _ _ e.shaded.hands c.if-shade.true ∙ ap (λ l. c.in-Some.target ∷ l) r.leaves.hands in
    let room = has_room _ (view c.shade.new.s) (view c.args.s.now).hands c.args.stack.now.items c.in-Some.target c.args.object (vec_capacity c.args.stack.now) e.caller.1 hands e.shaded.once c.requires.hands
    (subst (λ o. (sizes_in o).objects ≤ vec_capacity c.args.stack.now) c.requires.caller.1.opened c.requires.room) in
    let long = c.args.stack.now.ok in
    omega (arith, room, long)

pub returns-then-shade-clause-called : goal.returns-then-shade-clause-called
returns-then-shade-clause-called c = called_trans _ _ _ [] [] c.ref_at.ensures.called c.shade.ensures.called

pub returns-else-shade-clause-called : goal.returns-else-shade-clause-called
returns-else-shade-clause-called c = called_trans _ _ _ [] [] c.ref_at.ensures.called c.shade.ensures.called

pub returns-then-shade-clause-brings : goal.returns-then-shade-clause-brings
returns-then-shade-clause-brings c =
    let e = c.shade.ensures in
    let r = c.in-Some.ensures in
    let hands = now_white c.in-Some.target _ _ _ e.shaded.hands c.if-shade.true ∙ ap (λ l. c.in-Some.target ∷ l) r.leaves.hands in (
      c.in-Some.target ∷ [],
      record {
        own = own_trans _ _ _ r.leaves.own e.shaded.own;
        hands = λ q. let a = ap (count_in q) hands in let b = count_cons q c.in-Some.target (view c.args.s.now).hands in omega (arith, a, b);
        stack = λ q. ap (count_in q) c.push_reserved.ensures.items ∙ count_append q c.args.stack.now.items (c.in-Some.target ∷ []);
      },
    )
