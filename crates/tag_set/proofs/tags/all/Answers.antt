use Rattle.std.proofs.Common.{◌+◌, refl, arith}
use Rattle.tag_set.proofs.TagList.{Lists, AreTagsBelow, lists_none, lists_room, lists_one_more, lists_same, lists_all, ascending_all, every_tag}
use Rattle.tag_set.proofs.tags.all.Goals as goal
use Rattle.tag_set.proofs.tags.all.Goals.{in-Some, in_default}

pub loop-byte-init : goal.loop-byte-init
loop-byte-init c = lists_none _ refl

pub bounds-tags-count : goal.bounds-tags-count
bounds-tags-count c = lists_room _ _ _ c.loop-byte.invariant (c.in-Some.ensures.some.0 refl)

pub listed : goal.listed
listed c = omega (arith, lists_room _ _ _ c.loop-byte.invariant (c.in-Some.ensures.some.0 refl))

pub overflow_add-count : goal.overflow_add-count
overflow_add-count c = omega (arith, lists_room _ _ _ c.loop-byte.invariant (c.in-Some.ensures.some.0 refl))

pub loop-byte-preserved : goal.loop-byte-preserved
loop-byte-preserved c =
    elim c.match-old.branch [
      | in-Some w ↦ lists_one_more _ _ _ c.loop-byte.invariant (w.in-Some.ensures.some.0 refl) _ w.in-Some.ensures.byte _ _ w.tags-is w.count-is
      | in_default w ↦ lists_same _ _ _ c.loop-byte.invariant (omega arith) (λ t. cc (w.in_default.ensures.some.1 t)) _ _ w.tags-is w.count-is
    ]

pub returns-after-old : goal.returns-after-old
returns-after-old c =
    let listed : Lists c.match-old.tags c.match-old.count (c.loop-byte.byte + 1) =
    elim c.match-old.branch [
      | in-Some w ↦ lists_one_more _ _ _ c.loop-byte.invariant (w.in-Some.ensures.some.0 refl) _ w.in-Some.ensures.byte _ _ w.tags-is w.count-is
      | in_default w ↦ lists_same _ _ _ c.loop-byte.invariant (omega arith) (λ t. cc (w.in_default.ensures.some.1 t)) _ _ w.tags-is w.count-is
    ]
    in
    let full : AreTagsBelow c.match-old.tags 256 = lists_all _ _ _ listed (omega arith) in
    record { tags = full.tags; ascending = ascending_all _ full; every = every_tag _ full }
