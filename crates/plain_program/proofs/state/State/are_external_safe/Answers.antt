use Rattle.std.proofs.Common.{refl, sym, ap, ◌∙◌}
use Rattle.std.specs.Map.Iter.{deref_pair}
use Rattle.std.proofs.lemmas.Cmp.{nat_cmp_total}
use Rattle.std.proofs.lemmas.Map.Iter.{btree_map_turn, rest_all, rest_more}
use Rattle.plain_program.specs.Entries.{at}
use Rattle.plain_program.specs.Kept.{Kept, shown, shown_cycle}
use Rattle.plain_program.proofs.RestOfEntries.{RestDecides-start, RestDecides-turn, All-from_RestDecides}
use Rattle.plain_program.proofs.SafeFields.{IsSafeEntry, AreExternalSafe-refuted, external_safe-from_entries}
use Rattle.plain_program.proofs.state.State.are_external_safe.Goals as goal
use Rattle.plain_program.proofs.state.State.are_external_safe.Goals.{else-object_of-object-via-then-object_of-object+else-not-is_safe, else-object_of-object-via-else-object_of-object}

pub loop-number-init : goal.loop-number-init
loop-number-init c = RestDecides-start (IsSafeEntry (shown c.args.self.now) (shown_cycle c.args.cycle.now) c.args.object) c.args.self.now.external_bound c.into_iter-number-iterator.result
    (c.into_iter-number-iterator.ensures.into_iter_gives.0 ∙ ap (λ (k : Kept). k.external_bound) c.self.view_is)

pub returns-then-not-is_safe : goal.returns-then-not-is_safe
returns-then-not-is_safe c =
    let start = c.into_iter-number-iterator.ensures.into_iter_gives in
    let n = c.in-Some.number.now in
    let turn = btree_map_turn deref_pair c.loop-number.yielded c.into_iter-number-iterator.result c.loop-number.number-iterator c.next.new.self c.next.result (c.in-Some.number, c.in-Some.id)
    c.loop-number.yielded_by c.in-Some.is c.next.ensures.steps nat_cmp_total c.self.inside.external_bound start.0 start.5 in
    AreExternalSafe-refuted (shown c.args.self.now) (shown_cycle c.args.cycle.now) c.args.object n c.in-Some.id.now c.is_safe.result
    c.is_safe.ensures c.if-not-is_safe.true (sym c.object_of.ensures ∙ c.if-object_of-object.true)
    (ap (λ (k : Kept). at k.external_bound n) (sym c.self.view_is) ∙ turn.1)

pub loop-number-preserved : goal.loop-number-preserved
loop-number-preserved c =
    RestDecides-turn (IsSafeEntry (shown c.args.self.now) (shown_cycle c.args.cycle.now) c.args.object) c.args.self.now.external_bound c.loop-number.number-iterator c.next.new.self (c.in-Some.number.now, c.in-Some.id.now)
    c.loop-number.invariant
    (rest_more deref_pair c.loop-number.number-iterator c.next.new.self c.next.result (c.in-Some.number, c.in-Some.id) c.in-Some.is c.next.ensures.steps)
    (elim c.else-object_of-object.branch [
      | else-object_of-object-via-then-object_of-object+else-not-is_safe w ↦ λ own. w.is_safe.ensures.0 w.if-not-is_safe.false
      | else-object_of-object-via-else-object_of-object w ↦ λ own. absurd (w.if-object_of-object.false (c.object_of.ensures ∙ own))
    ])

pub returns : goal.returns
returns c = (
  λ h. external_safe-from_entries (shown c.args.self.now) (shown_cycle c.args.cycle.now) c.args.object c.args.self.now.external_bound (λ n. refl)
      (All-from_RestDecides (IsSafeEntry (shown c.args.self.now) (shown_cycle c.args.cycle.now) c.args.object) c.args.self.now.external_bound c.loop-number.number-iterator c.loop-number.invariant
      (rest_all deref_pair c.loop-number.number-iterator c.next.new.self c.next.result c.in-None.is c.next.ensures.steps)),
  λ all. refl,
)
