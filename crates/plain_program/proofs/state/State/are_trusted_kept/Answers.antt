use Rattle.std.proofs.Common.{ℕ, List, refl, sym, ap, subst, ◌∙◌}
use Rattle.std.specs.List.{All}
use Rattle.std.specs.Map.Iter.{deref_pair}
use Rattle.std.proofs.lemmas.Cmp.{nat_cmp_total}
use Rattle.std.proofs.lemmas.Map.Iter.{btree_map_turn, rest_more, rest_all}
use Rattle.plain_table.specs.declared.events.Field.TheVariants as field
use Rattle.plain_program.specs.Entries.{at}
use Rattle.plain_program.specs.KeptFields.{IsEntryKept}
use Rattle.plain_program.specs.Kept.{Kept, shown, shown_cycle}
use Rattle.plain_program.proofs.RestOfEntries.{RestDecides-turn, All-from_RestDecides}
use Rattle.plain_program.proofs.KeptFields.{All-at, IsEntryKept-unreached, IsFieldKept-fails}
use Rattle.plain_program.proofs.state.State.are_trusted_kept.Goals as goal
use Rattle.plain_program.proofs.state.State.are_trusted_kept.Goals.{else-contains-via-then-contains+else-not-is_own_kept, else-contains-via-else-contains}

pub loop-number-init : goal.loop-number-init
loop-number-init c = λ rest.
    let start = c.into_iter-number-iterator.ensures.into_iter_gives in
    let P = λ (e : ℕ × ℕ). IsEntryKept (shown c.args.self.now) (shown_cycle c.args.cycle.now) c.args.reached.now.keys (field.Trusted e.0) e.1 in
    subst (λ (es : List (ℕ × ℕ)). All P es) (start.0 ∙ ap (λ (k : Kept). k.trusted_bound) c.self.view_is) rest

pub loop-number-preserved : goal.loop-number-preserved
loop-number-preserved c =
    let s = shown c.args.self.now in
    let cycle = shown_cycle c.args.cycle.now in
    let reached = c.args.reached.now.keys in
    let P = λ (e : ℕ × ℕ). IsEntryKept s cycle reached (field.Trusted e.0) e.1 in
    let n = c.in-Some.number.now in
    let id = c.in-Some.id.now in
    let more = rest_more deref_pair c.loop-number.number-iterator c.next.new.self c.next.result (c.in-Some.number, c.in-Some.id) c.in-Some.is c.next.ensures.steps in
    let here : P (n, id) =
    elim c.else-contains.branch [
      | else-contains-via-then-contains+else-not-is_own_kept w ↦ λ _. w.is_own_kept.ensures.0 w.if-not-is_own_kept.false
      | else-contains-via-else-contains w ↦ IsEntryKept-unreached s cycle reached (field.Trusted n) id n c.contains.result refl c.contains.ensures w.if-contains.false
    ] in
    RestDecides-turn P c.args.self.now.trusted_bound c.loop-number.number-iterator c.next.new.self (n, id) c.loop-number.invariant more here

pub returns-then-not-is_own_kept : goal.returns-then-not-is_own_kept
returns-then-not-is_own_kept c =
    let s = shown c.args.self.now in
    let cycle = shown_cycle c.args.cycle.now in
    let reached = c.args.reached.now.keys in
    let n = c.in-Some.number.now in
    let id = c.in-Some.id.now in
    let start = c.into_iter-number-iterator.ensures.into_iter_gives in
    let turn = btree_map_turn deref_pair c.loop-number.yielded c.into_iter-number-iterator.result c.loop-number.number-iterator c.next.new.self c.next.result (c.in-Some.number, c.in-Some.id)
    c.loop-number.yielded_by c.in-Some.is c.next.ensures.steps nat_cmp_total c.self.inside.trusted_bound start.0 start.5 in
    let bound = ap (λ (k : Kept). at k.trusted_bound n) (sym c.self.view_is) ∙ turn.1 in (
      λ h. absurd (cc),
      λ all. absurd (IsFieldKept-fails s cycle reached (field.Trusted n) id n c.contains.result refl c.contains.ensures c.if-contains.true bound
          c.is_own_kept.result c.is_own_kept.ensures c.if-not-is_own_kept.true (all n)),
    )

pub returns : goal.returns
returns c =
    let Q = λ (n id : ℕ). IsEntryKept (shown c.args.self.now) (shown_cycle c.args.cycle.now) c.args.reached.now.keys (field.Trusted n) id in
    let nothing = rest_all deref_pair c.loop-number.number-iterator c.next.new.self c.next.result c.in-None.is c.next.ensures.steps in
    let all = All-from_RestDecides (λ (e : ℕ × ℕ). Q e.0 e.1) c.args.self.now.trusted_bound c.loop-number.number-iterator c.loop-number.invariant nothing in
    (λ _. All-at Q c.args.self.now.trusted_bound all, λ _. refl)
