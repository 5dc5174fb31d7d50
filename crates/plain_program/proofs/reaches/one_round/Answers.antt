use Rattle.std.proofs.Common.{◌≡◌, false, true, arith, sym, ap, ◌∙◌}
use Rattle.std.proofs.lemmas.Grind.{common_steps}
use Rattle.std.specs.Map.Iter.{deref_pair}
use Rattle.std.proofs.lemmas.Map.Iter.{btree_map_turn, rest_all}
use Rattle.std.specs.List.{list_all}
use Rattle.plain_program.specs.Entries.{has}
use Rattle.plain_program.specs.Rounds.{leads}
use Rattle.plain_program.proofs.EntryLists.{pair_cmp_total}
use Rattle.plain_program.proofs.Rounds.{Keeps-adds, StaysWithin-adds, unfound-adds, IsClosed-from_leads}
use Rattle.plain_program.proofs.reaches.one_round.Goals as goal

pub loop-object-preserved-then-not-contains : goal.loop-object-preserved-then-not-contains
loop-object-preserved-then-not-contains c =
    let refs = c.args.refs.now.entries in
    let found = c.loop-object.found.keys in
    let after = c.add.new.set.keys in
    let start = c.into_iter-object-iterator.ensures.into_iter_gives in
    let turn = btree_map_turn deref_pair c.loop-object.yielded c.into_iter-object-iterator.result c.loop-object.object-iterator c.next.new.self c.next.result (c.in-Some.field-0-0, c.in-Some.target)
    c.loop-object.yielded_by c.in-Some.is c.next.ensures.steps pair_cmp_total c.args.refs.now start.0 start.5 in
    let o = c.in-Some.field-0-0.now.0 in
    let k = c.in-Some.field-0-0.now.1 in
    let q = c.in-Some.target.now in
    let old : has found o ≡ true = sym c.contains.ensures ∙ c.if-contains.true in
    let new : has found q ≡ false = grind (arith, common_steps) in
    let fewer = unfound-adds refs found o k q after turn.1 new c.in_ok-add.ensures in
    record {
      kept = λ i h. Keeps-adds found q after c.in_ok-add.ensures i (c.loop-object.invariant.kept i h);
      within = λ globals variables h. StaysWithin-adds refs found o k q after turn.1 old c.in_ok-add.ensures globals variables (c.loop-object.invariant.within globals variables h);
      no_more = omega (arith, fewer, c.loop-object.invariant.no_more);
      fewer = λ _. omega (arith, fewer, c.loop-object.invariant.no_more);
      passed = λ e. absurd (cc);
    }

pub returns-clause-closed : goal.returns-clause-closed
returns-clause-closed c = λ still.
    let nothing = rest_all deref_pair c.loop-object.object-iterator c.next.new.self c.next.result c.in-None.is c.next.ensures.steps in
    IsClosed-from_leads c.args.refs.now.entries c.loop-object.found.keys (c.loop-object.invariant.passed still ∙ ap (list_all (leads c.loop-object.found.keys)) nothing)
