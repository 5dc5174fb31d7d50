use Rattle.std.proofs.Common.{sym, ap, ◌∙◌}
use Rattle.std.specs.Map.Iter.{deref_pair}
use Rattle.std.proofs.lemmas.Cmp.{nat_cmp_total}
use Rattle.std.proofs.lemmas.Map.Iter.{btree_map_turn, rest_more}
use Rattle.plain_program.specs.Entries.{at}
use Rattle.plain_table.specs.Finish.{ticket_kept}
use Rattle.plain_program.specs.Kept.{Kept, shown, shown_cycle}
use Rattle.plain_program.proofs.SweptParts.{IsMadeExcept-next}
use Rattle.plain_program.proofs.state.State.swept_tickets.Goals as goal

pub loop-by-preserved : goal.loop-by-preserved
loop-by-preserved c =
    let start = c.into_iter-by-iterator.ensures.into_iter_gives in
    let turn = btree_map_turn deref_pair c.loop-by.yielded c.into_iter-by-iterator.result c.loop-by.by-iterator c.next.new.self c.next.result (c.in-Some.by, c.in-Some.index)
    c.loop-by.yielded_by c.in-Some.is c.next.ensures.steps nat_cmp_total c.self.inside.tickets start.0 start.5 in
    let by = c.in-Some.by.now in
    let there = sym (ap (λ (k : Kept). at k.tickets by) c.self.view_is) ∙ turn.1 in
    IsMadeExcept-next (ticket_kept (shown c.args.self.now) (shown_cycle c.args.cycle.now)) (at c.args.self.now.tickets)
    (at c.loop-by.tickets.entries) (at c.set_or_clear.new.map.entries) c.loop-by.by-iterator c.next.new.self by c.in-Some.index.now c.swept_ticket.result
    (rest_more deref_pair c.loop-by.by-iterator c.next.new.self c.next.result (c.in-Some.by, c.in-Some.index) c.in-Some.is c.next.ensures.steps)
    there c.swept_ticket.ensures c.loop-by.invariant c.in_ok-set_or_clear.ensures
