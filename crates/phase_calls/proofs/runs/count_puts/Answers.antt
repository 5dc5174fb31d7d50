-- Each turn counts the put of one call more.
use Rattle.std.proofs.Common.{length, ap, inl, inr, arith}
use Rattle.phase_calls.proofs.CallRows.{puts_of-cons, puts_of-end}
use Rattle.phase_calls.proofs.runs.count_puts.Goals as goal

pub overflow_add-puts : goal.overflow_add-puts
overflow_add-puts c = let few = c.loop-call.invariant.1 in let one = c.puts_by-puts.ensures.one in let all = c.requires in omega arith

pub loop-call-preserved : goal.loop-call-preserved
loop-call-preserved c =
    let turn = puts_of-cons c.loop-call.call-iterator.a.rest.now c.next.new.self.a.rest.now c.loop-call.call-iterator.b.rest.now c.next.new.self.b.rest.now
    c.in-Some.call.now c.in-Some.said.now c.in-Some.ensures.steps.0 c.in-Some.ensures.steps.1 in
    let longer = ap length c.in-Some.ensures.steps.0 in
    let before = c.loop-call.invariant in
    let one = c.puts_by-puts.ensures.one in
    let puts = c.puts_by-puts.ensures.puts in
    (omega (arith, before.0, turn, puts), omega (arith, before.1, longer, one))

pub returns-clause-puts : goal.returns-clause-puts
returns-clause-puts c =
    let rest = puts_of-end c.loop-call.call-iterator.a.rest.now c.loop-call.call-iterator.b.rest.now
    (elim c.in-None.ensures.steps [ inl calls ↦ inl calls.1.0 | inr replies ↦ inr replies.1.0 ]) in
    let before = c.loop-call.invariant.0 in
    omega (arith, before, rest)

pub returns-clause-few : goal.returns-clause-few
returns-clause-few c = let few = c.loop-call.invariant.1 in omega (arith, few)
