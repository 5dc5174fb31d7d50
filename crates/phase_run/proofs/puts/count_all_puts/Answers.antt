-- Each turn counts the puts of one mutator more; where one list has ended, the rest puts nothing.
use Rattle.std.proofs.Common.{◌≡◌, ◌⊎◌, List, [], ◌∷◌, length, ◌∙◌, refl, inl, inr, ap, arith}
use Rattle.plain_table.specs.declared.scripts.Op.{Op}
use Rattle.plain_table.specs.declared.reports.Reply.{Reply}
use Rattle.script_reader.specs.Valid.{lists_length}
use Rattle.phase_calls.specs.Calls.{puts_of}
use Rattle.phase_run.specs.Run.{puts_of_all}
use Rattle.phase_run.proofs.puts.count_all_puts.Goals as goal

puts_of_all-ended : (calls : List (List Op)) (replies : List (List Reply)) → (length calls ≡ 0) ⊎ (length replies ≡ 0) → puts_of_all calls replies ≡ 0
puts_of_all-ended [] replies ended = refl
puts_of_all-ended (made ∷ calls) [] ended = refl
puts_of_all-ended (made ∷ calls) (said ∷ replies) (inl none) = absurd (omega (arith, none))
puts_of_all-ended (made ∷ calls) (said ∷ replies) (inr none) = absurd (omega (arith, none))

pub count_puts-puts-requires : goal.count_puts-puts-requires
count_puts-puts-requires c =
    let calls = ap lists_length c.in-Some.ensures.steps.0 in
    let made = ap (λ (ops : List Op). length ops) c.as_slice.ensures in
    let before = c.loop-made.invariant.1 in
    let most = c.requires in
    omega (arith, calls, made, before, most)

pub overflow_add-puts : goal.overflow_add-puts
overflow_add-puts c =
    let calls = ap lists_length c.in-Some.ensures.steps.0 in
    let made = ap (λ (ops : List Op). length ops) c.as_slice.ensures in
    let before = c.loop-made.invariant.1 in
    let few = c.count_puts-puts.ensures.few in
    let most = c.requires in
    omega (arith, calls, made, before, few, most)

pub loop-made-preserved : goal.loop-made-preserved
loop-made-preserved c =
    let calls = ap lists_length c.in-Some.ensures.steps.0 in
    let made = ap (λ (ops : List Op). length ops) c.as_slice.ensures in
    let before = c.loop-made.invariant in
    let few = c.count_puts-puts.ensures.few in
    let puts = c.count_puts-puts.ensures.puts ∙ ap (λ (ops : List Op). puts_of ops c.as_slice-in-loop-made.result.now) c.as_slice.ensures
    ∙ ap (puts_of c.in-Some.made.now) c.as_slice-in-loop-made.ensures in
    let turn = ap (λ (lists : List (List Op)). puts_of_all lists c.loop-made.made-iterator.b.rest.now) c.in-Some.ensures.steps.0
    ∙ ap (puts_of_all (c.in-Some.made.now ∷ c.next.new.self.a.rest.now)) c.in-Some.ensures.steps.1 in
    (omega (arith, before.0, turn, puts), omega (arith, calls, made, before.1, few))

pub returns-clause-puts : goal.returns-clause-puts
returns-clause-puts c =
    let calls = c.loop-made.made-iterator.a.rest.now in
    let replies = c.loop-made.made-iterator.b.rest.now in
    let done = c.loop-made.invariant.0 in
    elim c.in-None.ensures.steps [
      | inl h ↦ let none = puts_of_all-ended calls replies (inl h.1.0) in omega (arith, done, none)
      | inr h ↦ let none = puts_of_all-ended calls replies (inr h.1.0) in omega (arith, done, none)
    ]
