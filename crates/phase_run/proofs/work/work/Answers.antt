-- The list has the objects that are shaded and not scanned; and what the phase leaves is put together again.
use Rattle.std.proofs.Common.{◌≡◌, ◌∙◌, ℕ, List, length, take, refl, sym, ap, subst, arith}
use Rattle.entry_word.specs.Image.{sizes_of}
use Rattle.entry_base.specs.Lists.{count_in}
use Rattle.entry_base.specs.Openings.{opening_of}
use Rattle.std.specs.Vec.{with_items}
use Rattle.std.proofs.lemmas.List.{with_items_is}
use Rattle.mutator_calls.specs.declared.heap.Mutator.{Mutator}
use Rattle.phases.specs.Phases.{Ran}
use Rattle.phase_run.proofs.Listed.{AreOwed-counted}
use Rattle.phase_run.proofs.WorkRuns.{WorksEach-ran}
use Rattle.phase_run.proofs.Works.{IsReady-worked, shaded-few}
use Rattle.phase_run.proofs.work.work.Goals as goal

pub run_phase-requires-clause-owed : goal.run_phase-requires-clause-owed
run_phase-requires-clause-owed g c lifetimes live o =
    let m = c.args.mutator in
    let lawful = c.requires.ready.lawful in
    ap (λ (xs : List ℕ). count_in o (take m.owed xs)) c.deref.ensures.value
    ∙ AreOwed-counted m.image.words.items (sizes_of m.image.shape) lawful.0 lawful.1 lawful.2.sizes lawful.2.words (take m.owed m.list.items) c.requires.ready.owed o

pub list_first-requires : goal.list_first-requires
list_first-requires g c =
    let m = c.args.mutator in
    let out = c.in_ok-out.out in
    let ran = subst (λ (xs : List ℕ). Ran c.args.limits.now (opening_of m.image) c.args.phase.now.calls (take m.owed xs) out) c.deref.ensures.value c.in_ok-out.ensures.ran in
    let few = shaded-few c.args.limits.now m c.args.phase.now.calls c.requires.ready out ran in
    let shaded = ap (λ (xs : List ℕ). length xs) c.deref-2.ensures.value in
    let room = ap (λ (xs : List ℕ). length xs) c.deref_mut.ensures.value in
    omega (arith, few, shaded, room)

pub returns-clause-ready : goal.returns-clause-ready
returns-clause-ready g c =
    let m = c.args.mutator in
    let out = c.in_ok-out.out in
    let ran = subst (λ (xs : List ℕ). Ran c.args.limits.now (opening_of m.image) c.args.phase.now.calls (take m.owed xs) out) c.deref.ensures.value c.in_ok-out.ensures.ran in
    let ws = c.list_first.new.list in
    let is : (with_items m.list ws).items ≡ ws = with_items_is m.list ws (c.list_first.ensures.long ∙ c.deref_mut.ensures.len) in
    let new : Mutator = record { image = out.image; list = with_items m.list ws; owed = c.len.result; area = m.area } in
    IsReady-worked c.args.limits.now m c.args.phase.now.calls c.requires.ready out ran new refl
    (ap (λ (xs : List ℕ). length xs) is ∙ c.list_first.ensures.long ∙ ap (λ (xs : List ℕ). length xs) c.deref_mut.ensures.value)
    (c.len.ensures ∙ sym c.deref-2.ensures.len ∙ ap (λ (xs : List ℕ). length xs) c.deref-2.ensures.value)
    (ap (λ (xs : List ℕ). take c.len.result xs) is ∙ ap (λ (n : ℕ). take n ws) (c.len.ensures ∙ sym c.deref-2.ensures.len) ∙ c.list_first.ensures.first ∙ c.deref-2.ensures.value)
    refl

pub returns-clause-works : goal.returns-clause-works
returns-clause-works g c =
    let m = c.args.mutator in
    let out = c.in_ok-out.out in
    let ran = subst (λ (xs : List ℕ). Ran c.args.limits.now (opening_of m.image) c.args.phase.now.calls (take m.owed xs) out) c.deref.ensures.value c.in_ok-out.ensures.ran in
    let ws = c.list_first.new.list in
    let is : (with_items m.list ws).items ≡ ws = with_items_is m.list ws (c.list_first.ensures.long ∙ c.deref_mut.ensures.len) in
    let new : Mutator = record { image = out.image; list = with_items m.list ws; owed = c.len.result; area = m.area } in
    WorksEach-ran c.args.limits.now m new c.args.phase.now c.requires.ready c.requires.calls out ran refl
    (ap (λ (xs : List ℕ). length xs) is ∙ c.list_first.ensures.long ∙ ap (λ (xs : List ℕ). length xs) c.deref_mut.ensures.value)
    (c.len.ensures ∙ sym c.deref-2.ensures.len ∙ ap (λ (xs : List ℕ). length xs) c.deref-2.ensures.value)
    (ap (λ (xs : List ℕ). take c.len.result xs) is ∙ ap (λ (n : ℕ). take n ws) (c.len.ensures ∙ sym c.deref-2.ensures.len) ∙ c.list_first.ensures.first ∙ c.deref-2.ensures.value)
    refl
