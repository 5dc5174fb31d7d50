use Rattle.std.proofs.Common.{◌≡◌, ℕ, List, length, take, Some, sym, ap, subst, ◌∙◌, arith}
use Rattle.std.specs.Vec.{with_items}
use Rattle.std.proofs.lemmas.List.{with_items_is}
use Rattle.entry_word.specs.declared.image.Shape.{Shape}
use Rattle.entry_word.specs.Image.{IsValidShape}
use Rattle.sweeper.specs.Late.{AreOwed}
use Rattle.mutator_calls.specs.declared.heap.Mutator.{Mutator}
use Rattle.mutator_calls.specs.Cycles.{StartsEach}
use Rattle.mutator_calls.proofs.CycleEnds.{StartsEach-begun, owed-few}
use Rattle.mutator_calls.proofs.heap.Mutator.start.Goals as goal

pub list_first-requires : goal.list_first-requires
list_first-requires c =
    let begun = c.in_ok-area.ensures in
    let shape = subst IsValidShape (sym begun.shape) c.requires.ready.shape in
    let few = owed-few c.begin.new.image shape begun.lawful begun.cycle c.in_ok-area.area.roots.items begun.owed in
    let objects = ap (λ (sh : Shape). sh.objects) begun.shape in
    let room = c.requires.ready.room in
    omega (arith, few, objects, room, ap length c.deref_mut.ensures.value, ap length c.roots-2.ensures)

pub returns-clause-ready : goal.returns-clause-ready
returns-clause-ready c =
    let old = c.args.self.now in
    let begun = c.in_ok-area.ensures in
    let roots = c.in_ok-area.area.roots.items in
    let image = c.begin.new.image in
    let list = c.list_first.new.list in
    let shape = subst IsValidShape (sym begun.shape) c.requires.ready.shape in
    let objects = ap (λ (sh : Shape). sh.objects) begun.shape in
    let few = owed-few image shape begun.lawful begun.cycle roots begun.owed in
    let long : length list ≡ old.list.len = c.list_first.ensures.long ∙ c.deref_mut.ensures.len in
    let list_is : (with_items old.list list).items ≡ list = with_items_is old.list list long in
    let listed : take (length c.roots.result.now) (with_items old.list list).items ≡ roots =
    ap (λ (xs : List ℕ). take (length c.roots.result.now) xs) list_is
    ∙ ap (λ (xs : List ℕ). take (length xs) list) (c.roots.ensures ∙ sym c.roots-2.ensures)
    ∙ c.list_first.ensures.first ∙ c.roots-2.ensures in
    record {
      shape = shape;
      lawful = begun.lawful;
      room = ap length list_is ∙ c.list_first.ensures.long ∙ ap length c.deref_mut.ensures.value ∙ c.requires.ready.room ∙ sym objects;
      few = omega (arith, few, ap length c.roots.ensures);
      owed = subst (AreOwed image.words.items) (sym listed) begun.owed;
      area = λ one. begun.room;
    }

pub returns-clause-starts : goal.returns-clause-starts
returns-clause-starts c =
    let old = c.args.self.now in
    let begun = c.in_ok-area.ensures in
    let area = c.in_ok-area.area in
    let list = c.list_first.new.list in
    let long : length list ≡ old.list.len = c.list_first.ensures.long ∙ c.deref_mut.ensures.len in
    let list_is : (with_items old.list list).items ≡ list = with_items_is old.list list long in
    let listed : take (length c.roots.result.now) (with_items old.list list).items ≡ area.roots.items =
    ap (λ (xs : List ℕ). take (length c.roots.result.now) xs) list_is
    ∙ ap (λ (xs : List ℕ). take (length xs) list) (c.roots.ensures ∙ sym c.roots-2.ensures)
    ∙ c.list_first.ensures.first ∙ c.roots-2.ensures in
    let new : Mutator = record { image = c.begin.new.image; list = with_items old.list list; owed = length c.roots.result.now; area = Some area } in
    subst (StartsEach old new c.args.policy) (sym c.start-start.ensures) (StartsEach-begun old new c.args.policy area begun.tables listed)
