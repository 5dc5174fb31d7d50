use Rattle.std.proofs.Common.{ℕ, List, take, refl, sym, ap, subst, ◌∙◌}
use Rattle.entry_word.specs.declared.image.Shape.{Shape}
use Rattle.entry_word.specs.Image.{IsValidShape, image_of}
use Rattle.sweeper.specs.Late.{LateMarks}
use Rattle.mutator_calls.specs.declared.heap.Mutator.{Mutator}
use Rattle.mutator_calls.proofs.CycleEnds.{FinishesEach-swept, IsReady-idle}
use Rattle.mutator_calls.proofs.heap.Mutator.finish.Goals as goal

pub returns-clause-ready : goal.returns-clause-ready
returns-clause-ready c =
    let old = c.args.self.now in
    let shape = c.sweep.ensures.shape ∙ c.late_mark.ensures.shape in
    IsReady-idle (record { image = c.sweep.new.image; list = old.list; owed = 0; area = c.take.new.self })
    (subst IsValidShape (sym shape) c.requires.ready.shape) c.sweep.ensures.lawful
    (c.requires.ready.room ∙ ap (λ (sh : Shape). sh.objects) (sym shape)) refl c.sweep.ensures.outside

pub returns-clause-finishes : goal.returns-clause-finishes
returns-clause-finishes c =
    let old = c.args.self.now in
    let new : Mutator = record { image = c.sweep.new.image; list = old.list; owed = 0; area = c.take.new.self } in
    FinishesEach-swept old new (image_of c.late_mark.new.image) c.late_mark.result c.sweep.result
    (subst (λ (xs : List ℕ). LateMarks (image_of old.image) (image_of c.late_mark.new.image) (take old.owed xs) c.late_mark.result) c.deref.ensures.value c.late_mark.ensures.tables)
    c.sweep.ensures.tables
