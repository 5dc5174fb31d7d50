use Rattle.std.proofs.Common.{◌≡◌, length, None, refl, sym, ap, subst, ◌∙◌, arith, rules}
use Rattle.entry_word.specs.declared.image.Shape.{Shape}
use Rattle.entry_word.specs.Image.{IsValidShape}
use Rattle.mutator_calls.proofs.CycleEnds.{IsReady-idle}
use Rattle.mutator_calls.proofs.heap.Mutator.fresh.Goals as goal

pub returns-clause-ready : goal.returns-clause-ready
returns-clause-ready c =
    let image = c.in_ok-image.image in
    let objects = c.requires.objects in
    let long : length c.in-Ok.list.items ≡ c.args.shape.objects = search rules in
    IsReady-idle (record { image = image; list = c.in-Ok.list; owed = 0; area = None })
    (subst IsValidShape (sym c.in_ok-image.ensures.shape) c.requires) c.in_ok-image.ensures.lawful
    (long ∙ ap (λ (sh : Shape). sh.objects) (sym c.in_ok-image.ensures.shape)) refl
    (c.in_ok-image.ensures.contents.zeros 4 (omega arith) (omega arith) (omega arith))
