-- The list is that of the objects whose header says shaded and not scanned.
use Rattle.std.proofs.Common.{◌≡◌, ◌∙◌, ap, subst, arith}
use Rattle.entry_base.specs.Lists.{count_in}
use Rattle.entry_base.specs.Openings.{greys}
use Rattle.entry_base.proofs.OpenKeeps.{count_greys}
use Rattle.phases.proofs.phases.shaded_objects.Goals as goal

pub returns : goal.returns
returns c = record {
  listed = λ o.
      let all : c.loop-object.object ≡ c.args.image.now.shape.objects = let t = c.loop-object-test.false in let a = c.loop-object.auto.object-end in omega arith in
      let listed : c.loop-object.room.items ≡ greys c.args.image.now.words.items c.args.image.now.shape.objects =
      subst (λ n. c.loop-object.room.items ≡ greys c.args.image.now.words.items n) all c.loop-object.invariant.listed in
      ap (count_in o) listed ∙ count_greys c.args.image.now.words.items c.args.image.now.shape.objects o;
}
