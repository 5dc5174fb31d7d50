use Rattle.std.proofs.Common.{◌≡◌}
use Rattle.entry_base.specs.Openings.{greys}
use Rattle.entry_base.proofs.images.owed_objects.Given as goal

abbrev pub invariant-loop-object : goal.invariant-loop-object
invariant-loop-object l = l.objects.items ≡ greys l.image.words.items l.object
