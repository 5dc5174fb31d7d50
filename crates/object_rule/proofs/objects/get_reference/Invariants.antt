use Rattle.plain_table.specs.declared.events.Spot.TheVariants.{Ref}
use Rattle.object_rule.specs.Objects.{Got}
use Rattle.object_rule.proofs.objects.get_reference.Given as goal

abbrev pub ghosts-get_reference_as : goal.ghosts-get_reference_as
ghosts-get_reference_as a = record { learns = λ found v w. Got v a.into (Ref a.object a.k) found w }
