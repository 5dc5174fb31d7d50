use Rattle.plain_table.specs.declared.events.Spot.TheVariants.{Ref}
use Rattle.object_rule.specs.Objects.{LinkedTo}
use Rattle.object_rule.proofs.objects.link_reference.Given as goal

abbrev pub ghosts-link_reference_as : goal.ghosts-link_reference_as
ghosts-link_reference_as a = record { learns = λ found v w. LinkedTo v (Ref a.object a.k) a.target w }
