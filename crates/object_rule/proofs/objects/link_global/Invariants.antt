use Rattle.plain_table.specs.declared.events.Spot.TheVariants.{Global}
use Rattle.object_rule.specs.Objects.{LinkedTo}
use Rattle.object_rule.proofs.objects.link_global.Given as goal

abbrev pub ghosts-link_global_as : goal.ghosts-link_global_as
ghosts-link_global_as a = record { learns = λ found v w. LinkedTo v (Global a.g) a.target w }
