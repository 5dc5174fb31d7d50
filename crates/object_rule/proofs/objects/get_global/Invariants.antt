use Rattle.plain_table.specs.declared.events.Spot.TheVariants.{Global}
use Rattle.object_rule.specs.Objects.{Got}
use Rattle.object_rule.proofs.objects.get_global.Given as goal

abbrev pub ghosts-get_global_as : goal.ghosts-get_global_as
ghosts-get_global_as a = record { learns = λ found v w. Got v a.into (Global a.g) found w }
