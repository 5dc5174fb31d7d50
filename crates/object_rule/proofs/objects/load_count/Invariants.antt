use Rattle.object_rule.specs.Objects.{CountSeen}
use Rattle.object_rule.proofs.objects.load_count.Given as goal

abbrev pub ghosts-load_count_as : goal.ghosts-load_count_as
ghosts-load_count_as a = record { learns = λ found v w. CountSeen v found w }
