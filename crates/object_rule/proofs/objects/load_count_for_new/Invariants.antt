use Rattle.object_rule.specs.Objects.{CountForNew}
use Rattle.object_rule.proofs.objects.load_count_for_new.Given as goal

abbrev pub ghosts-load_count_for_new_as : goal.ghosts-load_count_for_new_as
ghosts-load_count_for_new_as a = record { learns = λ found v w. CountForNew v a.var found w }
