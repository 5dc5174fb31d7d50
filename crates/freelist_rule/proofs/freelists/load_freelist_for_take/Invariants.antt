use Rattle.freelist_rule.specs.Freelists.{FreelistForTake}
use Rattle.freelist_rule.proofs.freelists.load_freelist_for_take.Given as goal

abbrev pub ghosts-load_freelist_for_take_as : goal.ghosts-load_freelist_for_take_as
ghosts-load_freelist_for_take_as a = record { learns = λ found v w. FreelistForTake v a.space found w }
