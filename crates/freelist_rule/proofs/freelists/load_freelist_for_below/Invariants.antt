use Rattle.freelist_rule.specs.Freelists.{FreelistForBelow}
use Rattle.freelist_rule.proofs.freelists.load_freelist_for_below.Given as goal

abbrev pub ghosts-load_freelist_for_below_as : goal.ghosts-load_freelist_for_below_as
ghosts-load_freelist_for_below_as a = record { learns = λ found v w. FreelistForBelow v a.start found w }
