use Rattle.freelist_rule.specs.Freelists.{FreelistSeen}
use Rattle.freelist_rule.proofs.freelists.load_freelist.Given as goal

abbrev pub ghosts-load_freelist_as : goal.ghosts-load_freelist_as
ghosts-load_freelist_as a = record { learns = λ found v w. FreelistSeen v a.space found w }
