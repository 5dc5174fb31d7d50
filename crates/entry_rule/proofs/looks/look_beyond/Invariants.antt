use Rattle.entry_rule.specs.Looks.{LookedBeyond}
use Rattle.entry_rule.proofs.looks.look_beyond.Given as goal

abbrev pub ghosts-look_beyond_as : goal.ghosts-look_beyond_as
ghosts-look_beyond_as a = record { learns = λ found v w. LookedBeyond v a.space a.word a.first a.last w }
