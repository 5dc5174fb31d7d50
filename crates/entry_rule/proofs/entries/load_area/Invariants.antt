use Rattle.entry_rule.specs.Entries.{AreaLoaded}
use Rattle.entry_rule.proofs.entries.load_area.Given as goal

abbrev pub ghosts-load_area_as : goal.ghosts-load_area_as
ghosts-load_area_as a = record { learns = λ found v w. AreaLoaded v found w }
