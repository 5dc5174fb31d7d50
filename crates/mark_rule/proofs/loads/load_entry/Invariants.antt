use Rattle.entry_base.specs.Passed.{field_of}
use Rattle.mark_rule.specs.Marking.{EntryLoaded}
use Rattle.mark_rule.proofs.loads.load_entry.Given as goal

abbrev pub ghosts-load_entry_as : goal.ghosts-load_entry_as
ghosts-load_entry_as a = record { learns = λ found v w. EntryLoaded v (field_of a.object a.f) a.word found w }
