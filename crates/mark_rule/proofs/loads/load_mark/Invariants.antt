use Rattle.entry_base.specs.Passed.{field_of}
use Rattle.mark_rule.specs.Marking.{MarkLoaded}
use Rattle.mark_rule.proofs.loads.load_mark.Given as goal

abbrev pub ghosts-load_mark_as : goal.ghosts-load_mark_as
ghosts-load_mark_as a = record { learns = λ found v w. MarkLoaded v (field_of a.object a.f) a.word found w }
