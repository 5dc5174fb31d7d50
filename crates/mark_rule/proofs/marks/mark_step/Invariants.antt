use Rattle.plain_table.specs.Index.{index_of}
use Rattle.mark_rule.specs.Marking.{MarkExchanged}
use Rattle.mark_rule.proofs.marks.mark_step.Given as goal

abbrev pub ghosts-mark_step_as : goal.ghosts-mark_step_as
ghosts-mark_step_as a = record { learns = λ found v w. MarkExchanged v a.space (index_of a.word) a.entry found w }
