use Rattle.plain_table.specs.Places.{space_of}
use Rattle.plain_table.specs.Table.{limit_in}
use Rattle.entry_base.specs.Openings.{sizes_in}
use Rattle.entry_base.specs.Passed.{field_of}
use Rattle.mark_rule.specs.Marking.{WordLoaded}
use Rattle.mark_rule.proofs.loads.load_word.Given as goal

abbrev pub ghosts-load_word_as : goal.ghosts-load_word_as
ghosts-load_word_as a = record { learns = λ found v w. WordLoaded v (limit_in (sizes_in v.opening) (space_of (field_of a.object a.f))) (field_of a.object a.f) found w }
