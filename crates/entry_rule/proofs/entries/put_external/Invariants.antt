use Rattle.plain_table.specs.declared.events.Space.TheVariants.{External}
use Rattle.entry_rule.specs.Entries.{Put}
use Rattle.entry_rule.proofs.entries.put_external.Given as goal

abbrev pub ghosts-put_external_as : goal.ghosts-put_external_as
ghosts-put_external_as a = record { learns = λ found v w. Put v External a.index a.tag a.value w }
