use Rattle.plain_table.specs.declared.events.Field.TheVariants as field
use Rattle.object_rule.specs.Fields.{Bound}
use Rattle.object_rule.proofs.fields.bind_external.Given as goal

abbrev pub ghosts-bind_external_as : goal.ghosts-bind_external_as
ghosts-bind_external_as a = record { learns = λ found v w. Bound v (field.External a.number) a.word found w }
