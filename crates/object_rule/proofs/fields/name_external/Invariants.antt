use Rattle.plain_table.specs.declared.events.Field.TheVariants as field
use Rattle.object_rule.specs.Fields.{Named}
use Rattle.object_rule.proofs.fields.name_external.Given as goal

abbrev pub ghosts-name_external_as : goal.ghosts-name_external_as
ghosts-name_external_as a = record { learns = λ found v w. Named v (field.External a.number) found w }
