use Rattle.object_rule.specs.Fields.{NamedTrusted}
use Rattle.object_rule.proofs.fields.name_trusted.Given as goal

abbrev pub ghosts-name_trusted_as : goal.ghosts-name_trusted_as
ghosts-name_trusted_as a = record { learns = λ found v w. NamedTrusted v a.object found w }
