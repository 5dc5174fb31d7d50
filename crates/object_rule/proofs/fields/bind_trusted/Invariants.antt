use Rattle.object_rule.specs.Fields.{BoundTrusted}
use Rattle.object_rule.proofs.fields.bind_trusted.Given as goal

abbrev pub ghosts-bind_trusted_as : goal.ghosts-bind_trusted_as
ghosts-bind_trusted_as a = record { learns = λ found v w. BoundTrusted v a.object a.word a.tag a.value found w }
