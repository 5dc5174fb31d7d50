use Rattle.object_rule.specs.Fields.{BoundShared}
use Rattle.object_rule.proofs.fields.bind_shared.Given as goal

abbrev pub ghosts-bind_shared_as : goal.ghosts-bind_shared_as
ghosts-bind_shared_as a = record { learns = λ found v w. BoundShared v a.object a.word found w }
