use Rattle.mark_rule.specs.Marking.{ReferenceLoaded}
use Rattle.mark_rule.proofs.loads.load_reference.Given as goal

abbrev pub ghosts-load_reference_as : goal.ghosts-load_reference_as
ghosts-load_reference_as a = record { learns = λ found v w. ReferenceLoaded v a.object a.k found w }
