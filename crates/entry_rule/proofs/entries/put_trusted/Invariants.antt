use Rattle.entry_rule.specs.Entries.{PutTrusted}
use Rattle.entry_rule.proofs.entries.put_trusted.Given as goal

abbrev pub ghosts-put_trusted_as : goal.ghosts-put_trusted_as
ghosts-put_trusted_as a = record { learns = λ found v w. PutTrusted v a.index a.tag a.value w }
