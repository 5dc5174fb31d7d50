use Rattle.plain_program.proofs.RestOfEntries.{RestDecides}
use Rattle.plain_program.proofs.NamedWords.{IsOther}
use Rattle.plain_program.proofs.cycle.Origin.trusted_names.Given as goal

abbrev pub invariant-loop-object : goal.invariant-loop-object
invariant-loop-object l = RestDecides (IsOther l.self (λ n. n) l.index) l.self.trusted_words l.object-iterator
