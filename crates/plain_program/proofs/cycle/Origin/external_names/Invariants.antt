use Rattle.std.specs.Prelude.{◌/◌}
use Rattle.plain_program.proofs.RestOfEntries.{RestDecides}
use Rattle.plain_program.proofs.NamedWords.{IsOther}
use Rattle.plain_program.proofs.cycle.Origin.external_names.Given as goal

abbrev pub invariant-loop-number : goal.invariant-loop-number
invariant-loop-number l = RestDecides (IsOther l.self (λ n. n / 2) l.index) l.self.external_words l.number-iterator
