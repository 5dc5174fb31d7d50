use Rattle.plain_program.specs.Kept.{shown, shown_cycle}
use Rattle.plain_program.proofs.RestOfEntries.{RestDecides}
use Rattle.plain_program.proofs.SafeFields.{IsSafeEntry}
use Rattle.plain_program.proofs.state.State.are_external_safe.Given as goal

abbrev pub invariant-loop-number : goal.invariant-loop-number
invariant-loop-number l = RestDecides (IsSafeEntry (shown l.self) (shown_cycle l.cycle) l.object) l.self.external_bound l.number-iterator
