use Rattle.std.proofs.Common.{ℕ}
use Rattle.std.specs.List.{All}
use Rattle.plain_table.specs.declared.events.Field.TheVariants as field
use Rattle.plain_program.specs.KeptFields.{IsEntryKept}
use Rattle.plain_program.specs.Kept.{shown, shown_cycle}
use Rattle.plain_program.proofs.state.State.are_trusted_kept.Given as goal

abbrev pub invariant-loop-number : goal.invariant-loop-number
invariant-loop-number l =
    let P = λ (e : ℕ × ℕ). IsEntryKept (shown l.self) (shown_cycle l.cycle) l.reached.keys (field.Trusted e.0) e.1 in
    All P l.number-iterator → All P l.self.trusted_bound
