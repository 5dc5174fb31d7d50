use Rattle.std.proofs.Common.{◌≡◌, ℕ, None}
use Rattle.plain_program.specs.Entries.{at}
use Rattle.plain_table.specs.Finish.{ticket_kept}
use Rattle.plain_program.specs.Kept.{shown, shown_cycle}
use Rattle.plain_program.proofs.state.State.swept_tickets.Given as goal

abbrev pub invariant-loop-by : goal.invariant-loop-by
invariant-loop-by l = (b : ℕ) → at l.by-iterator b ≡ None →
    at l.tickets.entries b ≡ ticket_kept (shown l.self) (shown_cycle l.cycle) ((shown l.self).ticket b)
