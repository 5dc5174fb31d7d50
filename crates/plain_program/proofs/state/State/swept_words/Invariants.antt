use Rattle.std.proofs.Common.{◌≡◌, ℕ, false}
use Rattle.plain_table.specs.declared.events.Field.TheVariants as field
use Rattle.plain_program.specs.Entries.{has, word_at}
use Rattle.plain_table.specs.Finish.{rewritten}
use Rattle.plain_program.specs.Kept.{shown, shown_cycle}
use Rattle.plain_program.proofs.state.State.swept_words.Given as goal

abbrev pub invariant-loop-number : goal.invariant-loop-number
invariant-loop-number l = (n : ℕ) → has l.number-iterator n ≡ false →
    word_at l.words.entries n ≡ rewritten (shown_cycle l.cycle) (shown l.self).words (field.External n)
