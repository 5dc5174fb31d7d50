use Rattle.std.proofs.Common.{sym, ◌∙◌}
use Rattle.plain_program.specs.Kept.{shown, shown_cycle}
use Rattle.plain_program.proofs.SweptParts.{target-lt}
use Rattle.plain_program.proofs.state.State.swept_word.Goals as goal

pub word_of-requires : goal.word_of-requires
word_of-requires c =
    target-lt (shown_cycle c.args.cycle.now) (shown c.args.self.now).words 65536 c.index_of.result c.in-Some.target
    (rw (← c.cycle.view_is) c.cycle.invariant) (sym c.target.ensures ∙ c.in-Some.is)
