use Rattle.std.proofs.Common.{◌-◌, ◌^◌}
use Rattle.plain_table.specs.declared.events.Act.TheVariants as act
use Rattle.plain_table.specs.declared.reports.Reply.TheVariants as reply
use Rattle.free_chain.specs.Rank.{rank}
use Rattle.entry_base.specs.Sessions.{view, IsOf}
use Rattle.freelist_rule.specs.Freelists.{IsSpent}
use Rattle.space_steps.proofs.TakeTurns.{TakesOn}
use Rattle.space_steps.proofs.takes.take.Given as goal

abbrev pub invariant-loop-word : goal.invariant-loop-word
invariant-loop-word g l = record {
  caller : IsOf l.shared l.s;
  so_far : TakesOn (view l.fn.s) l.space (act.Take l.space) reply.Full (IsSpent (view l.fn.s) l.space l.word) l.word l.fn.steps l.steps (view l.s);
}

abbrev pub decreases-loop-word : goal.decreases-loop-word
decreases-loop-word g l = 2 ^ 34 - rank l.word
