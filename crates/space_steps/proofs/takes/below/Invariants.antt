use Rattle.std.proofs.Common.{◌-◌, ◌^◌}
use Rattle.plain_table.specs.declared.events.Act.TheVariants as act
use Rattle.plain_table.specs.declared.events.Space.TheVariants.{External}
use Rattle.plain_table.specs.declared.reports.Reply.TheVariants as reply
use Rattle.free_chain.specs.Rank.{rank}
use Rattle.entry_base.specs.declared.view.Fact.TheVariants as fact
use Rattle.entry_base.specs.Lists.{Has}
use Rattle.entry_base.specs.Sessions.{view, IsOf}
use Rattle.freelist_rule.specs.Freelists.{IsOutOfRoom}
use Rattle.space_steps.proofs.TakeTurns.{TakesOn}
use Rattle.space_steps.proofs.takes.below.Given as goal

abbrev pub invariant-loop-word : goal.invariant-loop-word
invariant-loop-word g l = record {
  caller : IsOf l.shared l.s;
  full : IsOutOfRoom l.start l.word → Has (view l.s).facts (fact.Used External l.start);
  so_far : TakesOn (view l.fn.s) External (act.Below l.start) reply.NoRoom (IsOutOfRoom l.start l.word) l.word l.fn.steps l.steps (view l.s);
}

abbrev pub decreases-loop-word : goal.decreases-loop-word
decreases-loop-word g l = 2 ^ 34 - rank l.word
