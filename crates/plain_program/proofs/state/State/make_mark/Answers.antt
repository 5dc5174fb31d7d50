use Rattle.std.proofs.Common.{rules, refl}
use Rattle.plain_table.specs.declared.events.Act.TheVariants.{Mark}
use Rattle.plain_table.specs.Shapes.{event}
use Rattle.plain_program.specs.Kept.{shown}
use Rattle.plain_program.proofs.MakesCycles.{makes_mark, IsLegal-refuted}
use Rattle.plain_program.proofs.state.State.make_mark.Goals as goal
use Rattle.plain_program.proofs.state.State.make_mark.Goals.{then-not-may_mark-via-then-not-may_mark, then-not-may_mark-via-else-not-may_mark+then-ne}

pub returns-then-not-may_mark : goal.returns-then-not-may_mark
returns-then-not-may_mark c = (
  elim c.then-not-may_mark.branch [
    | then-not-may_mark-via-then-not-may_mark w ↦ IsLegal-refuted (shown c.args.self.now) (event c.args.by (Mark c.args.space c.args.index) c.args.said) c.may_mark.result (c.may_mark.ensures c.args.by) w.if-not-may_mark.true
    | then-not-may_mark-via-else-not-may_mark+then-ne w ↦ λ legal. (search rules)
  ],
  refl,
)

pub returns : goal.returns
returns c =
    makes_mark c.args.self.now c.mark.new.self c.args.by c.args.space c.args.index c.args.said
    ((c.may_mark.ensures c.args.by).0 c.if-not-may_mark.false) (search rules) c.in_ok-mark.ensures.table c.in_ok-mark.ensures.spent
