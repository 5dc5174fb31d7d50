use Rattle.std.proofs.Common.{rules, refl}
use Rattle.plain_table.specs.declared.events.Act.TheVariants.{Scan}
use Rattle.plain_table.specs.Shapes.{event}
use Rattle.plain_program.specs.Kept.{shown}
use Rattle.plain_program.proofs.MakesCycles.{makes_scan, IsLegal-refuted}
use Rattle.plain_program.proofs.state.State.make_scan.Goals as goal
use Rattle.plain_program.proofs.state.State.make_scan.Goals.{then-not-may_scan-via-then-not-may_scan, then-not-may_scan-via-else-not-may_scan+then-ne}

pub returns-then-not-may_scan : goal.returns-then-not-may_scan
returns-then-not-may_scan c = (
  elim c.then-not-may_scan.branch [
    | then-not-may_scan-via-then-not-may_scan w ↦ IsLegal-refuted (shown c.args.self.now) (event c.args.by (Scan c.args.object) c.args.said) c.may_scan.result (c.may_scan.ensures c.args.by) w.if-not-may_scan.true
    | then-not-may_scan-via-else-not-may_scan+then-ne w ↦ λ legal. (search rules)
  ],
  refl,
)

pub returns : goal.returns
returns c =
    makes_scan c.args.self.now c.add_scan.new.self c.args.by c.args.object c.args.said
    ((c.may_scan.ensures c.args.by).0 c.if-not-may_scan.false) (search rules) c.in_ok-add_scan.ensures.table c.in_ok-add_scan.ensures.spent
