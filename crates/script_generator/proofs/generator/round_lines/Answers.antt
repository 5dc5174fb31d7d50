use Rattle.std.proofs.Common.{[], sym, ◌∙◌}
use Rattle.script_generator.specs.Generated.{lines_at}
use Rattle.script_generator.proofs.Counting.{flat_map-none, flat_map-pushed, appended-twice}
use Rattle.script_generator.proofs.generator.round_lines.Goals as goal

pub loop-object-init : goal.loop-object-init
loop-object-init c =
    c.new-ops.ensures ∙ sym (flat_map-none (lines_at c.args.seed c.args.round c.args.mutator))

pub loop-object-preserved : goal.loop-object-preserved
loop-object-preserved c =
    flat_map-pushed (lines_at c.args.seed c.args.round c.args.mutator) c.loop-object.object [] c.loop-object.ops
    c.push_holding.new.ops c.loop-object.invariant
    (appended-twice _ _ _ _ _ c.in_ok-push_object.ensures c.in_ok-push_holding.ensures)
