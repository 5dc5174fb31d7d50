use Rattle.std.proofs.Common.{ap, sym, ◌++◌, ◌∙◌}
use Rattle.std.proofs.lemmas.List.{append-nil}
use Rattle.script_generator.specs.Generated.{round_phases}
use Rattle.script_generator.proofs.Counting.{flat_map-none, flat_map-pushed}
use Rattle.script_generator.proofs.OldTags.{old_tags-unique}
use Rattle.script_generator.proofs.generator.push_rounds.Goals as goal

pub loop-round-init : goal.loop-round-init
loop-round-init c =
    sym (ap (λ phases. c.args.phases.now ++ phases) (flat_map-none (round_phases c.args.seed)) ∙ append-nil c.args.phases.now)

pub push_round-requires-clause-tags : goal.push_round-requires-clause-tags
push_round-requires-clause-tags c =
    old_tags-unique c.all-tags.result c.all-tags.ensures.tags c.all-tags.ensures.ascending c.all-tags.ensures.every

pub loop-round-preserved : goal.loop-round-preserved
loop-round-preserved c =
    flat_map-pushed (round_phases c.args.seed) c.loop-round.round c.args.phases.now c.loop-round.phases
    c.push_round.new.phases c.loop-round.invariant c.in_ok-push_round.ensures
