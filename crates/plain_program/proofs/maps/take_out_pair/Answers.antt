use Rattle.std.proofs.Common.{Bool, None, ◌∙◌, ap}
use Rattle.std.specs.Prelude.{if◌then◌else◌}
use Rattle.plain_program.specs.Entries.{at_pair}
use Rattle.plain_program.proofs.EntryReads.{is_eq-pair_cmp}
use Rattle.plain_program.proofs.maps.take_out_pair.Goals as goal

pub returns : goal.returns
returns g c = λ m i. c.remove.ensures.updates.0 (m, i)
    ∙ ap (λ (test : Bool). if test then None else at_pair c.args.map.now.entries m i) (is_eq-pair_cmp c.args.key.0 c.args.key.1 m i)
