use Rattle.std.proofs.Common.{Bool, true, ◌∙◌, ap}
use Rattle.std.specs.Prelude.{if◌then◌else◌}
use Rattle.plain_program.specs.Entries.{has_pair}
use Rattle.plain_program.proofs.EntryReads.{is_eq-pair_cmp}
use Rattle.plain_program.proofs.maps.add_pair.Goals as goal

pub returns-in-Ok : goal.returns-in-Ok
returns-in-Ok c = λ m i. c.in-Ok.ensures.updates.0 (m, i)
    ∙ ap (λ (test : Bool). if test then true else has_pair c.args.set.now.keys m i) (is_eq-pair_cmp c.args.key.0 c.args.key.1 m i)
