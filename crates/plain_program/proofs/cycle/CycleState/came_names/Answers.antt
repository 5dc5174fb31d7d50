use Rattle.std.proofs.Common.{ap, ◌∙◌}
use Rattle.std.specs.List.{list_any}
use Rattle.plain_program.specs.Kept.{KeptCycle}
use Rattle.plain_program.proofs.NamedWords.{CameNamed-external, CameNamed-trusted, names_index}
use Rattle.plain_program.proofs.cycle.CycleState.came_names.Goals as goal

pub returns-in-External : goal.returns-in-External
returns-in-External c = rw c.in-External.is (CameNamed-external c.args.self.now c.args.index c.has_index.result
    (c.has_index.ensures ∙ ap (λ (k : KeptCycle). list_any (names_index c.args.index) k.external_came) c.self.view_is))

pub returns-in-Trusted : goal.returns-in-Trusted
returns-in-Trusted c = rw c.in-Trusted.is (CameNamed-trusted c.args.self.now c.args.index c.has_index-in-Trusted.result
    (c.has_index-in-Trusted.ensures ∙ ap (λ (k : KeptCycle). list_any (names_index c.args.index) k.trusted_came) c.self.view_is))
