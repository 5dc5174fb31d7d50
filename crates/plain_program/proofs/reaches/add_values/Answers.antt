use Rattle.std.proofs.Common.{◌||◌, Ok, ap, ◌∙◌}
use Rattle.std.specs.Map.{values_of}
use Rattle.std.proofs.lemmas.Iterator.Adapters.{fact_from_extend}
use Rattle.std.proofs.lemmas.Iterator.Consumers.{YieldsList-from_rest}
use Rattle.plain_program.specs.Entries.{has}
use Rattle.plain_program.proofs.EntryLists.{has-values_of}
use Rattle.plain_program.proofs.Rounds.{or_iff}
use Rattle.plain_program.proofs.reaches.add_values.Goals as goal

pub returns-in-Ok : goal.returns-in-Ok
returns-in-Ok c =
    let values = values_of c.args.map.now.entries in
    fact_from_extend {E = Unit {0}} (λ y. y.now) (Ok c.in-Ok.field-0) c.in-Ok.ensures.ran (λ it b. YieldsList-from_rest values (b ∙ c.values.ensures.rest))
    (λ xs e h o. or_iff (has c.extend.new.self.keys o) (has c.args.set.now.keys o) (has values o)
    (h.0 o ∙ ap (λ vs. has c.args.set.now.keys o || has vs o) e) (has-values_of c.args.map.now.entries c.values.ensures.ordered o))
