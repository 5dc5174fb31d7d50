use Rattle.std.proofs.Common.{Ok, subst}
use Rattle.std.specs.BTreeMap.{InsertsAll}
use Rattle.std.specs.Map.Iter.{deref_pair}
use Rattle.std.proofs.lemmas.Iterator.Adapters.{fact_from_extend}
use Rattle.std.proofs.lemmas.Iterator.Consumers.{YieldsList-from_rest}
use Rattle.plain_program.specs.Entries.{pair_cmp}
use Rattle.plain_program.proofs.EntryLists.{pair_cmp_total, pair_cmp_exact}
use Rattle.plain_program.proofs.Copies.{entries-copied}
use Rattle.plain_program.proofs.maps.copy_pairs.Goals as goal

pub returns-in-Ok : goal.returns-in-Ok
returns-in-Ok g c =
    let ran = c.in-Ok.ensures.ran in
    fact_from_extend {E = Unit {0}} deref_pair (Ok c.in-Ok.field-0) ran (λ it b. YieldsList-from_rest c.args.map.now.entries b.0)
    (λ xs e h. entries-copied pair_cmp_total pair_cmp_exact c.new-copied.result c.args.map.now c.extend.new.self c.new-copied.ensures.empty ran.2.5
    (subst (λ es. InsertsAll pair_cmp c.new-copied.result es c.extend.new.self) e h))
