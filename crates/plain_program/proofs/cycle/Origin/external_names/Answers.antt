use Rattle.std.specs.Prelude.{◌/◌}
use Rattle.std.proofs.Common.{sym, ap, ◌∙◌}
use Rattle.std.specs.Map.Iter.{deref_pair}
use Rattle.std.proofs.lemmas.Cmp.{nat_cmp_total}
use Rattle.std.proofs.lemmas.Map.Iter.{btree_map_turn, rest_all}
use Rattle.plain_program.specs.Entries.{at}
use Rattle.plain_program.specs.Kept.{KeptOrigin}
use Rattle.plain_program.proofs.RestOfEntries.{All-from_RestDecides}
use Rattle.plain_program.proofs.NamedWords.{IsOther, StoodNamed-external, StoodNamed-no_external}
use Rattle.plain_program.proofs.cycle.Origin.external_names.Goals as goal

pub returns-then-is_old : goal.returns-then-is_old
returns-then-is_old c =
    let start = c.into_iter-number-iterator.ensures.into_iter_gives in
    let n = c.in-Some.number.now in
    let turn = btree_map_turn deref_pair c.loop-number.yielded c.into_iter-number-iterator.result c.loop-number.number-iterator c.next.new.self c.next.result (c.in-Some.number, c.in-Some.word)
    c.loop-number.yielded_by c.in-Some.is c.next.ensures.steps nat_cmp_total c.self.inside.external_words start.0 start.5 in
    StoodNamed-external c.args.self.now c.args.index n c.in-Some.word.now
    (ap (λ (k : KeptOrigin). at k.external_words n) (sym c.self.view_is) ∙ turn.1)
    c.if-word-ne0.true (sym c.index_of.ensures ∙ c.if-index_of-index.true) (c.is_old.ensures.0 c.if-is_old.true)

pub returns : goal.returns
returns c =
    StoodNamed-no_external c.args.self.now c.args.index
    (All-from_RestDecides (IsOther c.args.self.now (λ n. n / 2) c.args.index) c.args.self.now.external_words c.loop-number.number-iterator c.loop-number.invariant
    (rest_all deref_pair c.loop-number.number-iterator c.next.new.self c.next.result c.in-None.is c.next.ensures.steps))
