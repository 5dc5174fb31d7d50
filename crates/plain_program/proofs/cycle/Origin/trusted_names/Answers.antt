use Rattle.std.proofs.Common.{sym, ap, ◌∙◌}
use Rattle.std.specs.Map.Iter.{deref_pair}
use Rattle.std.proofs.lemmas.Cmp.{nat_cmp_total}
use Rattle.std.proofs.lemmas.Map.Iter.{btree_map_turn, rest_all}
use Rattle.plain_program.specs.Entries.{at}
use Rattle.plain_program.specs.Kept.{KeptOrigin}
use Rattle.plain_program.proofs.RestOfEntries.{All-from_RestDecides}
use Rattle.plain_program.proofs.NamedWords.{IsOther, StoodNamed-trusted, StoodNamed-no_trusted}
use Rattle.plain_program.proofs.cycle.Origin.trusted_names.Goals as goal

pub returns-then-is_old : goal.returns-then-is_old
returns-then-is_old c =
    let start = c.into_iter-object-iterator.ensures.into_iter_gives in
    let n = c.in-Some.object.now in
    let turn = btree_map_turn deref_pair c.loop-object.yielded c.into_iter-object-iterator.result c.loop-object.object-iterator c.next.new.self c.next.result (c.in-Some.object, c.in-Some.word)
    c.loop-object.yielded_by c.in-Some.is c.next.ensures.steps nat_cmp_total c.self.inside.trusted_words start.0 start.5 in
    StoodNamed-trusted c.args.self.now c.args.index n c.in-Some.word.now
    (ap (λ (k : KeptOrigin). at k.trusted_words n) (sym c.self.view_is) ∙ turn.1)
    c.if-word-ne0.true (sym c.index_of.ensures ∙ c.if-index_of-index.true) (c.is_old.ensures.0 c.if-is_old.true)

pub returns : goal.returns
returns c =
    StoodNamed-no_trusted c.args.self.now c.args.index
    (All-from_RestDecides (IsOther c.args.self.now (λ n. n) c.args.index) c.args.self.now.trusted_words c.loop-object.object-iterator c.loop-object.invariant
    (rest_all deref_pair c.loop-object.object-iterator c.next.new.self c.next.result c.in-None.is c.next.ensures.steps))
