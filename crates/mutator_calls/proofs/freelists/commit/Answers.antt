use Rattle.std.proofs.Common.{◌≡◌, length, sym, subst, ◌∙◌, ◌+◌, ◌<◌, arith, slice_set}
use Rattle.plain_table.specs.Words.{freelist_place, words_in_all}
use Rattle.word_laws.specs.SegmentLaws.{IsCommitted}
use Rattle.entry_word.specs.Image.{sizes_of}
use Rattle.mutator_calls.proofs.Commits.{AreLinked, AreOthersKept, AreLinked-next, AreOthersKept-next, IsCommitted-linked_all, entry-within}
use Rattle.mutator_calls.proofs.freelists.commit.Goals as goal

pub loop-index-preserved : goal.loop-index-preserved
loop-index-preserved c =
    let sizes = sizes_of c.args.shape in
    let words = c.loop-index.words in
    let first = c.first_entry-first.result in
    let index = c.loop-index.index in
    let whole : length words ≡ words_in_all sizes = c.loop-index.auto.words ∙ c.requires.whole in
    let within : first + index < length words =
    entry-within sizes c.args.space words first index c.first_entry-first.ensures whole (omega (arith, c.loop-index-test.true, c.requires.room)) in
    record {
      linked = AreLinked-next words first c.args.start index c.encode.result within c.encode.ensures c.loop-index.invariant.linked;
      others = AreOthersKept-next c.args.words.now words first c.args.start index c.encode.result c.loop-index.auto.index c.loop-index.invariant.others;
    }

pub returns : goal.returns
returns c =
    let sizes = sizes_of c.args.shape in
    let words = c.loop-index.words in
    let first = c.first_entry-first.result in
    let end : c.loop-index.index ≡ c.args.start + c.args.shape.seg = omega (arith, c.loop-index-test.false, c.loop-index.auto.index-end) in
    let linked = subst (λ n. AreLinked words first c.args.start n) end c.loop-index.invariant.linked in
    let kept = subst (λ n. AreOthersKept c.args.words.now words first c.args.start n) end c.loop-index.invariant.others in
    let is = IsCommitted-linked_all sizes c.args.space c.args.start c.args.words.now words first c.first_entry-first.ensures c.requires.whole c.loop-index.auto.words linked kept in
    subst (λ place. IsCommitted sizes c.args.space c.args.start c.args.words.now (slice_set words place c.pack.result)) (sym c.freelist_place.ensures)
    (subst (λ w. IsCommitted sizes c.args.space c.args.start c.args.words.now (slice_set words (freelist_place c.args.space) w)) (sym c.pack.ensures) is)
