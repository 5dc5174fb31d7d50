-- The entry is there, and the strip of its word answers what a look does.
use Rattle.std.proofs.Common.{ℕ, ◌≡◌, ◌+◌, ◌<◌, ◌∙◌, slice_index, ap, sym, subst, arith}
use Rattle.plain_table.specs.declared.reports.Reply.{Reply}
use Rattle.plain_table.specs.Index.{index_of}
use Rattle.plain_table.specs.Table.{limit_in}
use Rattle.plain_table.specs.Words.{entry_place}
use Rattle.entry_word.specs.Image.{sizes_of}
use Rattle.tag_set.specs.Strip.{IsStripped}
use Rattle.mutator_calls.specs.Words.{LooksAt}
use Rattle.mutator_calls.proofs.Commits.{entry_place-first}
use Rattle.mutator_calls.proofs.Looks.{look-stripped}
use Rattle.mutator_calls.proofs.entries.look.Goals as goal

pub returns : goal.returns
returns c =
    let shape = c.args.shape in
    let index = c.index_of-index.ensures.index in
    let place : c.first_entry.result + c.index_of-index.result ≡ entry_place (sizes_of shape) c.args.space (index_of c.args.word) =
    ap (λ (first : ℕ). first + c.index_of-index.result) c.first_entry.ensures
    ∙ ap (λ (i : ℕ). entry_place (sizes_of shape) c.args.space 0 + i) index
    ∙ entry_place-first (sizes_of shape) c.args.space (index_of c.args.word) in
    let below : index_of c.args.word < limit_in (sizes_of shape) c.args.space = omega (arith, index, c.limit.ensures.count, c.if-index-limit.false) in
    subst (λ (said : Reply). LooksAt c.args.words.now (sizes_of shape) c.args.space c.args.word c.args.range.first c.args.range.last said) (sym c.answer.ensures)
    (look-stripped c.args.words.now shape c.args.space c.args.word c.args.range.first c.args.range.last c.strip.result c.requires.shape c.strip.ensures.range
    (λ none. c.if-index-eq0.false (index ∙ none)) below
    (subst (λ (place : ℕ). IsStripped (slice_index c.args.words.now place) c.args.range.first c.args.range.last c.strip.result) place c.strip.ensures.value))
