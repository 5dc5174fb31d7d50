-- Where the look found a value the entry is there, and its word has a tag.
use Rattle.std.proofs.Common.{◌≡◌, ◌+◌, ◌<◌, ◌≤◌, ◌∙◌, ℕ, length, slice_index, ap, sym, subst}
use Rattle.plain_table.specs.declared.events.Space.TheVariants.{External}
use Rattle.plain_table.specs.Index.{index_of}
use Rattle.plain_table.specs.Words.{entry_place}
use Rattle.word_laws.specs.ReadLaws.{tag_bits}
use Rattle.entry_word.specs.declared.image.Shape.{Shape}
use Rattle.entry_word.specs.Image.{sizes_of}
use Rattle.mutator_calls.proofs.Commits.{entry_place-first}
use Rattle.mutator_calls.proofs.Exchanged.{found-tag, found-within}
use Rattle.mutator_calls.proofs.entries.exchange.Goals as goal

place : (shape : Shape) (w first index : ℕ) → first ≡ entry_place (sizes_of shape) External 0 → index ≡ index_of w →
    entry_place (sizes_of shape) External (index_of w) ≡ first + index
place shape w first index begins is =
    sym (ap (λ (at : ℕ). at + index) begins ∙ ap (λ (i : ℕ). entry_place (sizes_of shape) External 0 + i) is ∙ entry_place-first (sizes_of shape) External (index_of w))

pub bounds-words-place : goal.bounds-words-place
bounds-words-place c =
    let shown = c.requires.shown in
    subst (λ (at : ℕ). at < length c.args.words.now) (place c.args.shape c.args.word c.first_entry.result c.index_of.result c.first_entry.ensures c.index_of.ensures.index)
    (found-within c.args.words.now c.args.shape shown.0 c.args.word c.args.range.first c.args.range.last c.in-Value.field-0 c.requires.shape shown.1
    (sym c.in-Value.is ∙ c.look-found.ensures shown.0 shown.1))

pub bounds-words-place-in-Value : goal.bounds-words-place-in-Value
bounds-words-place-in-Value c =
    let shown = c.requires.shown in
    subst (λ (at : ℕ). at < length c.args.words.now) (place c.args.shape c.args.word c.first_entry.result c.index_of.result c.first_entry.ensures c.index_of.ensures.index)
    (found-within c.args.words.now c.args.shape shown.0 c.args.word c.args.range.first c.args.range.last c.in-Value.field-0 c.requires.shape shown.1
    (sym c.in-Value.is ∙ c.look-found.ensures shown.0 shown.1))

pub with_value-requires : goal.with_value-requires
with_value-requires c =
    let shown = c.requires.shown in (
      subst (λ (at : ℕ). 1 ≤ tag_bits (slice_index c.args.words.now at)) (place c.args.shape c.args.word c.first_entry.result c.index_of.result c.first_entry.ensures c.index_of.ensures.index)
          (found-tag c.args.words.now c.args.shape shown.0 c.args.word c.args.range.first c.args.range.last c.in-Value.field-0 c.requires.shape shown.1
          (sym c.in-Value.is ∙ c.look-found.ensures shown.0 shown.1)),
      c.requires.small,
    )
