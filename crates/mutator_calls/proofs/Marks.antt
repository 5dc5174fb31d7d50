-- A cell's word with its marking bit, and what an image shows after an event that writes such a word: after a mark of a
-- trusted cell among these.
use Rattle.std.proofs.Common.{◌≡◌, ℕ, ◌+◌, ◌*◌, ◌^◌, ◌<◌, Bool, true, false, length, slice_index, slice_set, Some, refl, sym, ap, subst, ◌∙◌, arith, get_or-set_other}
use Rattle.std.proofs.lemmas.Bool.{cond-true, cond-false}
use Rattle.std.specs.Prelude.{if◌then◌else◌, IsSome}
use Rattle.plain_table.specs.declared.events.Act.TheVariants.{Mark}
use Rattle.plain_table.specs.declared.events.Cell.{Cell}
use Rattle.plain_table.specs.declared.events.Event.{Event}
use Rattle.plain_table.specs.declared.events.Space.{Space}
use Rattle.plain_table.specs.declared.events.Space.TheVariants.{Trusted}
use Rattle.plain_table.specs.declared.reports.Reply.TheVariants as reply
use Rattle.plain_table.specs.Cycle.{Cycle}
use Rattle.plain_table.specs.Table.{Table, limit_of}
use Rattle.plain_table.specs.Rows.{IsNamed}
use Rattle.plain_table.specs.Words.{cell_word, entry_place, header_place}
use Rattle.plain_table.specs.History.{IsLegal, next}
use Rattle.plain_table.specs.Shapes.{event}
use Rattle.plain_table.specs.Sound.{IsSound}
use Rattle.plain_table.specs.Shows.{Image}
use Rattle.plain_table.proofs.Options.{IsSome-some, IsSomeAnd-by, is_some-option_map}
use Rattle.plain_table.proofs.WordPlaces.{entry_place-below, entry_place-from}
use Rattle.table_laws.specs.Steady.{IsDuringPhase}
use Rattle.word_laws.specs.Kinds.{is_marked_word}
use Rattle.word_laws.specs.WordLaws.{WritesCell}
use Rattle.word_laws.proofs.CellWords.{CellWordsFollow-row}
use Rattle.word_laws.proofs.EntryReads.{cell-good, cell-word}
use Rattle.word_laws.proofs.WordKinds.{IsGood, cell-kind}
use Rattle.mutator_calls.specs.Marks.{with_mark}
use Rattle.entry_word.specs.Image.{image_of, sizes_of}
use Rattle.mutator_calls.specs.declared.heap.Mutator.{Mutator}
use Rattle.mutator_calls.specs.Calls.{Sees}
use Rattle.mutator_calls.proofs.Seen.{Sees-words}

-- the word of a cell, marked
pub cell_word-marked : (cell : Cell) (m : Bool) → IsGood cell → with_mark (cell_word cell m) ≡ cell_word cell true
cell_word-marked cell true good = cond-true (is_marked_word (cell_word cell true)) (cell_word cell true) (cell_word cell true + 2 ^ 62) (cell-kind cell true good).is_marked
cell_word-marked cell false good =
    cond-false (is_marked_word (cell_word cell false)) (cell_word cell false) (cell_word cell false + 2 ^ 62) (cell-kind cell false good).is_marked
    ∙ by cell.shown
  where
    by : (shown : Bool) → (if shown then 0 else 2 ^ 59) + (cell.value + 2 ^ 48 * cell.tag + 0) + 2 ^ 62 ≡ (if shown then 0 else 2 ^ 59) + (cell.value + 2 ^ 48 * cell.tag + 2 ^ 62)
    by true = omega arith
    by false = omega arith

-- a cell stands at an index that is used, within the limit
pub cell-below : (s : Table) (p : Space) (i : ℕ) (cell : Cell) → IsSound s → s.cells p i ≡ Some cell → i < limit_of s p
cell-below s p i cell h stands =
    h.used.below p i (h.used.cells p i (is_some-option_map (λ (c : Cell). c.id) (s.cells p i) ∙ IsSome-some (s.cells p i) cell stands)).0

-- its word stands among the mutator's
pub entry_place-within : (m : Mutator) (s : Table) → Sees (image_of m.image) s → (p : Space) (i : ℕ) (cell : Cell) → s.cells p i ≡ Some cell →
    entry_place (sizes_of m.image.shape) p i < length m.image.words.items
entry_place-within m s h p i cell stands =
    let below = entry_place-below s.sizes p i (cell-below s p i cell h.sound stands) in
    let whole = h.shows.words.whole in
    subst (λ z. entry_place z p i < length m.image.words.items) h.shows.sizes (omega (arith, below, whole))

module _ (image : Image) (s : Table) (h : Sees image s) where
  -- after an event that writes the word of the cell at an index, and changes no reference, variable or ticket
  pub Sees-cell : (e : Event) → IsLegal s e → IsDuringPhase e.act → (p : Space) (i : ℕ) (cell : Cell) → WritesCell e.act p i → (next s e).cells p i ≡ Some cell →
      (next s e).refs ≡ s.refs → (next s e).vars ≡ s.vars → (next s e).ticket ≡ s.ticket →
      Sees (record image { words = slice_set image.words (entry_place s.sizes p i) (cell_word cell true) }) (next s e)
  Sees-cell e legal during p i cell writes stands =
      Sees-words image s e h legal during (slice_set image.words (entry_place s.sizes p i) (cell_word cell true))
      (CellWordsFollow-row image.words s e p i cell h.sound.used h.shows.words legal writes stands)
      (λ o few. get_or-set_other image.words (entry_place s.sizes p i) (header_place o) (cell_word cell true) 0
      (λ same. absurd (omega (arith, same, few, entry_place-from s.sizes p i))))

  module _ (i : ℕ) (cell : Cell) (stands : s.cells Trusted i ≡ Some cell) (c : Cycle) (under_way : s.cycle ≡ Some c) (named : IsNamed c Trusted i) where
    pub IsLegal-mark : IsLegal s (event 0 (Mark Trusted i) reply.Ok)
    IsLegal-mark =
        (IsSomeAnd-by s.cycle c (λ c. IsSome (s.cells Trusted i) × IsNamed c Trusted i) under_way (IsSome-some (s.cells Trusted i) cell stands, named), refl)

    -- after the mark of a trusted cell the words have its word with the marking bit
    pub Sees-mark : Sees (record image { words = slice_set image.words (entry_place s.sizes Trusted i) (with_mark (slice_index image.words (entry_place s.sizes Trusted i))) })
        (next s (event 0 (Mark Trusted i) reply.Ok))
    Sees-mark =
        let word = cell-word image.words s Trusted i h.sound h.shows.words cell stands in
        let marked = ap with_mark word.1 ∙ cell_word-marked cell word.0 (cell-good image.words s Trusted i h.sound h.shows.words cell stands) in
        subst (λ w. Sees (record image { words = slice_set image.words (entry_place s.sizes Trusted i) w }) (next s (event 0 (Mark Trusted i) reply.Ok))) (sym marked)
        (Sees-cell (event 0 (Mark Trusted i) reply.Ok) IsLegal-mark tt Trusted i cell (refl, refl) stands refl refl refl)
