use Rattle.std.proofs.Common.{◌≡◌, ◌+◌, ◌<◌, ◌≤◌, ◌⊎◌, ℕ, slice_index}
use Rattle.entry_word.specs.Entry.{entry_word}
use Rattle.entry_word.specs.Fresh.{fresh_entry}
use Rattle.entry_word.proofs.image.fill_entries.Given as goal

abbrev pub invariant-loop-index : goal.invariant-loop-index
invariant-loop-index l = record {
  entries : (i : ℕ) → i < l.index → slice_index l.words (l.base + i) ≡ entry_word (fresh_entry i l.seg);
  rest : (place : ℕ) → (place < l.base) ⊎ (l.base + l.limit ≤ place) → slice_index l.words place ≡ slice_index l.initial.words place;
}
