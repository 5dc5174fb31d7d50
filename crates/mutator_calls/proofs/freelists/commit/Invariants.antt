use Rattle.std.proofs.Common.{◌≡◌, ◌≢◌, ◌+◌, ◌<◌, ◌≤◌, ℕ, slice_index}
use Rattle.plain_table.specs.Words.{free_word}
use Rattle.mutator_calls.proofs.freelists.commit.Given as goal

abbrev pub invariant-loop-index : goal.invariant-loop-index
invariant-loop-index l = record {
  linked : (i : ℕ) → l.start ≤ i → i < l.index → slice_index l.words (l.first + i) ≡ free_word (i + 1);
  others : (place : ℕ) → ((i : ℕ) → l.start ≤ i → i < l.index → place ≢ l.first + i) → slice_index l.words place ≡ slice_index l.initial.words place;
}
