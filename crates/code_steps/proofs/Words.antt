-- The words of the entries after one word is set.
use Rattle.std.proofs.Common.{◌≡◌, ◌≢◌, ℕ, ◌+◌, ◌*◌, ◌<◌, List, length, get_or, set, arith, get_or-set_same, get_or-set_other}
use Rattle.code_steps.specs.Rule.{sequence_word, code_word, entry_word}
use Rattle.code_steps.proofs.Frame.{SameWords}

module _ (words : List ℕ) (i x : ℕ) where
  other : (a b : ℕ) → b ≢ a → get_or (set words a x) b 0 ≡ get_or words b 0
  other a b ne = get_or-set_other words a b x 0 ne

  -- the sequence of entry i is set
  pub sequence_here : 3 * i < length words → sequence_word (set words (3 * i) x) i ≡ x
  sequence_here low = get_or-set_same words (3 * i) x 0 low

  pub sequence_code : code_word (set words (3 * i) x) i ≡ code_word words i
  sequence_code = other (3 * i) (3 * i + 1) (omega arith)

  pub sequence_entry : entry_word (set words (3 * i) x) i ≡ entry_word words i
  sequence_entry = other (3 * i) (3 * i + 2) (omega arith)

  pub sequence_else : (j : ℕ) → j ≢ i → SameWords words (set words (3 * i) x) j
  sequence_else j ne = record { sequence = other (3 * i) (3 * j) (omega arith); code = other (3 * i) (3 * j + 1) (omega arith); entry = other (3 * i) (3 * j + 2) (omega arith) }

  -- the code number of entry i is set
  pub code_here : 3 * i + 1 < length words → code_word (set words (3 * i + 1) x) i ≡ x
  code_here low = get_or-set_same words (3 * i + 1) x 0 low

  pub code_sequence : (j : ℕ) → sequence_word (set words (3 * i + 1) x) j ≡ sequence_word words j
  code_sequence j = other (3 * i + 1) (3 * j) (omega arith)

  pub code_entry : (j : ℕ) → entry_word (set words (3 * i + 1) x) j ≡ entry_word words j
  code_entry j = other (3 * i + 1) (3 * j + 2) (omega arith)

  pub code_else : (j : ℕ) → j ≢ i → SameWords words (set words (3 * i + 1) x) j
  code_else j ne = record { sequence = code_sequence j; code = other (3 * i + 1) (3 * j + 1) (omega arith); entry = code_entry j }

  -- the entry number of entry i is set
  pub entry_here : 3 * i + 2 < length words → entry_word (set words (3 * i + 2) x) i ≡ x
  entry_here low = get_or-set_same words (3 * i + 2) x 0 low

  pub entry_sequence : (j : ℕ) → sequence_word (set words (3 * i + 2) x) j ≡ sequence_word words j
  entry_sequence j = other (3 * i + 2) (3 * j) (omega arith)

  pub entry_code : (j : ℕ) → code_word (set words (3 * i + 2) x) j ≡ code_word words j
  entry_code j = other (3 * i + 2) (3 * j + 1) (omega arith)

  pub entry_else : (j : ℕ) → j ≢ i → SameWords words (set words (3 * i + 2) x) j
  entry_else j ne = record { sequence = entry_sequence j; code = entry_code j; entry = other (3 * i + 2) (3 * j + 2) (omega arith) }
