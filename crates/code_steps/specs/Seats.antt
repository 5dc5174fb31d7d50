-- What a clause says of a seat and its table.
use Rattle.std.specs.Prelude.{◌≡◌, ℕ, ◌*◌, ◌%◌, ◌<◌, false, List, length}
use Rattle.code_steps.specs.declared.view.View.{View}
use Rattle.code_steps.specs.declared.seat.CodeSeat.{CodeSeat}
use Rattle.code_steps.specs.declared.table.CodeTable.{CodeTable}
use Rattle.code_steps.specs.Lists.{EndsWith, list_at}
use Rattle.code_steps.specs.Rule.{sequence_word, code_word, entry_word}

abbrev pub view : CodeSeat → View
view s = s.seat.me.0

-- a view with a part, of a table with so many words
pub record HasPlace (words : ℕ) (v : View) : Type 0 where
  pub some : 0 < v.parts
  pub sized : words ≡ 3 * length v.seen
  pub shown : length v.shown ≡ length v.seen
  pub earlier : length v.earlier ≡ length v.seen
  pub even : v.start % 2 ≡ 0
  pub at : v.at < length v.seen

-- a seat of this table
abbrev pub IsAt : CodeTable → CodeSeat → Type 0
IsAt t s = (s.seat.table_id ≡ t.table.shared.table_id) × HasPlace t.table.shared.table_id.words (view s)

-- a seat of this table between two calls: it holds no claim
abbrev pub IsOf : CodeTable → CodeSeat → Type 0
IsOf t s = IsAt t s × ((view s).holds ≡ false)

-- the words show the last pair of each list that was seen, and its sequence
pub record ShowLast (words : List ℕ) (v : View) : Type 0 where
  pub size : length words ≡ 3 * length v.seen
  pub last : (i : ℕ) → i < length v.seen → EndsWith v.start (list_at v.seen i) (sequence_word words i) (code_word words i, entry_word words i)
