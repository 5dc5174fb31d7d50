-- What a sweep makes, in lists of entries (the cells and used indexes of both spaces, the external words, the tickets),
-- and what a state keeps once that has taken its place: no number has a claim on an index then, and no cycle is under
-- way.
use Rattle.std.specs.Prelude.{◌≡◌, ℕ, ◌==◌, ◌||◌, List, [], None, is_some}
use Rattle.plain_table.specs.declared.events.Cell.{Cell}
use Rattle.plain_table.specs.declared.events.Space.{Space}
use Rattle.plain_table.specs.declared.events.Field.TheVariants as field
use Rattle.plain_program.specs.Entries.{at, has, word_at}
use Rattle.plain_table.specs.Cycle.{Cycle}
use Rattle.plain_table.specs.Table.{Table}
use Rattle.plain_table.specs.Finish.{rewritten, swept, ticket_kept}
use Rattle.plain_program.specs.Kept.{Kept, by_space}

pub record KeptSwept : Type 0 where
  pub external_cells : List (ℕ × Cell)
  pub trusted_cells : List (ℕ × Cell)
  pub external_used : List ℕ
  pub trusted_used : List ℕ
  pub external_words : List (ℕ × ℕ)
  pub tickets : List (ℕ × ℕ)

-- the lists hold what the finish of cycle c leaves of the table s
pub record IsSwept (s : Table) (c : Cycle) (k : KeptSwept) : Type 0 where
  pub cells : (p : Space) (i : ℕ) → by_space (at k.external_cells) (at k.trusted_cells) p i ≡ swept s c p i
  pub used : (p : Space) (i : ℕ) → by_space (has k.external_used) (has k.trusted_used) p i ≡ (i == 0 || is_some (swept s c p i))
  pub words : (number : ℕ) → word_at k.external_words number ≡ rewritten c s.words (field.External number)
  pub tickets : (b : ℕ) → at k.tickets b ≡ ticket_kept s c (s.ticket b)

-- after a sweep no number has a claim, and no cycle is under way
abbrev pub swept_kept : Kept → KeptSwept → Kept
swept_kept k made = record k {
  external_cells = made.external_cells;
  trusted_cells = made.trusted_cells;
  external_used = made.external_used;
  trusted_used = made.trusted_used;
  external_owed = [];
  trusted_owed = [];
  external_fresh = [];
  trusted_fresh = [];
  external_words = made.external_words;
  tickets = made.tickets;
  cycle = None;
}
