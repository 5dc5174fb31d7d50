-- What the private functions of the calls of objects leave: words and variables that are written, the word of an object to
-- link, and an object that is shaded in a cycle.
use Rattle.std.specs.Prelude.{◌≡◌, ◌≢◌, ℕ, ◌+◌, ◌-◌, ◌==◌, if◌then◌else◌, List, slice_index, Option, Some, None}
use Rattle.std.specs.Option.{option_map}
use Rattle.plain_table.specs.declared.reports.Reply.{Reply}
use Rattle.plain_table.specs.declared.reports.Reply.TheVariants as reply
use Rattle.plain_table.specs.Table.{Table}
use Rattle.plain_table.specs.Words.{phase_place}
use Rattle.entry_word.specs.Image.{image_of}
use Rattle.sweeper.specs.Shading.{Shades, names}
use Rattle.mutator_calls.specs.declared.heap.Mutator.{Mutator}
use Rattle.mutator_calls.specs.Calls.{Sees}

-- these words are written and these variables held afterwards, and nothing else changes
pub record Rewrites (old new : Mutator) (written held : List ℕ) : Type 0 where
  pub words : new.image.words.items ≡ written
  pub variables : new.image.vars.items ≡ held
  pub pending : new.image.pending ≡ old.image.pending
  pub shape : new.image.shape ≡ old.image.shape
  pub list : new.list ≡ old.list
  pub listed : new.owed ≡ old.owed
  pub area : new.area ≡ old.area

-- the object of a word, as a reply
abbrev pub object_reply : ℕ → Reply
object_reply word = if word == 0 then reply.Nothing else reply.Obj (word - 1)

-- the word of the object to link: of none, or of the one that the variable holds, where it holds one
abbrev pub target_word : Table → Option ℕ → Option ℕ
target_word s None = Some 0
target_word s (Some var) = option_map (λ o. o + 1) (s.vars 0 var)

pub record IsTarget (m : Mutator) (target found : Option ℕ) : Type 0 where
  pub tables : (s : Table) → Sees (image_of m.image) s → found ≡ target_word s target

-- nothing but the words of headers, and the list of objects that are shaded and not scanned, changes
pub record IsShadedIn (old new : Mutator) (word : ℕ) : Type 0 where
  pub variables : new.image.vars ≡ old.image.vars
  pub pending : new.image.pending ≡ old.image.pending
  pub shape : new.image.shape ≡ old.image.shape
  pub area : new.area ≡ old.area
  pub outside : slice_index old.image.words.items phase_place ≢ 1 →
      (new.image.words.items ≡ old.image.words.items) × (new.list ≡ old.list) × (new.owed ≡ old.owed)
  pub inside : slice_index old.image.words.items phase_place ≡ 1 →
      Shades old.image.words.items new.image.words.items old.list.items new.list.items old.owed new.owed (names word)
