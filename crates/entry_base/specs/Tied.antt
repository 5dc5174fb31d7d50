-- What a session has at run time is what its view has.
use Rattle.std.specs.Prelude.{◌≡◌, ℕ, ◌<◌, ◌≤◌, Bool, false, if◌then◌else◌, List, length, slice_index_or, Option}
use Rattle.entry_word.specs.declared.image.Image.{Image}
use Rattle.entry_word.specs.declared.image.Pending.{Pending}
use Rattle.entry_base.specs.declared.view.Opening.{Opening}
use Rattle.entry_base.specs.declared.view.View.{View}
use Rattle.entry_base.specs.Lists.{count_in}
use Rattle.entry_base.specs.Openings.{opening_of, phase_of, start_of}
use Rattle.entry_base.specs.Views.{has_number}

-- the parts of a session, apart from its seat
pub record Parts : Type 0 where
  pub number : ℕ
  pub numbers : List Bool
  pub vars : List ℕ
  pub pending : List (Option Pending)
  pub in_cycle : Bool
  pub area : Option ℕ

pub record IsTied (parts : Parts) (v : View) : Type 0 where
  pub number : parts.number ≡ v.number
  pub numbers : (n : ℕ) → n < 13 → slice_index_or parts.numbers n false ≡ has_number v n
  pub vars : parts.vars ≡ v.vars
  pub pending : parts.pending ≡ v.pending
  pub in_cycle : phase_of v.opening ≡ (if parts.in_cycle then 1 else 0)
  pub area : parts.area ≡ start_of v.opening
  pub many : length v.vars ≡ 128
  pub eight : length v.pending ≡ 8
  pub thirteen : length parts.numbers ≡ 13
  -- each number once
  pub once : (n : ℕ) → count_in n v.numbers ≤ 1

-- the room for the last image is the first one
pub record HasRoom (room : Image) (count : ℕ) (key : Opening) : Type 0 where
  pub opened : opening_of room ≡ key
  pub words : length room.words.items ≡ count
  pub vars : length room.vars.items ≡ 128
  pub pending : length room.pending.items ≡ 8
