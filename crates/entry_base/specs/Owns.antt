-- Tickets and claims: the variables, the tickets, and the taken and filled indexes of the numbers that a view has. Only
-- events of these numbers change them.
use Rattle.std.specs.Prelude.{◌≡◌, ℕ, ◌+◌, ◌*◌, ◌<◌, ◌==◌, ◌&&◌, Bool, if◌then◌else◌, [], ◌∷◌, List, slice_index, slice_index_or, Option, IsTrue}
use Rattle.plain_table.specs.declared.events.Space.{Space}
use Rattle.plain_table.specs.Places.{same_space}
use Rattle.plain_table.specs.Table.{Table}
use Rattle.plain_table.specs.Words.{object_word}
use Rattle.plain_table.specs.Shows.{IsPending}
use Rattle.entry_word.specs.declared.image.Pending.{Pending}
use Rattle.entry_base.specs.declared.view.View.{View}
use Rattle.entry_base.specs.declared.view.Claim.{Claim}
use Rattle.entry_base.specs.Lists.{Each}
use Rattle.entry_base.specs.Numbers.{HasNumber}
use Rattle.entry_base.specs.Openings.{pending_cell}

pub record Owns (s : Table) (v : View) : Type 0 where
  pub variables : (b i : ℕ) → HasNumber v b → b < 8 → i < 16 → slice_index v.vars (16 * b + i) ≡ object_word (s.vars b i)
  pub pending : (b : ℕ) (d : Option Pending) → HasNumber v b → b < 8 → IsPending s (s.ticket b) (pending_cell (slice_index_or v.pending b d))
  -- taken and not filled; filled and not bound
  pub owed : Each (λ t. HasNumber v t.number × IsTrue (s.owed t.number t.space t.index)) v.owed
  pub fresh : Each (λ t. HasNumber v t.number × IsTrue (s.fresh t.number t.space t.index)) v.fresh

-- the claim of the view's own number on an index
abbrev pub claim_of : View → Space → ℕ → Claim
claim_of v p i = record { number = v.number; space = p; index = i }

-- the claims but those of one number on one index
abbrev pub same_claim : ℕ → Space → ℕ → Claim → Bool
same_claim b p i t = (b == t.number) && same_space p t.space && (i == t.index)

abbrev pub without_claim : ℕ → Space → ℕ → List Claim → List Claim
without_claim b p i [] = []
without_claim b p i (t ∷ ts) = if same_claim b p i t then without_claim b p i ts else t ∷ without_claim b p i ts

-- a variable of the view's own number holds the object, and one of its variables does
abbrev pub HoldsIn : View → ℕ → ℕ → Type 0
HoldsIn v var o = (var < 16) × (slice_index v.vars (16 * v.number + var) ≡ o + 1)

abbrev pub IsHeld : View → ℕ → Type 0
IsHeld v o = (var : ℕ) × HoldsIn v var o
