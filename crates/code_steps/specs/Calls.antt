-- What a write and a read tell their seat.
use Rattle.std.specs.Prelude.{◌≡◌, ◌≢◌, ℕ, ◌-◌, ◌^◌, ◌%◌, ◌≤◌, ◌⊎◌, ◌==◌, if◌then◌else◌, List, [], ◌∷◌, ◌++◌}
use Rattle.code_steps.specs.declared.view.View.{View}
use Rattle.code_steps.specs.declared.calls.Wrote.{Wrote}
use Rattle.code_steps.specs.declared.calls.Wrote.TheVariants.{Done, Busy, Spent}
use Rattle.code_steps.specs.declared.calls.CodeRead.{CodeRead}
use Rattle.code_steps.specs.declared.calls.CodeRead.TheVariants.{Pair as PairRead, Again}
use Rattle.code_steps.specs.Lists.{Pair, Each, list_at, grown_at, EndsWith}
use Rattle.code_steps.specs.Steps.{Stored}

-- these sequences rise: each is at least those before it, and at least all that were known
abbrev pub RiseFrom : List ℕ → List ℕ → Type 0
RiseFrom known [] = Unit {0}
RiseFrom known (n ∷ ns) = Each (λ m. m ≤ n) known × RiseFrom (known ++ n ∷ []) ns

-- the sequences that a write showed: the one that it loaded, and where it made the exchange, the one that this found
abbrev pub shown_by_write : Wrote → List ℕ
shown_by_write (Done seq) = (seq - 2) ∷ (seq - 2) ∷ []
shown_by_write (Busy expected found) = if expected % 2 == 0 then expected ∷ found ∷ [] else expected ∷ []
shown_by_write Spent = (2 ^ 64 - 2) ∷ []

-- why a write answered so, by the sequence that it loaded
abbrev pub HasWriteCause : Wrote → Type 0
HasWriteCause (Done seq) = (2 ≤ seq) × (seq % 2 ≡ 0)
HasWriteCause (Busy expected found) = ((expected % 2 ≡ 1) × (found ≡ expected)) ⊎ ((expected % 2 ≡ 0) × (expected ≢ 2 ^ 64 - 2) × (found ≢ expected))
HasWriteCause Spent = Unit {0}

-- no store, though more of the entry's list may have been seen
pub record Looked (v : View) (at : ℕ) (w : View) : Type 0 where
  pub more : List Pair
  pub seen : w.seen ≡ grown_at v.seen at more
  pub own : w.own ≡ v.own

abbrev pub LearnedByWrite : View → ℕ → Pair → Wrote → View → Type 0
LearnedByWrite v at p (Done seq) w = Stored v at seq p w
LearnedByWrite v at p _ w = Looked v at w

abbrev pub shown_by_read : CodeRead → List ℕ
shown_by_read (PairRead code entry seq) = seq ∷ seq ∷ []
shown_by_read (Again first second) = first ∷ second ∷ []

-- a write was under way at the first load, or ended or began between the two
abbrev pub HasReadCause : CodeRead → Type 0
HasReadCause (PairRead code entry seq) = seq % 2 ≡ 0
HasReadCause (Again first second) = (first % 2 ≡ 1) ⊎ (second ≢ first)

-- a pair ends the list that was then seen, under its sequence, so it stands before none that the seat had seen
abbrev pub LearnedByRead : View → ℕ → CodeRead → View → Type 0
LearnedByRead v at (PairRead code entry seq) w = Looked v at w × EndsWith w.start (list_at w.seen at) seq (code, entry)
LearnedByRead v at (Again first second) w = Looked v at w
