-- The calls of a run and their answers: what each showed and stored, and how they are counted.
use Rattle.std.specs.Prelude.{◌≡◌, ℕ, ◌+◌, ◌*◌, ◌%◌, ◌^◌, Bool, ◌==◌, if◌then◌else◌, List, [], ◌∷◌, ◌++◌, length}
use Rattle.std.specs.List.{flat_map, enumerate_from}
use Rattle.code_steps.specs.declared.view.View.{View}
use Rattle.code_steps.specs.declared.view.Store.{Store}
use Rattle.code_steps.specs.declared.calls.Wrote.{Wrote}
use Rattle.code_steps.specs.declared.calls.Wrote.TheVariants.{Done, Busy}
use Rattle.code_steps.specs.declared.calls.CodeRead.{CodeRead}
use Rattle.code_steps.specs.declared.calls.CodeRead.TheVariants.{Pair as PairRead, Again}
use Rattle.code_steps.specs.Lists.{Pair, StartsWith, Each, total, list_at, EndsWith, store_of}
use Rattle.code_steps.specs.Calls.{shown_by_write, HasWriteCause, shown_by_read, HasReadCause}
use Rattle.code_run.specs.declared.run.CodeReport.{CodeReport}

-- the entry to which call `turn` of each worker goes
abbrev pub entry_of : ℕ → ℕ
entry_of turn = turn % 4

-- the pair that call `turn` of a writer writes
abbrev pub pair_of : ℕ → ℕ → Pair
pair_of writer turn = (2 * turn + writer, 2 ^ 32 + (2 * turn + writer))

-- the entry number of a code is 2^32 more
abbrev pub is_good : Pair → Bool
is_good p = p.1 == 2 ^ 32 + p.0

-- 1 for a pair of two writes, else 0
abbrev pub is_bad : Pair → ℕ
is_bad p = if is_good p then 0 else 1

-- the answers to the calls of writers 0 and 1 and of both readers, each list in the order of the calls
pub record Answers : Type 0 where
  pub first : List Wrote
  pub second : List Wrote
  pub third : List CodeRead
  pub fourth : List CodeRead

-- each worker made n calls, and each answer has its cause
pub record Answered (n : ℕ) (a : Answers) : Type 0 where
  pub writes : (length a.first ≡ n) × (length a.second ≡ n)
  pub reads : (length a.third ≡ n) × (length a.fourth ≡ n)
  pub write_causes : Each HasWriteCause a.first × Each HasWriteCause a.second
  pub read_causes : Each HasReadCause a.third × Each HasReadCause a.fourth

-- 1 for an answer of this kind, else 0
abbrev pub of_done : Wrote → ℕ
of_done (Done seq) = 1
of_done _ = 0

abbrev pub of_busy : Wrote → ℕ
of_busy (Busy expected found) = 1
of_busy _ = 0

abbrev pub of_pair : CodeRead → ℕ
of_pair (PairRead code entry seq) = 1
of_pair (Again first second) = 0

abbrev pub of_again : CodeRead → ℕ
of_again (PairRead code entry seq) = 0
of_again (Again first second) = 1

abbrev pub of_bad : CodeRead → ℕ
of_bad (PairRead code entry seq) = is_bad (code, entry)
of_bad (Again first second) = 0

-- the report counts these answers
pub record Counts (a : Answers) (r : CodeReport) : Type 0 where
  pub done : r.done ≡ total of_done a.first + total of_done a.second
  pub busy : r.busy ≡ total of_busy a.first + total of_busy a.second
  pub pairs : r.pairs ≡ total of_pair a.third + total of_pair a.fourth
  pub again : r.again ≡ total of_again a.third + total of_again a.fourth
  pub bad : r.bad ≡ total of_bad a.third + total of_bad a.fourth

-- what one worker's calls to entry i showed, in order, by what each answer shows
abbrev pub shown_at : {A : Type 0} → (A → List ℕ) → ℕ → List A → List ℕ
shown_at shown_by i answers = flat_map (λ call. if entry_of call.0 == i then shown_by call.1 else []) (enumerate_from 0 answers)

-- what all calls to entry i showed
abbrev pub shown_in_run : ℕ → Answers → List ℕ
shown_in_run i a = (shown_at shown_by_write i a.first ++ shown_at shown_by_write i a.second) ++ (shown_at shown_by_read i a.third ++ shown_at shown_by_read i a.fourth)

-- the stores of a writer's calls: one for each that was done
abbrev pub stored_by : ℕ → ℕ → Wrote → List Store
stored_by writer turn (Done seq) = store_of (entry_of turn) seq (pair_of writer turn) ∷ []
stored_by writer turn _ = []

abbrev pub stores_of : ℕ → List Wrote → List Store
stores_of writer answers = flat_map (λ call. stored_by writer call.0 call.1) (enumerate_from 0 answers)

-- a pair that was read stands in the list of its call's entry, at its sequence's place
abbrev pub StandsIn : View → ℕ → CodeRead → Type 0
StandsIn v turn (PairRead code entry seq) = (l : List Pair) × StartsWith (list_at v.seen (entry_of turn)) l × EndsWith v.start l seq (code, entry)
StandsIn v turn (Again first second) = Unit {0}

abbrev pub AllStandIn : View → List CodeRead → Type 0
AllStandIn v answers = Each (λ call. StandsIn v call.0 call.1) (enumerate_from 0 answers)
