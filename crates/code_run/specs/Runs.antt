-- What a run of two writers and two readers tells: how its calls were answered, what stands in the lists after it, and what its steps showed.
use Rattle.std.specs.Prelude.{◌≡◌, ℕ, ◌+◌, ◌*◌, ◌%◌, ◌^◌, ◌<◌, ◌≤◌, ◌==◌, if◌then◌else◌, List, [], ◌∷◌, ◌++◌, length}
use Rattle.code_steps.specs.declared.view.View.{View}
use Rattle.code_steps.specs.declared.view.Store.{Store}
use Rattle.code_steps.specs.Lists.{Pair, StartsWith, Each, total, list_at, all_stores}
use Rattle.code_steps.specs.Views.{IsWhole}
use Rattle.code_run.specs.declared.run.CodeReport.{CodeReport}
use Rattle.code_run.specs.Calls.{Answers, Answered, Counts, shown_in_run, stores_of, AllStandIn}

-- the four lists of which each has its opening pair alone
abbrev pub opening_lists : List (List Pair)
opening_lists = ((0, 2 ^ 32) ∷ []) ∷ ((0, 2 ^ 32) ∷ []) ∷ ((0, 2 ^ 32) ∷ []) ∷ ((0, 2 ^ 32) ∷ []) ∷ []

-- nothing was stored or shown yet
pub record IsFresh (v : View) : Type 0 where
  pub start : v.start ≡ 0
  pub parts : v.parts ≡ 1
  pub seen : v.seen ≡ opening_lists
  pub own : v.own ≡ []
  pub shown : v.shown ≡ [] ∷ [] ∷ [] ∷ [] ∷ []

-- a seat with all parts, of a table in which nothing was stored yet
pub record IsOpen (v : View) : Type 0 where
  pub start : v.start ≡ 0
  pub parts : v.parts ≡ 16
  pub seen : v.seen ≡ opening_lists
  pub own : v.own ≡ []

-- the store that call r of writer w makes, for an r below n
pub record IsStoreOf (w n : ℕ) (x : Store) : Type 0 where
  pub turn : ℕ
  pub below : turn < n
  pub at : x.at ≡ turn % 4
  pub code : x.code ≡ 2 * turn + w
  pub entry : x.entry ≡ 2 ^ 32 + (2 * turn + w)

-- a store of one of the two writers
abbrev pub IsStoreOfRun : ℕ → Store → Type 0
IsStoreOfRun n x = (w : ℕ) × (w < 2) × IsStoreOf w n x

-- 1 for a store of this code, else 0
abbrev pub of_code : ℕ → Store → ℕ
of_code code x = if x.code == code then 1 else 0

pub record Ran (before : View) (n : ℕ) (r : CodeReport) (after : View) : Type 0 where
  -- there are answers to n calls of each worker, which the report counts
  pub answers : Answers
  pub answered : Answered n answers
  pub counts : Counts answers r
  -- what was shown of each entry has grown by exactly what these answers show
  pub shown : (i : ℕ) → list_at after.shown i ≡ list_at before.shown i ++ shown_in_run i answers
  -- the stores are those of the writes that were done, each once after the opening pairs; and each pair that was read
  -- stands in its list
  pub own : after.own ≡ stores_of 0 answers.first ++ stores_of 1 answers.second
  pub whole : IsWhole after
  pub read : AllStandIn after answers.third × AllStandIn after answers.fourth
  -- no write is spent, and no pair is bad
  pub parts : after.parts ≡ 16
  pub writes : r.done + r.busy ≡ 2 * n
  pub reads : r.pairs + r.again ≡ 2 * n
  pub bad : r.bad ≡ 0
  -- the lists begin as before, and have grown by exactly `done` pairs
  pub begins : (i : ℕ) → StartsWith (list_at after.seen i) (list_at before.seen i)
  pub grown : total length after.seen ≡ total length before.seen + r.done
  -- each of these is one that a writer's call stores at that entry, and each stands once
  pub stores : Each (IsStoreOfRun n) (all_stores 0 0 after.seen)
  pub once : (code : ℕ) → total (of_code code) (all_stores 0 0 after.seen) ≤ 1
  -- the list of each entry that a call goes to has grown
  pub each : (i : ℕ) → i < 4 → i < n → 2 ≤ length (list_at after.seen i)
  pub least : total length before.shown + 2 * r.done + r.busy + 2 * (r.pairs + r.again) ≤ total length after.shown
