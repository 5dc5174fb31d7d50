-- The rule: each entry has a list of pairs. Between two steps its words show the last pair, and its sequence is that pair's; but where one seat holds the entry, the sequence is one more, which is odd, and that seat's view has the numbers that the words hold.
use Rattle.std.specs.Prelude.{◌≡◌, ℕ, ◌+◌, ◌*◌, ◌%◌, ◌<◌, ◌≤◌, ◌==◌, if◌then◌else◌, true, List, length, slice_index}
use mathlib.Core.Option.{some}
use lib.ListN.{get_elem?}
use Rattle.atomic_table.specs.Table.{State as Table}
use Rattle.code_steps.specs.declared.view.View.{View}
use Rattle.code_steps.specs.declared.view.Store.{Store}
use Rattle.code_steps.specs.Lists.{Pair, StartsWith, Each, total, list_at, EndsWith, all_stores, IsSeenStore}
use Rattle.code_steps.specs.Views.{spent}

-- the three words of an entry
abbrev pub sequence_word : List ℕ → ℕ → ℕ
sequence_word words i = slice_index words (3 * i)

abbrev pub code_word : List ℕ → ℕ → ℕ
code_word words i = slice_index words (3 * i + 1)

abbrev pub entry_word : List ℕ → ℕ → ℕ
entry_word words i = slice_index words (3 * i + 2)

-- 1 where the seat holds the claim of entry i
abbrev pub holds_at : ℕ → View → ℕ
holds_at i v = if v.holds then (if v.at == i then 1 else 0) else 0

-- what the words of entry i show, where so many seats hold it
pub record Shows (start : ℕ) (l : List Pair) (words : List ℕ) (i holders : ℕ) : Type 0 where
  pub last : Pair
  pub seq : ℕ
  pub ends : EndsWith start l seq last
  pub word : sequence_word words i ≡ seq + holders
  pub one : holders ≤ 1
  pub pair : holders ≡ 0 → (code_word words i ≡ last.0) × (entry_word words i ≡ last.1)

-- the words hold the two numbers that the view has
abbrev pub HasNumbers : List ℕ → View → Type 0
HasNumbers words v = (code_word words v.at ≡ v.code) × (entry_word words v.at ≡ v.entry)

-- what a view with a part knows of the lists and the words
pub record Knows (opening : ℕ) (lists : List (List Pair)) (words : List ℕ) (v : View) : Type 0 where
  pub begins : v.start ≡ opening
  pub sizes : (length v.seen ≡ length lists) × (length v.shown ≡ length lists)
  pub seen : (i : ℕ) → StartsWith (list_at lists i) (list_at v.seen i)
  pub some : (i : ℕ) → i < length lists → 1 ≤ length (list_at v.seen i)
  pub common : (i : ℕ) → StartsWith (list_at v.seen i) (list_at v.common i)
  pub own : Each (IsSeenStore opening lists v.seen) v.own
  pub shown : (i : ℕ) → Each (λ n. n ≤ sequence_word words i) (list_at v.shown i)
  pub earlier : (length v.earlier ≡ length lists) × ((i : ℕ) → Each (λ n. n ≤ sequence_word words i) (list_at v.earlier i))
  pub place : v.at < length lists
  pub low : v.first ≤ sequence_word words v.at
  pub read : v.first % 2 ≡ 0 → sequence_word words v.at ≡ v.first → HasNumbers words v
  pub held : v.holds ≡ true → (sequence_word words v.at ≡ v.first) × (v.first % 2 ≡ 1) × HasNumbers words v

pub record Kept (words : List ℕ) (views : List View) : Type 0 where
  pub start : ℕ
  pub lists : List (List Pair)
  pub even : start % 2 ≡ 0
  pub size : length words ≡ 3 * length lists
  pub shows : (i : ℕ) → i < length lists → Shows start (list_at lists i) words i (total (holds_at i) views)
  pub parts : total (λ v. v.parts) views ≡ 16
  -- each pair after the first is an own store of exactly one seat, once
  pub stores : (weight : Store → ℕ) → total (λ v. total weight v.own) views ≡ total weight (all_stores 0 start lists)
  pub idle : (seat : ℕ) (v : View) → get_elem? views seat ≡ some v → v.parts ≡ 0 → v ≡ spent
  pub knows : (seat : ℕ) (v : View) → get_elem? views seat ≡ some v → 0 < v.parts → Knows start lists words v

abbrev pub Ruled : Table (Unit {0}) View → Type 0
Ruled t = Kept t.words t.views
