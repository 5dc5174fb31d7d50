-- What each kind of step tells its seat.
use Rattle.std.specs.Prelude.{◌≡◌, ℕ, ◌+◌, ◌*◌, ◌%◌, ◌≤◌, ◌==◌, false, List, [], ◌∷◌, ◌++◌}
use Rattle.atomic_table.specs.Table.{Step, Me}
use Rattle.code_steps.specs.declared.view.View.{View}
use Rattle.code_steps.specs.Lists.{Pair, StartsWith, Each, list_at, grown_at, EndsWith, store_of}
use Rattle.code_steps.specs.Views.{IsWhole, OwnsSeen, known_at}

-- what no step changes but splitting and joining
pub record SameSeat (v w : View) : Type 0 where
  pub parts : w.parts ≡ v.parts
  pub start : w.start ≡ v.start
  pub earlier : w.earlier ≡ v.earlier

-- a load of the sequence of entry i, in which the entry's whole list was seen. No greater one was shown before. Where it found again what the seat had found at its last step there, and that is even, the numbers that the seat has loaded since are the last pair
pub record LoadedSequence (v : View) (i found : ℕ) (w : View) : Type 0 where
  pub same : SameSeat v w
  pub free : w.holds ≡ false
  pub more : List Pair
  pub seen : w.seen ≡ grown_at v.seen i more
  pub own : w.own ≡ v.own
  pub shown : w.shown ≡ grown_at v.shown i (found ∷ [])
  pub rises : Each (λ n. n ≤ found) (known_at v i)
  pub at : w.at ≡ i
  pub first : w.first ≡ found
  pub pair : i ≡ v.at → found ≡ v.first → found % 2 ≡ 0 → EndsWith w.start (list_at w.seen i) found (v.code, v.entry)

abbrev pub loaded_sequence : Step (Unit {0}) → Me (Unit {0}) View → ℕ → Me (Unit {0}) View → Type 0
loaded_sequence s m found n = ((i : ℕ) → s.word ≡ 3 * i → LoadedSequence m.0 i found n.0) × (n.1 ≡ m.1)

abbrev pub loaded_code : Step (Unit {0}) → Me (Unit {0}) View → ℕ → Me (Unit {0}) View → Type 0
loaded_code s m found n = (n.0 ≡ record m.0 { code = found }) × (n.1 ≡ m.1)

abbrev pub loaded_entry : Step (Unit {0}) → Me (Unit {0}) View → ℕ → Me (Unit {0}) View → Type 0
loaded_entry s m found n = (n.0 ≡ record m.0 { entry = found }) × (n.1 ≡ m.1)

-- what holds of each view
pub record Learned (v : View) : Type 0 where
  pub own : OwnsSeen v
  pub common : (i : ℕ) → StartsWith (list_at v.seen i) (list_at v.common i)
  pub whole : v.parts ≡ 16 → IsWhole v

abbrev pub learned : Step (Unit {0}) → Me (Unit {0}) View → ℕ → Me (Unit {0}) View → Type 0
learned s m found n = (n.0 ≡ m.0) × Learned m.0 × (n.1 ≡ m.1)

-- an exchange of the sequence of entry i: it claimed the entry, or it found another sequence than the old one. No greater one was shown before
pub record Claimed (v : View) (i old found : ℕ) (w : View) : Type 0 where
  pub same : SameSeat v w
  pub seen : w.seen ≡ v.seen
  pub own : w.own ≡ v.own
  pub shown : w.shown ≡ grown_at v.shown i (found ∷ [])
  pub rises : Each (λ n. n ≤ found) (known_at v i)
  pub at : w.at ≡ v.at
  pub holds : w.holds ≡ (found == old)
  pub first : found ≡ old → w.first ≡ old + 1

abbrev pub claimed : Step (Unit {0}) → Me (Unit {0}) View → ℕ → Me (Unit {0}) View → Type 0
claimed s m found n = ((i : ℕ) → s.word ≡ 3 * i → Claimed m.0 i s.first found n.0) × (n.1 ≡ m.1)

abbrev pub stored_code : Step (Unit {0}) → Me (Unit {0}) View → ℕ → Me (Unit {0}) View → Type 0
stored_code s m found n = (n.0 ≡ record m.0 { code = s.first }) × (n.1 ≡ m.1)

abbrev pub stored_entry : Step (Unit {0}) → Me (Unit {0}) View → ℕ → Me (Unit {0}) View → Type 0
stored_entry s m found n = (n.0 ≡ record m.0 { entry = s.first }) × (n.1 ≡ m.1)

-- a pair was stored at entry i under this sequence: the list that was seen ends with it, and it is one more own store
pub record Stored (v : View) (i seq : ℕ) (p : Pair) (w : View) : Type 0 where
  pub between : List Pair
  pub seen : w.seen ≡ grown_at v.seen i (between ++ p ∷ [])
  pub ends : EndsWith w.start (list_at w.seen i) seq p
  pub own : w.own ≡ v.own ++ store_of i seq p ∷ []

-- the store of the two numbers, which ends the claim
pub record Released (v : View) (i seq : ℕ) (w : View) : Type 0 where
  pub same : SameSeat v w
  pub free : w.holds ≡ false
  pub shown : w.shown ≡ v.shown
  pub at : w.at ≡ v.at
  pub stored : Stored v i seq (v.code, v.entry) w

abbrev pub released : Step (Unit {0}) → Me (Unit {0}) View → ℕ → Me (Unit {0}) View → Type 0
released s m found n = ((i : ℕ) → s.word ≡ 3 * i → Released m.0 i s.first n.0) × (n.1 ≡ m.1)
