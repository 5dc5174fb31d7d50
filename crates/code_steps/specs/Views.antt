-- What a seat knows at the opening, and after it was split and joined. Nothing here names the table.
use Rattle.std.specs.Prelude.{◌≡◌, ℕ, ◌+◌, ◌-◌, ◌<◌, ◌≤◌, false, List, [], ◌∷◌, ◌++◌, map, length, slice_index, slice_index_or}
use Rattle.code_steps.specs.declared.view.View.{View}
use Rattle.code_steps.specs.declared.view.Store.{Store}
use Rattle.code_steps.specs.Lists.{Pair, Each, longer, shorter, in_turn, of_both, list_at, total, all_stores, IsSeenStore, EndsWith}

-- the words at the opening: the sequence and the two numbers of each entry
abbrev pub words_of : ℕ → List Pair → List ℕ
words_of start [] = []
words_of start (p ∷ ps) = start ∷ p.0 ∷ p.1 ∷ words_of start ps

-- the first seat of entries that begin with these pairs
abbrev pub opening_view : ℕ → List Pair → View
opening_view start pairs = record {
  parts = 16;
  start = start;
  seen = map (λ p. p ∷ []) pairs;
  own = [];
  shown = map (λ _. []) pairs;
  earlier = map (λ _. []) pairs;
  common = [];
  at = 0;
  first = start;
  code = (slice_index_or pairs 0 (0, 0)).0;
  entry = (slice_index_or pairs 0 (0, 0)).1;
  holds = false;
}

-- the pairs that these words show
abbrev pub pairs_of : List ℕ → List Pair
pairs_of (s ∷ c ∷ e ∷ ws) = (c, e) ∷ pairs_of ws
pairs_of _ = []

abbrev pub first_view : List ℕ → View
first_view words = opening_view (slice_index words 0) (pairs_of words)

-- a seat that gave a part, and the new seat: it has seen what the giver had, what was shown before to the giver was shown earlier, and it has no store and shown nothing of its own
abbrev pub giver : View → View
giver v = record v { parts = v.parts - 1 }

abbrev pub newcomer : View → View
newcomer v = record v { parts = 1; own = []; shown = map (λ _. []) v.shown; earlier = of_both in_turn v.earlier v.shown }

-- a seat that took in another: the parts and the own stores of both, of each entry the longer list, and what its steps and then the other's showed
abbrev pub both : View → View → View
both v u = record v {
  parts = v.parts + u.parts;
  seen = of_both longer v.seen u.seen;
  own = v.own ++ u.own;
  shown = of_both in_turn v.shown u.shown;
  earlier = of_both in_turn v.earlier u.earlier;
  common = of_both shorter v.seen u.seen;
}

-- every sequence that was shown of an entry: to the seats that this one was split from, before it was, and to this one
abbrev pub known_at : View → ℕ → List ℕ
known_at v i = list_at v.earlier i ++ list_at v.shown i

-- what a join leaves
abbrev pub spent : View
spent = record { parts = 0; start = 0; seen = []; own = []; shown = []; earlier = []; common = []; at = 0; first = 0; code = 0; entry = 0; holds = false }

-- each own store is that of a pair that the seat has seen
abbrev pub OwnsSeen : View → Type 0
OwnsSeen v = Each (IsSeenStore v.start v.seen v.seen) v.own

-- a seat with all parts: the stores after the opening pairs are its own ones, each once, however they are weighed; and
-- no step of its own showed more than the last pair's sequence
pub record IsWhole (v : View) : Type 0 where
  pub stores : (weight : Store → ℕ) → total weight v.own ≡ total weight (all_stores 0 v.start v.seen)
  pub ends : (i : ℕ) → i < length v.seen → (p : Pair) × (seq : ℕ) × EndsWith v.start (list_at v.seen i) seq p × Each (λ n. n ≤ seq) (list_at v.shown i)
