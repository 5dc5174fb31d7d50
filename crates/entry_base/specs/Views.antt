-- Views after the steps that change two seats: a split, a cut of a chunk, a join and an absorption. Each is a function of
-- the views before.
use Rattle.std.specs.Prelude.{ℕ, zero, suc, ◌+◌, ◌/◌, ◌==◌, nat_le, nat_lt, length, Bool, if◌then◌else◌, List, [], ◌∷◌, ◌++◌}
use Rattle.entry_base.specs.declared.view.Claim.{Claim}
use Rattle.entry_base.specs.declared.view.Fact.{Fact}
use Rattle.entry_base.specs.declared.view.Fact.TheVariants as fact
use Rattle.entry_base.specs.declared.view.Opening.{Opening}
use Rattle.entry_base.specs.declared.view.View.{View}
use Rattle.entry_base.specs.Lists.{count_in, without_one, without_all, longer, shorter}
use Rattle.entry_base.specs.Openings.{greys, sizes_in}

-- the numbers below n
abbrev pub numbers_below : ℕ → List ℕ
numbers_below zero = []
numbers_below (suc n) = n ∷ numbers_below n

-- the first session has all numbers, variables, tickets and hands
abbrev pub first_view : Opening → View
first_view key = record {
  opening = key;
  number = 12;
  numbers = numbers_below 13;
  seen = [];
  vars = key.vars;
  pending = key.pending;
  owed = [];
  fresh = [];
  hands = greys key.words (sizes_in key).objects;
  cut = [];
  facts = [];
}

-- the claims of other numbers
abbrev pub claims_but : ℕ → List Claim → List Claim
claims_but n [] = []
claims_but n (t ∷ ts) = if n == t.number then claims_but n ts else t ∷ claims_but n ts

-- a session that gave a number and some of its hands, and the new one
abbrev pub giver : ℕ → List ℕ → View → View
giver n objects v = record v {
  numbers = without_one n v.numbers;
  owed = claims_but n v.owed;
  fresh = claims_but n v.fresh;
  hands = without_all objects v.hands;
}

abbrev pub newcomer : ℕ → List ℕ → View → View
newcomer n objects v = record v { number = n; numbers = n ∷ []; owed = []; fresh = []; hands = objects; cut = [] }

-- a session that cut off a chunk of its hands, and the chunk, which has no number: 13 stands in no list
abbrev pub cutter : List ℕ → View → View
cutter objects v = record v { hands = without_all objects v.hands; cut = objects ++ v.cut }

abbrev pub chunk_view : List ℕ → View → View
chunk_view objects v = record v { number = 13; numbers = []; owed = []; fresh = []; hands = objects; cut = [] }

-- of two lists, element by element, the one that a test picks
abbrev pub pick_from : {A : Type 0} → (ℕ → Bool) → ℕ → List A → List A → List A
pick_from f i [] ys = []
pick_from f i (x ∷ xs) [] = []
pick_from f i (x ∷ xs) (y ∷ ys) = (if f i then y else x) ∷ pick_from f (i + 1) xs ys

abbrev pub has_number : View → ℕ → Bool
has_number u b = nat_le 1 (count_in b u.numbers)

-- what is known of the two histories that are put together
abbrev pub joined_fact : View → View → Fact
joined_fact v u =
    fact.Joined (shorter v.seen u.seen) (longer v.seen u.seen) (if nat_lt (length v.seen) (length u.seen) then v.numbers else u.numbers)

-- a session that took in another
abbrev pub both : View → View → View
both v u = record v {
  numbers = v.numbers ++ u.numbers;
  seen = longer v.seen u.seen;
  vars = pick_from (λ j. has_number u (j / 16)) 0 v.vars u.vars;
  pending = pick_from (has_number u) 0 v.pending u.pending;
  owed = v.owed ++ u.owed;
  fresh = v.fresh ++ u.fresh;
  hands = v.hands ++ u.hands;
  cut = v.cut ++ u.cut;
  facts = joined_fact v u ∷ v.facts ++ u.facts;
}

-- and one that took in a chunk
abbrev pub absorber : View → View → View
absorber v u = record v {
  seen = longer v.seen u.seen;
  hands = v.hands ++ u.hands;
  facts = joined_fact v u ∷ v.facts ++ u.facts;
}

-- what is left of the other one: it has nothing
abbrev pub spent : View
spent = record {
  opening = record { shape = record { seg = 0; ext = 0; tru = 0; objects = 0 }; words = []; vars = []; pending = [] };
  number = 13;
  numbers = [];
  seen = [];
  vars = [];
  pending = [];
  owed = [];
  fresh = [];
  hands = [];
  cut = [];
  facts = [];
}
