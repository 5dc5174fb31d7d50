-- The numbers that a session has at run time, after a split and a join.
use Rattle.std.proofs.Common.{◌≡◌, ◌≢◌, ℕ, zero, suc, ◌+◌, ◌<◌, ◌≤◌, nat_le, nat_lt, ◌/◌, Bool, true, false, if◌then◌else◌, List, [], ◌∷◌, ◌++◌, length, get_or, set, replicate, Option, refl, sym, ap, ap₂, subst, ◌∙◌, arith, inl, inr, get_or-set_other, get_or-set_same, length-set, eq-eqb, ne_eqb}
use Rattle.std.proofs.lemmas.Bool.{cases_Bool}
use Rattle.std.proofs.lemmas.Bool.Decides.{eqb_tells, nat_tests}
use Rattle.entry_base.specs.declared.view.Opening.{Opening}
use Rattle.entry_word.specs.declared.image.Pending.{Pending}
use Rattle.entry_base.specs.declared.view.View.{View}
use Rattle.entry_base.specs.Lists.{count_in, without_one, AreIn}
use Rattle.entry_base.specs.Numbers.{HasNumber}
use Rattle.entry_base.specs.Views.{numbers_below, first_view, has_number, giver, newcomer, both, chunk_view, cutter, pick_from}
use Rattle.atomic_table.specs.Table.{Splits}
use Rattle.entry_base.specs.Rule.{Ruled}
use Rattle.entry_base.proofs.SplitKeeps.{cuts, splits}
use Rattle.plain_table.specs.Table.{Table}
use Rattle.entry_base.specs.Openings.{IsBase, phase_of, sizes_in, start_of}
use Rattle.entry_base.specs.Sessions.{IsPart}
use Rattle.entry_base.specs.Tied.{IsTied, Parts}
use Rattle.entry_base.specs.Callers.{IsCaller, SameCaller, SameOwn}
use Rattle.entry_base.proofs.Sums.{count_without, count_append, each_in, each_without}
use Rattle.entry_base.proofs.JoinKeeps.{pick_read}
use Rattle.entry_base.proofs.OpenKeeps.{bit, count_numbers, each_grey, first_pending, first_variables}
use Rattle.entry_base.proofs.Picks.{pick_long}

pub blank : (n k : ℕ) → get_or (replicate n false) k false ≡ false
blank zero k = refl
blank (suc n) zero = refl
blank (suc n) (suc k) = blank n k

full : (n k : ℕ) → k < n → get_or (replicate n true) k false ≡ true
full zero k l = absurd (omega arith)
full (suc n) zero l = refl
full (suc n) (suc k) l = full n k (omega arith)

pub tied_first : (key : Opening) (cycle : Bool) (area : Option ℕ) → length key.vars ≡ 128 → length key.pending ≡ 8 → phase_of key ≡ (if cycle then 1 else 0) → area ≡ start_of key
    → IsTied (record { number = 12; numbers = replicate 13 true; vars = key.vars; pending = key.pending; in_cycle = cycle; area = area }) (first_view key)
tied_first key cycle area many eight phase start = record {
  in_cycle = phase;
  area = start;
  number = refl;
  numbers = λ n low. full 13 n low ∙ sym (ap (nat_le 1) (let c = count_numbers 13 n in let t : bit (nat_lt n 13) ≡ 1 = ap bit (let t : nat_lt n 13 ≡ true = grind (arith, nat_tests) in t) in let z : count_in n (numbers_below 13) ≡ 1 = omega arith in z));
  vars = refl;
  pending = refl;
  many = many;
  eight = eight;
  thirteen = refl;
  once = λ n. let c = count_numbers 13 n in let t = bit_low (nat_lt n 13) in omega arith;
}
  where
    bit_low : (b : Bool) → bit b ≤ 1
    bit_low true = omega arith
    bit_low false = omega arith

module _ (n : ℕ) (low : n < 13) (objects : List ℕ) (v : View) (x : Parts) (is : IsTied x v) (has : HasNumber v n) where
  one_here : count_in n (n ∷ []) ≡ 1
  one_here = ap (λ (b : Bool). (if b then 1 else 0) + 0) (eq-eqb n n refl)

  none_there : (m : ℕ) → m ≢ n → count_in m (n ∷ []) ≡ 0
  none_there m ne = ap (λ (b : Bool). (if b then 1 else 0) + 0) (ne_eqb m n ne)

  abbrev given : List Bool
  given = x.numbers

  pub tied_giver : IsTied (record x { numbers = set given n false }) (giver n objects v)
  tied_giver = record {
    in_cycle = is.in_cycle;
    area = is.area;
    number = is.number;
    numbers = λ m below. elim (eqb_tells m n) [
      | inl same ↦ ap (λ k. get_or (set given n false) k false) same.1 ∙ (get_or-set_same given n false false (let l = is.thirteen in omega arith)
          ∙ sym (ap (nat_le 1) (ap (λ x. count_in x (without_one n v.numbers)) same.1 ∙ none_left)))
      | inr ne ↦ get_or-set_other given n m false false ne.1 ∙ (is.numbers m below ∙ sym (ap (nat_le 1) (as_many m ne.1)))
    ];
    vars = is.vars;
    pending = is.pending;
    many = is.many;
    eight = is.eight;
    thirteen = length-set given n false ∙ is.thirteen;
    once = λ m. let c = count_without n v.numbers m has in let o = is.once m in omega arith;
  }
    where
      none_left : count_in n (without_one n v.numbers) ≡ 0
      none_left = let c = count_without n v.numbers n has in let o = is.once n in let h = one_here in omega arith

      as_many : (m : ℕ) → m ≢ n → count_in m (without_one n v.numbers) ≡ count_in m v.numbers
      as_many m ne = let c = count_without n v.numbers m has in let h = none_there m ne in omega arith

  pub tied_newcomer : (zs : List Bool) → length zs ≡ 13 → ((k : ℕ) → get_or zs k false ≡ false) → IsTied (record x { number = n; numbers = set zs n true }) (newcomer n objects v)
  tied_newcomer zs long off = record {
    in_cycle = is.in_cycle;
    area = is.area;
    number = refl;
    numbers = λ m below. elim (eqb_tells m n) [
      | inl same ↦ ap (λ x. get_or (set zs n true) x false) same.1 ∙ (get_or-set_same zs n true false (omega arith) ∙ sym (ap (nat_le 1) (ap (λ x. count_in x (n ∷ [])) same.1 ∙ one_here)))
      | inr ne ↦ get_or-set_other zs n m true false ne.1 ∙ (off m ∙ sym (ap (nat_le 1) (none_there m ne.1)))
    ];
    vars = is.vars;
    pending = is.pending;
    many = is.many;
    eight = is.eight;
    thirteen = length-set zs n true ∙ long;
    once = λ m. let c = count_without n v.numbers m has in let o = is.once m in omega arith;
  }

-- picking goes by what the test says below the end
pick_same : {A : Type 0} (f g : ℕ → Bool) (i : ℕ) (xs ys : List A) → ((j : ℕ) → j < i + length xs → f j ≡ g j) → pick_from f i xs ys ≡ pick_from g i xs ys
pick_same f g i [] ys same = refl
pick_same f g i (x ∷ xs) [] same = refl
pick_same f g i (x ∷ xs) (y ∷ ys) same = ap₂ (λ (b : Bool) l. (if b then y else x) ∷ l) (same i (omega arith)) (pick_same f g (i + 1) xs ys (λ j l. same j (omega arith)))

pub tied_both : (v u w : View) (x y : Parts) → IsTied x v → IsTied y u → SameCaller (both v u) w → SameOwn (both v u) w → ((n : ℕ) → count_in n (both v u).numbers ≤ 1)
    → (picked : List Bool) (vars : List ℕ) (pending : List (Option Pending))
    → picked ≡ pick_from (λ j. get_or y.numbers j false) 0 x.numbers y.numbers
    → vars ≡ pick_from (λ j. get_or y.numbers (j / 16) false) 0 x.vars y.vars
    → pending ≡ pick_from (λ j. get_or y.numbers j false) 0 x.pending y.pending
    → IsTied (record x { numbers = picked; vars = vars; pending = pending }) w
tied_both v u w x y a b same owns once picked vars pending is_picked is_vars is_pending = record {
  in_cycle = ap phase_of same.opening ∙ a.in_cycle;
  area = a.area ∙ ap start_of (sym same.opening);
  number = a.number ∙ sym same.number;
  numbers = λ n low.
      let read = pick_read (λ j. get_or y.numbers j false) 0 x.numbers y.numbers n false (a.thirteen ∙ sym b.thirteen) in
      ap (λ l. get_or l n false) is_picked ∙ (read ∙ (ap (λ k. if get_or y.numbers k false then get_or y.numbers n false else get_or x.numbers n false) (let z : 0 + n ≡ n = omega arith in z)
      ∙ (ap₂ (λ (c d : Bool). if c then c else d) (b.numbers n low) (a.numbers n low) ∙ (either n ∙ sym (ap (λ l. nat_le 1 (count_in n l)) same.numbers)))));
  vars = is_vars ∙ (ap₂ (λ (p q : List ℕ). pick_from (λ j. get_or y.numbers (j / 16) false) 0 p q) a.vars b.vars
      ∙ (pick_same _ (λ j. has_number u (j / 16)) 0 v.vars u.vars (λ j l. b.numbers (j / 16) (let m = a.many in omega arith)) ∙ sym owns.vars));
  pending = is_pending ∙ (ap₂ (λ (p q : List (Option Pending)). pick_from (λ j. get_or y.numbers j false) 0 p q) a.pending b.pending
      ∙ (pick_same _ (has_number u) 0 v.pending u.pending (λ j l. b.numbers j (let m = a.eight in omega arith)) ∙ sym owns.pending));
  many = ap length owns.vars ∙ (pick_long _ 0 v.vars u.vars (a.many ∙ sym b.many) ∙ a.many);
  eight = ap length owns.pending ∙ (pick_long _ 0 v.pending u.pending (a.eight ∙ sym b.eight) ∙ a.eight);
  thirteen = ap length is_picked ∙ (pick_long _ 0 x.numbers y.numbers (a.thirteen ∙ sym b.thirteen) ∙ a.thirteen);
  once = λ n. subst (λ l. count_in n l ≤ 1) (sym same.numbers) (once n);
}
  where
    either : (n : ℕ) → (if has_number u n then has_number u n else has_number v n) ≡ nat_le 1 (count_in n (v.numbers ++ u.numbers))
    either n = let c = count_append n v.numbers u.numbers in elim (cases_Bool (has_number u n)) [
      | inl yes_there ↦ ap (λ (c : Bool). if c then c else has_number v n) yes_there ∙ sym (let t : nat_le 1 (count_in n (v.numbers ++ u.numbers)) ≡ true = grind (arith, nat_tests) in t)
      | inr none ↦ ap (λ (c : Bool). if c then c else has_number v n) none ∙ ap (nat_le 1) (let z : count_in n u.numbers < 1 = grind (arith, nat_tests) in let e : count_in n v.numbers ≡ count_in n (v.numbers ++ u.numbers) = omega arith in e)
    ]

-- what a session has stays tied where its view's opening, numbers, variables and tickets stay
pub tied_stays : (v w : View) (x : Parts) → w.opening ≡ v.opening → w.number ≡ v.number → w.numbers ≡ v.numbers → w.vars ≡ v.vars → w.pending ≡ v.pending
    → IsTied x v → IsTied x w
tied_stays v w x opening number numbers vars pending is = record {
  number = is.number ∙ sym number;
  numbers = λ n low. is.numbers n low ∙ ap (λ (l : List ℕ). nat_le 1 (count_in n l)) (sym numbers);
  vars = is.vars ∙ sym vars;
  pending = is.pending ∙ sym pending;
  in_cycle = ap phase_of opening ∙ is.in_cycle;
  area = is.area ∙ ap start_of (sym opening);
  many = ap length vars ∙ is.many;
  eight = ap length pending ∙ is.eight;
  thirteen = is.thirteen;
  once = λ n. subst (λ (l : List ℕ). count_in n l ≤ 1) (sym numbers) (is.once n);
}

-- a variable, or a ticket, that is set in both
pub tied_variable : (v w : View) (x : Parts) (place word : ℕ) → w.opening ≡ v.opening → w.number ≡ v.number → w.numbers ≡ v.numbers → w.vars ≡ set v.vars place word → w.pending ≡ v.pending
    → IsTied x v → IsTied (record x { vars = set x.vars place word }) w
tied_variable v w x place word opening number numbers vars pending is = record {
  number = is.number ∙ sym number;
  numbers = λ n low. is.numbers n low ∙ ap (λ (l : List ℕ). nat_le 1 (count_in n l)) (sym numbers);
  vars = ap (λ (l : List ℕ). set l place word) is.vars ∙ sym vars;
  pending = is.pending ∙ sym pending;
  in_cycle = ap phase_of opening ∙ is.in_cycle;
  area = is.area ∙ ap start_of (sym opening);
  many = ap length vars ∙ (length-set v.vars place word ∙ is.many);
  eight = ap length pending ∙ is.eight;
  thirteen = is.thirteen;
  once = λ n. subst (λ (l : List ℕ). count_in n l ≤ 1) (sym numbers) (is.once n);
}

pub tied_ticket : (v w : View) (x : Parts) (place : ℕ) (cell : Option Pending) → w.opening ≡ v.opening → w.number ≡ v.number → w.numbers ≡ v.numbers → w.vars ≡ v.vars → w.pending ≡ set v.pending place cell
    → IsTied x v → IsTied (record x { pending = set x.pending place cell }) w
tied_ticket v w x place cell opening number numbers vars pending is = record {
  number = is.number ∙ sym number;
  numbers = λ n low. is.numbers n low ∙ ap (λ (l : List ℕ). nat_le 1 (count_in n l)) (sym numbers);
  vars = is.vars ∙ sym vars;
  pending = ap (λ (l : List (Option Pending)). set l place cell) is.pending ∙ sym pending;
  in_cycle = ap phase_of opening ∙ is.in_cycle;
  area = is.area ∙ ap start_of (sym opening);
  many = ap length vars ∙ is.many;
  eight = ap length pending ∙ (length-set v.pending place cell ∙ is.eight);
  thirteen = is.thirteen;
  once = λ n. subst (λ (l : List ℕ). count_in n l ≤ 1) (sym numbers) (is.once n);
}

pub given_number : (key : Opening) (n : ℕ) (objects : List ℕ) (v : View) → IsCaller key v → HasNumber v n → n ≢ v.number → AreIn objects v.hands → IsCaller key (giver n objects v) × IsCaller key (newcomer n objects v)
given_number key n objects v is has ne are = (
  record {
    opened = is.opened;
    own = let c = count_without n v.numbers v.number has in let o = is.own in let z = none_at in omega arith;
    lawful = is.lawful;
    variables = is.variables;
    pending = is.pending;
    hands = each_without _ objects v.hands is.hands;
  },
  record {
    opened = is.opened;
    own = let o : count_in n (n ∷ []) ≡ 1 = ap (λ (b : Bool). (if b then 1 else 0) + 0) (eq-eqb n n refl) in omega arith;
    lawful = is.lawful;
    variables = is.variables;
    pending = is.pending;
    hands = each_in _ objects v.hands are is.hands;
  },
)
  where
    none_at : count_in v.number (n ∷ []) ≡ 0
    none_at = ap (λ (b : Bool). (if b then 1 else 0) + 0) (ne_eqb v.number n (λ e. ne (sym e)))

pub splits_as : (key : Opening) (id : ℕ) (v : View) (m n : ℕ) (given objects : List ℕ) → m ≡ n → given ≡ objects → HasNumber v v.number → HasNumber v n → n ≢ v.number → AreIn objects v.hands
    → Splits {S = Unit {0}} {V = View} (Ruled key) id v (giver m given v) (newcomer m given v)
splits_as key id v m n given objects same all own has ne are = splits key id v m given own (subst (HasNumber v) (sym same) has) (subst (λ k. k ≢ v.number) (sym same) ne) (subst (λ (l : List ℕ). AreIn l v.hands) (sym all) are)

-- the two views, and what a contract says of them
pub record SplitLeaves (key : Opening) (n : ℕ) (objects : List ℕ) (v left right : View) : Type 0 where
  pub left_is : left ≡ giver n objects v
  pub right_is : right ≡ newcomer n objects v
  pub left_calls : IsCaller key left
  pub right_calls : IsCaller key right

pub split_leaves : (key : Opening) (v left right : View) (m n : ℕ) (some objects : List ℕ) → m ≡ n → some ≡ objects → IsCaller key v → HasNumber v n → n ≢ v.number → AreIn objects v.hands
    → left ≡ giver m some v → right ≡ newcomer m some v → SplitLeaves key n objects v left right
split_leaves key v left right m n some objects same all is has ne are l r =
    let both_calls = given_number key n objects v is has ne are in
    let l' : left ≡ giver n objects v = l ∙ ap₂ (λ x (y : List ℕ). giver x y v) same all in
    let r' : right ≡ newcomer n objects v = r ∙ ap₂ (λ x (y : List ℕ). newcomer x y v) same all in
    record { left_is = l'; right_is = r'; left_calls = subst (IsCaller key) (sym l') both_calls.0; right_calls = subst (IsCaller key) (sym r') both_calls.1 }

-- a cut gives hands alone
pub cut_calls : (key : Opening) (objects : List ℕ) (v : View) → IsCaller key v → AreIn objects v.hands → IsCaller key (cutter objects v) × IsPart key (chunk_view objects v)
cut_calls key objects v is are = (
  record { opened = is.opened; own = is.own; lawful = is.lawful; variables = is.variables; pending = is.pending; hands = each_without _ objects v.hands is.hands },
  record { opened = is.opened; numbers = refl; lawful = is.lawful; hands = each_in _ objects v.hands are is.hands },
)

pub cuts_as : (key : Opening) (id : ℕ) (v : View) (given objects : List ℕ) → given ≡ objects → HasNumber v v.number → AreIn objects v.hands
    → Splits {S = Unit {0}} {V = View} (Ruled key) id v (cutter given v) (chunk_view given v)
cuts_as key id v given objects all own are = cuts key id v given own (subst (λ (l : List ℕ). AreIn l v.hands) (sym all) are)

-- the first session can call
pub first_calls : (key : Opening) → (b : Table) → IsBase key b → IsCaller key (first_view key)
first_calls key b base = record {
  opened = refl;
  own = let c = count_numbers 13 12 in let t : bit (nat_lt 12 13) ≡ 1 = refl in omega arith;
  lawful = record { legal = λ s is. tt; events = tt };
  variables = first_variables key b base;
  pending = first_pending key b base;
  hands = each_grey key.words (sizes_in key).objects (sizes_in key).objects (omega arith);
}
