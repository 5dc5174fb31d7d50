-- What the header of an object tells in a cycle, and the hands after a change of one header.
use Rattle.std.proofs.Common.{◌≡◌, ◌≢◌, ℕ, ◌+◌, ◌<◌, ◌≤◌, ◌==◌, nat_lt, if◌then◌else◌, Bool, true, false, List, set, ◌∷◌, length, slice_index, slice_set, Option, Some, IsTrue, IsSome, IfSome, sym, ap, subst, ◌∙◌, inl, inr, arith}
use Rattle.std.proofs.lemmas.Bool.Decides.{eqb_tells, nat_tests}
use mathlib.Core.Option.{some}
use lib.ListN.{get_elem?}
use Rattle.plain_table.specs.Cycle.{Cycle}
use Rattle.plain_table.specs.Shows.{Shows, is_black, IsHeader, IsHeaderIn}
use Rattle.plain_table.specs.Table.{Table, Sizes}
use Rattle.plain_table.specs.Words.{header_place, header_word}
use Rattle.plain_table.proofs.Options.{IsSome-value}
use Rattle.entry_base.specs.Hands.{grey, HandsKept}
use Rattle.entry_base.specs.Lists.{count_in}
use Rattle.entry_base.specs.declared.view.View.{View}
use Rattle.entry_base.proofs.Sums.{among, total_set}
use Rattle.entry_base.proofs.Greys.{grey_here, grey_there, header_here}

-- in a cycle a header is black or not, and a black one is shaded
pub record HeaderTells (shown : List ℕ) (s : Table) (o : ℕ) : Type 0 where
  pub cycle : Cycle
  pub under_way : s.cycle ≡ Some cycle
  pub shaded : Bool
  pub word : slice_index shown (header_place o) ≡ header_word shaded (is_black s cycle o)
  pub black : IsTrue (is_black s cycle o) → IsTrue shaded

pub header_tells : (shown : List ℕ) (s : Table) (o : ℕ) → Shows shown s → o < s.sizes.objects → IsSome s.cycle → HeaderTells shown s o
header_tells shown s o shows made under =
    let c = IsSome-value s.cycle under in
    let h : IsHeaderIn s c.0 o (slice_index shown (header_place o)) = subst (λ x. IsHeader s x o (slice_index shown (header_place o))) c.1 (shows.headers o made) in
    record { cycle = c.0; under_way = c.1; shaded = h.0; word = h.1; black = h.2 }

-- from what holds of the cycle that is under way
pub IfSome-by : (o : Option Cycle) (c : Cycle) (P : Cycle → Type 0) → o ≡ Some c → P c → IfSome o P
IfSome-by o c P e h = subst (λ (x : Option Cycle). IfSome x P) (sym e) h

pub count_past : (m o : ℕ) (objects : List ℕ) → m ≢ o → count_in m (o ∷ objects) ≡ count_in m objects
count_past m o objects ne = grind (arith, nat_tests)

-- 1 where a header word says shaded and not scanned
abbrev pub grey_of : ℕ → ℕ
grey_of word = if word == 1 then 1 else 0

-- hands agree with the headers after a change of one header, where its object comes or goes as the colour does, and the others
-- stand in the hands as often as before
pub hands_changed : (z : Sizes) (shown before after : List ℕ) (o n : ℕ) → o < z.objects → header_place o < length shown
    → count_in o after + grey_of (slice_index shown (header_place o)) ≡ count_in o before + grey_of n
    → ((m : ℕ) → m ≢ o → count_in m after ≡ count_in m before)
    → (m : ℕ) → count_in m after + grey z shown m ≡ count_in m before + grey z (slice_set shown (header_place o) n) m
hands_changed z shown before after o n made room here there m = elim (eqb_tells m o) [
  | inr e ↦ let a = there m e.1 in let b = grey_there z shown o n m room e.1 in omega arith
  | inl e ↦ subst (λ x. count_in x after + grey z shown x ≡ count_in x before + grey z (slice_set shown (header_place o) n) x) (sym e.1) (
      let a = grey_here z shown o made in
      let b = grey_here z (slice_set shown (header_place o) n) o made ∙ ap grey_of (header_here shown o n room) in
      omega (arith, here))
]

-- each object stands at most once in the hands of a view
grey-few : (z : Sizes) (shown : List ℕ) (o : ℕ) → grey z shown o ≤ 1
grey-few z shown o = go (nat_lt o z.objects) (slice_index shown (header_place o) == 1)
  where
    go : (b c : Bool) → (if b then (if c then 1 else 0) else 0) ≤ 1
    go true true = omega arith
    go true false = omega arith
    go false c = omega arith

pub hands_once : (z : Sizes) (shown : List ℕ) (views : List View) (id : ℕ) (v w : View) → get_elem? views id ≡ some v → HandsKept z shown (set views id w) → (o : ℕ) → count_in o w.hands ≤ 1
hands_once z shown views id v w at kept o =
    let all = total_set (λ (x : View). count_in o x.hands) views id v w at in
    let had = among (λ (x : View). count_in o x.hands) views id v at in
    let whole = kept o in
    let few = grey-few z shown o in
    omega arith
