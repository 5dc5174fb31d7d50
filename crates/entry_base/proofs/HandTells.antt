-- An object of the hands: its header says shaded and not scanned, so a cycle is under way, and by the marking invariant the
-- object is old in it.
use Rattle.std.proofs.Common.{◌≡◌, ℕ, ◌/◌, ◌%◌, ◌<◌, ◌≤◌, ◌==◌, if◌then◌else◌, List, slice_index, Option, Some, None, IsSome, IsSomeAnd, refl, sym, ap, subst, ◌∙◌, arith}
use Rattle.std.proofs.lemmas.Bool.Decides.{nat_tests}
use mathlib.Core.Option.{some}
use lib.ListN.{get_elem?}
use Rattle.plain_table.specs.Cycle.{Cycle, IsOld}
use Rattle.plain_table.specs.Rows.{InCycle}
use Rattle.plain_table.specs.Shows.{IsCoveredIn, IsHeader}
use Rattle.plain_table.specs.Sound.{CycleSound}
use Rattle.plain_table.specs.Table.{Table, Sizes}
use Rattle.plain_table.specs.Words.{header_place}
use Rattle.plain_table.proofs.CycleParts.{CycleSound-is}
use Rattle.plain_table.proofs.Options.{IfSome-is, IsSome-value}
use Rattle.entry_base.specs.declared.view.Opening.{Opening}
use Rattle.entry_base.specs.declared.view.View.{View}
use Rattle.entry_base.specs.Callers.{IsCaller}
use Rattle.entry_base.specs.Lists.{count_in}
use Rattle.entry_base.specs.Openings.{sizes_in}
use Rattle.entry_base.specs.Rule.{Kept}
use Rattle.entry_base.proofs.Greys.{grey_here}
use Rattle.entry_base.proofs.OneByOne.{hands_within_limit}
use Rattle.entry_base.proofs.Steps.{Given}
use Rattle.entry_base.proofs.Sums.{among}

pub record HandTells (s : Table) (o : ℕ) : Type 0 where
  pub made : o < s.sizes.objects
  pub cycle : Cycle
  pub under_way : s.cycle ≡ Some cycle
  pub old : IsOld cycle o
  pub sure : CycleSound s cycle

-- outside a cycle each header is 0
header-cycle : (s : Table) (o word : ℕ) (cycle : Option Cycle) → IsHeader s cycle o word → word ≡ 1 → IsSome cycle
header-cycle s o word None zero_word one = absurd (omega (arith, zero_word, one))
header-cycle s o word (Some c) h one = refl

module _ (key : Opening) (words : List ℕ) (views : List View) (id : ℕ) (v : View) (k : Kept key words views) (at : get_elem? views id ≡ some v) (o : ℕ)
    (caller : IsCaller key v) (has : 1 ≤ count_in o v.hands) where
  pub hand_made : o < (sizes_in key).objects
  hand_made = hands_within_limit key v o caller has

  pub hand_header : slice_index k.shown (header_place o) ≡ 1
  hand_header =
      let mine = among (λ (x : View). count_in o x.hands) views id v at in
      let all = k.hands o in
      let here = grey_here (sizes_in key) k.shown o hand_made in
      let one : 1 ≤ (if slice_index k.shown (header_place o) == 1 then 1 else 0) = omega (arith, mine, all, here, has) in
      grind (arith, nat_tests)

  pub hand_tells : (s : Table) → Given key k.log k.shown words v s → HandTells s o
  hand_tells s g =
      let low : o < s.sizes.objects = subst (λ (x : Sizes). o < x.objects) (sym g.sizes) hand_made in
      let c = IsSome-value s.cycle (header-cycle s o (slice_index k.shown (header_place o)) s.cycle (g.shows.headers o low) hand_header) in
      let covered : IsCoveredIn k.shown s c.0 = IfSome-is s.cycle (IsCoveredIn k.shown s) c.0 c.1 g.covered in record {
        made = low;
        cycle = c.0;
        under_way = c.1;
        old = covered.owed o low (ap (λ x. x % 2) hand_header) (λ half. let h : 1 / 2 % 2 ≡ 1 = ap (λ x. x / 2 % 2) (sym hand_header) ∙ half in absurd (omega (arith, h)));
        sure = CycleSound-is s c.0 g.sound c.1;
      }

  pub hand_old : (s : Table) → Given key k.log k.shown words v s → InCycle s (λ c. IsOld c o)
  hand_old s g = let t = hand_tells s g in subst (λ (x : Option Cycle). IsSomeAnd x (λ c. IsOld c o)) (sym t.under_way) t.old
