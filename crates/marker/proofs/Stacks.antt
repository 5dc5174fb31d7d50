-- The stack of a marker and its hands: what is so at the start, after the scan of an object, and at the end.
use Rattle.std.proofs.Common.{◌≡◌, ℕ, ◌+◌, ◌<◌, ◌≤◌, List, [], ◌∷◌, ◌++◌, refl, ap, ◌∙◌, arith}
use Rattle.plain_table.specs.Scans.{Rest}
use Rattle.entry_base.specs.declared.view.View.{View}
use Rattle.entry_base.specs.Histories.{IsPhaseHistory}
use Rattle.entry_base.specs.Lists.{AreIn, count_in}
use Rattle.entry_base.specs.Openings.{IsOpenable, sizes_in}
use Rattle.entry_base.proofs.OneByOne.{own_trans}
use Rattle.entry_base.proofs.Sums.{count_append, each_append}
use Rattle.call_base.proofs.ScanParts.{part_none, part_trans}
use Rattle.marker.specs.Runs.{Runs, Scanning, ScansObject}
use Rattle.marker.proofs.Counts.{count_cons, length_few, length_snoc}
use Rattle.marker.proofs.ScansOnce.{scans_once}

pub scanning_begin : (v : View) (from : List ℕ) → AreIn from v.hands → Scanning v from v from 0
scanning_begin v from within = record {
  done = [];
  came = [];
  part = part_none v Rest;
  number = refl;
  all = λ q. omega arith;
  own = record { vars = refl; pending = refl; owed = refl; fresh = refl };
  hands = λ q. refl;
  low = tt;
  within = within;
}

module _ (v w : View) (from stack rest : List ℕ) (object scans : ℕ) (so_far : Scanning v from w stack scans) (popped : stack ≡ rest ++ object ∷ []) where
  split : (q : ℕ) → count_in q stack ≡ count_in q rest + count_in q (object ∷ [])
  split q = ap (count_in q) popped ∙ count_append q rest (object ∷ [])

  -- the object and the rest are in the hands
  pub popped_in : AreIn (object ∷ rest) w.hands
  popped_in q = let a = so_far.within q in let b = split q in let c = count_cons q object rest in omega (arith, a, b, c)

  pub scanning_turn : (x : View) (after : List ℕ) → object < (sizes_in v.opening).objects → ScansObject w rest object x after → Scanning v from x after (scans + 1)
  scanning_turn x after low turn = record {
    done = so_far.done ++ object ∷ [];
    came = so_far.came ++ turn.came;
    part = part_trans v w x Rest Rest Rest so_far.done (object ∷ []) so_far.part turn.part;
    number = (let a = length_snoc so_far.done object in let b = so_far.number in omega arith);
    all = λ q.
        let a = so_far.all q in
        let b = count_append q so_far.done (object ∷ []) in
        let c = split q in
        let d = turn.stack q in
        let e = count_append q so_far.came turn.came in
        omega arith;
    own = own_trans v w x so_far.own turn.own;
    hands = λ q. let a = so_far.hands q in let b = turn.hands q in let c = split q in let d = turn.stack q in omega arith;
    low = each_append _ so_far.done (object ∷ []) so_far.low (low, tt);
    within = λ q. let a = so_far.within q in let b = turn.hands q in let c = split q in let d = turn.stack q in omega arith;
  }

-- no more scans than objects
pub few_scans : (v w : View) (from stack : List ℕ) (scans : ℕ) → ∥ IsOpenable v.opening ∥₁ → IsPhaseHistory v.opening w.seen → Scanning v from w stack scans → scans ≤ (sizes_in v.opening).objects
few_scans v w from stack scans openable lawful so_far =
    let few = length_few (sizes_in v.opening).objects so_far.done so_far.low (scans_once v w Rest Rest so_far.done openable lawful so_far.part) in
    let number = so_far.number in
    omega (arith, few, number)

pub scanning_end : (v w : View) (from stack : List ℕ) (scans : ℕ) → ∥ IsOpenable v.opening ∥₁ → IsPhaseHistory v.opening w.seen → stack ≡ [] → Scanning v from w stack scans → Runs v from w scans
scanning_end v w from stack scans openable lawful empty so_far = record {
  done = so_far.done;
  shaded = so_far.came;
  part = so_far.part;
  number = so_far.number;
  all = λ q. let a = so_far.all q in let b = ap (count_in q) empty in omega (arith, a, b);
  low = so_far.low;
  once = scans_once v w Rest Rest so_far.done openable lawful so_far.part;
  own = so_far.own;
  hands = λ q. let a = so_far.hands q in let b = ap (count_in q) empty in omega (arith, a, b);
}
