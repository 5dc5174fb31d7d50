-- Runs of a marker, one after another: together they are one run of all their objects.
use Rattle.std.proofs.Common.{◌≡◌, ℕ, ◌+◌, ◌<◌, ◌≤◌, List, [], ◌∷◌, ◌++◌, length, take, drop, get_or, refl, sym, ap, subst, arith}
use Rattle.std.proofs.lemmas.List.{length-append, take-append-drop, take_more}
use Rattle.plain_table.specs.Scans.{Rest}
use Rattle.entry_base.specs.declared.view.View.{View}
use Rattle.entry_base.specs.Callers.{AreWithin}
use Rattle.entry_base.specs.Histories.{IsPhaseHistory}
use Rattle.entry_base.specs.Lists.{AreIn, count_in}
use Rattle.entry_base.specs.Openings.{IsOpenable, sizes_in}
use Rattle.entry_base.proofs.OneByOne.{own_trans}
use Rattle.entry_base.proofs.Sums.{count_append, each_append}
use Rattle.call_base.specs.ScanParts.{ScanPart}
use Rattle.call_base.proofs.ScanParts.{part_none, part_trans}
use Rattle.marker.specs.Runs.{Runs}
use Rattle.marker.proofs.Counts.{length_few}
use Rattle.marker.proofs.ScansOnce.{scans_once}

-- a run of no objects
pub runs_none : (v : View) → Runs v [] v 0
runs_none v = record {
  done = [];
  shaded = [];
  part = part_none v Rest;
  number = refl;
  all = λ q. refl;
  low = tt;
  once = λ q. omega arith;
  own = record { vars = refl; pending = refl; owed = refl; fresh = refl };
  hands = λ q. omega arith;
}

module _ (v w : View) (from : List ℕ) (scans : ℕ) (so_far : Runs v from w scans) where
  -- a run leaves the other objects of the hands there
  pub runs-others : (others : List ℕ) → AreIn (from ++ others) v.hands → AreIn others w.hands
  runs-others others within q = let a = within q in let b = so_far.hands q in let c = count_append q from others in omega (arith, a, b, c)

  -- one run after another
  module _ (x : View) (more : List ℕ) (later : ℕ) (ran : Runs w more x later) (openable : ∥ IsOpenable v.opening ∥₁) (lawful : IsPhaseHistory v.opening x.seen) where
    part : ScanPart v Rest x Rest (so_far.done ++ ran.done)
    part = part_trans v w x Rest Rest Rest so_far.done ran.done so_far.part ran.part

    low : AreWithin v.opening (so_far.done ++ ran.done)
    low = each_append _ so_far.done ran.done so_far.low (subst (λ o. AreWithin o ran.done) so_far.part.called.same.opening ran.low)

    once : (q : ℕ) → count_in q (so_far.done ++ ran.done) ≤ 1
    once = scans_once v x Rest Rest (so_far.done ++ ran.done) openable lawful part

    number : length (so_far.done ++ ran.done) ≡ scans + later
    number = let a = length-append so_far.done ran.done in let b = so_far.number in let c = ran.number in omega (arith, a, b, c)

    pub runs_trans : Runs v (from ++ more) x (scans + later)
    runs_trans = record {
      done = so_far.done ++ ran.done;
      shaded = so_far.shaded ++ ran.shaded;
      part = part;
      number = number;
      all = λ q.
          let a = so_far.all q in
          let b = ran.all q in
          let c = count_append q so_far.done ran.done in
          let d = count_append q from more in
          let e = count_append q so_far.shaded ran.shaded in
          omega arith;
      low = low;
      once = once;
      own = own_trans v w x so_far.own ran.own;
      hands = λ q. let a = so_far.hands q in let b = ran.hands q in let c = count_append q from more in omega arith;
    }

-- no more scans than objects
pub runs-few : (v w : View) (from : List ℕ) (scans : ℕ) → Runs v from w scans → scans ≤ (sizes_in v.opening).objects
runs-few v w from scans ran = let few = length_few (sizes_in v.opening).objects ran.done ran.low ran.once in let number = ran.number in omega (arith, few, number)

-- the next object of a list, of which the ones before it were run
module _ (v : View) (objects : List ℕ) (i : ℕ) (i_in : i < length objects) where
  take_next : take (i + 1) objects ≡ take i objects ++ get_or objects i 0 ∷ []
  take_next = take_more objects i 0 i_in

  next_in : AreIn objects v.hands → AreIn (take i objects ++ get_or objects i 0 ∷ []) v.hands
  next_in within q =
      let a = within q in
      let b = ap (count_in q) take_next in
      let c = count_append q (take (i + 1) objects) (drop (i + 1) objects) in
      let d = ap (count_in q) (take-append-drop (i + 1) objects) in
      omega (arith, a, b, c, d)

  pub next-in_hands : (w : View) (scans : ℕ) → AreIn objects v.hands → Runs v (take i objects) w scans → AreIn (get_or objects i 0 ∷ []) w.hands
  next-in_hands w scans within so_far = runs-others v w (take i objects) scans so_far (get_or objects i 0 ∷ []) (next_in within)

  pub runs-next : (w x : View) (scans later : ℕ) → Runs v (take i objects) w scans → Runs w (get_or objects i 0 ∷ []) x later → ∥ IsOpenable v.opening ∥₁ → IsPhaseHistory v.opening x.seen
      → Runs v (take (i + 1) objects) x (scans + later)
  runs-next w x scans later so_far ran openable lawful =
      subst (λ from. Runs v from x (scans + later)) (sym take_next) (runs_trans v w (take i objects) scans so_far x (get_or objects i 0 ∷ []) later ran openable lawful)
