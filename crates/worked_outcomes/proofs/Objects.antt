-- In a sound table reachable and due objects are made, and the fields of an object are three: so what is to hold of each of
-- them is held to a few numbers.
use Rattle.std.proofs.Common.{◌≡◌, ◌⊎◌, ℕ, zero, suc, ◌<◌, ◌≤◌, Bool, true, false, Option, List, [], ◌∷◌, Some, None, refl, arith, inl, inr, subst, sym, take}
use Rattle.std.specs.Prelude.{IsSome, IsSomeAnd, IsTrue, ◌&&◌, ◌||◌, nat_lt}
use Rattle.std.specs.List.{Contains}
use Rattle.std.proofs.lemmas.Bool.{and_parts, or_cases}
use Rattle.std.proofs.lemmas.Bool.Decides.{nat_tests}
use Rattle.plain_table.specs.declared.events.Field.{Field}
use Rattle.plain_table.specs.declared.events.Field.TheVariants as field
use Rattle.plain_table.specs.declared.scripts.Limits.{Limits}
use Rattle.plain_table.specs.declared.events.Event.{Event}
use Rattle.plain_table.specs.Ranges.{IsInRange}
use Rattle.plain_table.specs.Reachable.{By_global, By_variable, IsRoot}
use Rattle.plain_table.specs.Cycle.{Cycle, IsOld}
use Rattle.plain_table.specs.Table.{Table, opening}
use Rattle.plain_table.specs.Finish.{IsReachable, CanFinish}
use Rattle.plain_table.specs.Rows.{InCycle, IsSafe, AreSafe}
use Rattle.plain_table.specs.History.{IsLegalHistory, next, after}
use Rattle.plain_table.specs.Sweeps.{IsDue, Was_root, Was_linked, Is_root, Is_referred}
use Rattle.plain_table.specs.Sound.{IsSound, CycleSound}
use Rattle.plain_table.proofs.Options.{IfSome-is}
use Rattle.table_laws.proofs.KeepsTraced.{IsReachable-made}
use Rattle.plain_table.proofs.OpeningSound.{IsSound-opening}
use Rattle.table_laws.proofs.Soundness.{events-sound}
use Rattle.table_laws.proofs.SoundHistories.{histories-sound}
use Rattle.table_laws.proofs.FinishLaws.{CanFinish-scanned}
use Rattle.plain_table.specs.Shapes.{external_field}
use Rattle.plain_table.proofs.ObjectFields.{each_field}

-- limits of one mutator and a few objects
pub IsInRange-small : (ext objects markers : ℕ) → 1 ≤ ext → ext ≤ 2 → 1 ≤ objects → objects ≤ 2 → markers ≤ 1 →
    IsInRange (record { seg = 4; ext = ext; tru = 1; objects = objects; mutators = 1; markers = markers })
IsInRange-small ext objects markers e1 e2 o1 o2 m = record {
  seg = inl refl;
  ext = (e1, omega arith);
  tru = (omega arith, omega arith);
  objects = (o1, omega arith);
  mutators = (omega arith, omega arith);
  markers = omega arith;
}

pub IsSound-history : (limits : Limits) (es : List Event) → IsInRange limits → IsLegalHistory (opening limits) es → IsSound (after (opening limits) es)
IsSound-history = histories-sound events-sound IsSound-opening

-- the first events of a legal history are a legal one
pub IsLegalHistory-take : (s : Table) (n : ℕ) (es : List Event) → IsLegalHistory s es → IsLegalHistory s (take n es)
IsLegalHistory-take s zero es legal = tt
IsLegalHistory-take s (suc n) [] legal = tt
IsLegalHistory-take s (suc n) (e ∷ es) legal = (legal.0, IsLegalHistory-take (next s e) n es legal.1)

pub root-reachable : (s : Table) (o : ℕ) → IsRoot s.globals s.vars o → IsReachable s o
root-reachable s o (inl r) = By_global r.0 o r.1
root-reachable s o (inr r) = By_variable r.0 r.1 o r.2

due-made : (s : Table) (c : Cycle) (linked : List ℕ) → IsSound s → CycleSound s c → ((o : ℕ) → Contains linked o → o < s.count) →
    (o : ℕ) → IsDue s c linked o → o < s.count
due-made s c linked h k links _ (Was_root o (inl r)) = k.traced.made o (inl (By_global r.0 o r.1))
due-made s c linked h k links _ (Was_root o (inr r)) = k.traced.made o (inl (By_variable r.0 r.1 o r.2))
due-made s c linked h k links _ (Was_linked o within) = links o within
due-made s c linked h k links _ (Is_root o r) = IsReachable-made s h o (root-reachable s o r)
due-made s c linked h k links _ (Is_referred o n q due e) = (h.objects.references o n q e).2

-- the object is scanned or born in the cycle
abbrev is_traced : Option Cycle → ℕ → Bool
is_traced None o = false
is_traced (Some c) o = c.scans o || c.born o

abbrev all_below : (ℕ → Bool) → ℕ → Bool
all_below test zero = true
all_below test (suc n) = test n && all_below test n

below-all : (test : ℕ → Bool) (n : ℕ) → all_below test n ≡ true → (o : ℕ) → o < n → test o ≡ true
below-all test zero h o below = absurd (omega arith)
below-all test (suc n) h o below =
    let parts : (o ≡ n) ⊎ (o < n) = grind arith in
    elim parts [
      | inl same ↦ subst (λ (m : ℕ). test m ≡ true) (sym same) (and_parts _ _ h).0
      | inr less ↦ below-all test n (and_parts _ _ h).1 o less
    ]

abbrev are_below : ℕ → List ℕ → Bool
are_below n [] = true
are_below n (o ∷ os) = nat_lt o n && are_below n os

below-each : (n : ℕ) (os : List ℕ) → are_below n os ≡ true → (o : ℕ) → Contains os o → o < n
below-each n [] h o (k, within, is) = absurd (omega arith)
below-each n (p ∷ os) h o (zero, within, is) =
    let less : nat_lt p n ≡ true = (and_parts _ _ h).0 in
    let below : p < n = grind (arith, nat_tests) in subst (λ (m : ℕ). m < n) is below
below-each n (p ∷ os) h o (suc k, within, is) = below-each n os (and_parts _ _ h).1 o (k, omega arith, is)

-- a cycle may finish where each object that was made is scanned or born in it
finish-in : (s : Table) → IsSound s → (cycle : Option Cycle) → s.cycle ≡ cycle → IsSome cycle →
    all_below (is_traced cycle) s.count ≡ true → IsSomeAnd cycle (CanFinish s)
finish-in s h None is some all = absurd (cc)
finish-in s h (Some c) is some all =
    CanFinish-scanned s c h is (λ o r. let traced : (c.scans o || c.born o) ≡ true = below-all (is_traced (Some c)) s.count all o (IsReachable-made s h o r) in or_cases (c.scans o) (c.born o) traced)

pub finish-by : (s : Table) → IsSound s → IsSome s.cycle → all_below (is_traced s.cycle) s.count ≡ true → InCycle s (CanFinish s)
finish-by s h some all = finish-in s h s.cycle refl some all

complete-in : (s : Table) (linked : List ℕ) → IsSound s → (cycle : Option Cycle) → s.cycle ≡ cycle → IsSome cycle →
    all_below (is_traced cycle) s.count ≡ true → are_below s.count linked ≡ true →
    IsSomeAnd cycle (λ c. (o : ℕ) → IsDue s c linked o → IsTrue (c.scans o || c.born o))
complete-in s linked h None is some all links = absurd (cc)
complete-in s linked h (Some c) is some all links =
    λ o due. below-all (is_traced (Some c)) s.count all o
    (due-made s c linked h (IfSome-is s.cycle (CycleSound s) c is h.cycle) (below-each s.count linked links) o due)

-- a pause is complete where each object that was made is scanned or born
pub complete-by : (s : Table) (linked : List ℕ) → IsSound s → IsSome s.cycle → all_below (is_traced s.cycle) s.count ≡ true →
    are_below s.count linked ≡ true → InCycle s (λ c. (o : ℕ) → IsDue s c linked o → IsTrue (c.scans o || c.born o))
complete-by s linked h some all links = complete-in s linked h s.cycle refl some all links

-- a field is safe if it is bound
abbrev pub IsSafeIfBound : Table → Cycle → Field → Type 0
IsSafeIfBound s c f = (id : ℕ) → s.bound f ≡ Some id → IsSafe s c f id

safe-by : (s : Table) (c : Cycle) (o : ℕ) → IsSafeIfBound s c (external_field o 0) → IsSafeIfBound s c (external_field o 1) →
    IsSafeIfBound s c (field.Trusted o) → AreSafe s c o
safe-by s c o first second third f id of bound = each_field (IsSafeIfBound s c) o first second third f of id bound

scan-in : (s : Table) (o : ℕ) (cycle : Option Cycle) →
    IsSomeAnd cycle (λ c. IsOld c o × (c.scans o ≡ false) × IsSafeIfBound s c (external_field o 0)
    × IsSafeIfBound s c (external_field o 1) × IsSafeIfBound s c (field.Trusted o)) →
    IsSomeAnd cycle (λ c. IsOld c o × (c.scans o ≡ false) × AreSafe s c o)
scan-in s o None h = h
scan-in s o (Some c) h = (h.0, h.1, safe-by s c o h.2 h.3 h.4)

-- a scan is legal where each of the three fields is safe if it is bound
pub scan-by : (s : Table) (o : ℕ) →
    InCycle s (λ c. IsOld c o × (c.scans o ≡ false) × IsSafeIfBound s c (external_field o 0)
    × IsSafeIfBound s c (external_field o 1) × IsSafeIfBound s c (field.Trusted o)) →
    InCycle s (λ c. IsOld c o × (c.scans o ≡ false) × AreSafe s c o)
scan-by s o h = scan-in s o s.cycle h
