-- A legal history has at most one scan of each object: a scan is legal where the object has none, and no event of a phase takes one
-- back.
use Rattle.std.proofs.Common.{◌≡◌, ◌≢◌, ◌⊎◌, ℕ, ◌+◌, ◌≤◌, ◌==◌, if◌then◌else◌, Bool, true, false, List, [], ◌∷◌, ◌++◌, Option, Some, None, IsTrue, IsSomeAnd, refl, sym, ap, subst, ◌∙◌, inl, inr, arith}
use Rattle.std.proofs.lemmas.Bool.{cases_lt}
use Rattle.std.proofs.lemmas.Bool.Decides.{eqb_tells, nat_tests}
use Rattle.std.proofs.lemmas.Grind.{not_there}
use Rattle.plain_table.specs.declared.events.Act.{Act}
use Rattle.plain_table.specs.declared.events.Act.TheVariants.{Scan}
use Rattle.plain_table.specs.declared.events.Event.{Event}
use Rattle.plain_table.specs.Belongs.{events_by}
use Rattle.plain_table.specs.Cycle.{Cycle}
use Rattle.plain_table.specs.Cycle.{scanned_in as scanned_cycle}
use Rattle.plain_table.specs.History.{IsLegalHistory, after, next}
use Rattle.plain_table.specs.Rows.{InCycle, row}
use Rattle.plain_table.specs.Scans.{Scanner}
use Rattle.plain_table.specs.Sound.{IsSound}
use Rattle.plain_table.specs.Table.{Table}
use Rattle.table_laws.specs.Steady.{CyclesSteady}
use Rattle.table_laws.proofs.Soundness.{events-sound}
use Rattle.table_laws.proofs.Steadiness.{events-steady}
use Rattle.entry_base.specs.declared.view.View.{View}
use Rattle.entry_base.specs.Histories.{IsPhaseHistory}
use Rattle.entry_base.specs.Lists.{Each, count_in}
use Rattle.entry_base.specs.Numbers.{IsPhaseEvent}
use Rattle.entry_base.specs.Openings.{IsOpenable}
use Rattle.entry_base.proofs.Sums.{count_append, each_last}
use Rattle.call_base.specs.ScanParts.{ScanPart, scanned_by, scanned_in}
use Rattle.call_base.proofs.HistoriesStay.{lawful_front, legal_rest, sound_after}

-- an object has its scan in the cycle
abbrev HasScan : Table → ℕ → Type 0
HasScan s o = InCycle s (λ c. IsTrue (c.scans o))

act_scans : (a : Act) → ((x : ℕ) × (a ≡ Scan x)) ⊎ (scanned_by a ≡ [])
act_scans (Scan x) = inl (x, refl)
act_scans _ = inr refl

scan_on : (o : ℕ) (x y : Option Cycle) → CyclesSteady x y → IsSomeAnd x (λ c. IsTrue (c.scans o)) → IsSomeAnd y (λ c. IsTrue (c.scans o))
scan_on o None y steady has = absurd has
scan_on o (Some c) None steady has = absurd steady
scan_on o (Some c) (Some d) steady has = steady.scans o has

-- what is so where an act is a scan
unscanned : (x : ℕ) (cycle : Option Cycle) (P : Cycle → Type 0) → IsSomeAnd cycle (λ c. P c × (c.scans x ≡ false)) → IsSomeAnd cycle (λ c. IsTrue (c.scans x)) → ⊥
unscanned x None P fresh has = absurd has
unscanned x (Some c) P fresh has = let a = fresh.1 in let b : c.scans x ≡ true = has in absurd (cc)

scan_made : (x : ℕ) (cycle : Option Cycle) (P : Cycle → Type 0) → IsSomeAnd cycle P → IsSomeAnd (scanned_cycle cycle x) (λ c. IsTrue (c.scans x))
scan_made x None P is = absurd is
scan_made x (Some c) P is = let t : (x == x) ≡ true = grind (arith, nat_tests) in ap (λ (b : Bool). if b then true else c.scans x) t

some_fresh : (cycle : Option Cycle) (x : ℕ) (P Q : Cycle → Type 0) → IsSomeAnd cycle (λ c. P c × (c.scans x ≡ false) × Q c) → IsSomeAnd cycle (λ c. P c × (c.scans x ≡ false))
some_fresh None x P Q h = absurd h
some_fresh (Some c) x P Q h = (h.0, h.1)

module _ (o : ℕ) where
  later_scan : (s : Table) (e : Event) → IsSound s → IsLegalHistory s (e ∷ []) → IsPhaseEvent e → HasScan s o → HasScan (next s e) o
  later_scan s e sound legal during has = scan_on o s.cycle (next s e).cycle (events-steady s e sound legal.0 during.1).cycle has

  fresh_by : (s : Table) (e : Event) (x : ℕ) → IsLegalHistory s (e ∷ []) → e.act ≡ Scan x → HasScan s x → ⊥
  fresh_by s e x legal is has =
      let allowed : (row s e.by (Scan x)).allowed = subst (λ a. (row s e.by a).allowed) is legal.0.0 in
      unscanned x s.cycle _ (some_fresh s.cycle x _ _ allowed) has

  made_by : (s : Table) (e : Event) (x : ℕ) → IsLegalHistory s (e ∷ []) → e.act ≡ Scan x → HasScan (next s e) x
  made_by s e x legal is =
      let allowed : (row s e.by (Scan x)).allowed = subst (λ a. (row s e.by a).allowed) is legal.0.0 in
      subst (λ a. HasScan (row s e.by a).next x) (sym is) (scan_made x s.cycle _ allowed)

  scans_more : (e : Event) (es : List Event) (x : ℕ) → e.act ≡ Scan x → count_in o (scanned_in (e ∷ es)) ≡ count_in o (x ∷ scanned_in es)
  scans_more e es x is = ap (λ a. count_in o (scanned_by a ++ scanned_in es)) is

  scans_same : (e : Event) (es : List Event) → scanned_by e.act ≡ [] → count_in o (scanned_in (e ∷ es)) ≡ count_in o (scanned_in es)
  scans_same e es none = ap (λ l. count_in o (l ++ scanned_in es)) none

  one_other : (x : ℕ) (xs : List ℕ) → o ≢ x → count_in o (x ∷ xs) ≡ count_in o xs
  one_other x xs apart = grind (arith, nat_tests)

  one_same : (x : ℕ) (xs : List ℕ) → o ≡ x → count_in o (x ∷ xs) ≡ 1 + count_in o xs
  one_same x xs same = grind (arith, nat_tests)

  -- a scanned object is not scanned again
  none_again : (s : Table) (es : List Event) → IsSound s → IsLegalHistory s es → Each IsPhaseEvent es → HasScan s o → count_in o (scanned_in es) ≡ 0
  none_again s [] sound legal events has = refl
  none_again s (e ∷ es) sound legal events has =
      let rest = none_again (next s e) es (events-sound s e sound legal.0) legal.1 events.1 (later_scan s e sound (legal.0, tt) events.0 has) in
      elim (act_scans e.act) [
        | inl scan ↦ scans_more e es scan.0 scan.1 ∙ (one_other scan.0 (scanned_in es) (λ same. fresh_by s e scan.0 (legal.0, tt) scan.1 (subst (HasScan s) same has)) ∙ rest)
        | inr none ↦ scans_same e es none ∙ rest
      ]

  at_most_once : (s : Table) (es : List Event) → IsSound s → IsLegalHistory s es → Each IsPhaseEvent es → count_in o (scanned_in es) ≤ 1
  at_most_once s [] sound legal events = omega arith
  at_most_once s (e ∷ es) sound legal events =
      let rest = at_most_once (next s e) es (events-sound s e sound legal.0) legal.1 events.1 in
      elim (act_scans e.act) [
        | inl scan ↦ (let more = scans_more e es scan.0 scan.1 in elim (eqb_tells o scan.0) [
          | inl same ↦
              let none = none_again (next s e) es (events-sound s e sound legal.0) legal.1 events.1 (subst (HasScan (next s e)) (sym same.1) (made_by s e scan.0 (legal.0, tt) scan.1)) in
              let one = one_same scan.0 (scanned_in es) same.1 in
              omega (arith, more, none, one)
          | inr apart ↦ let other = one_other scan.0 (scanned_in es) apart.1 in omega (arith, more, other, rest)
        ])
        | inr none ↦ let same = scans_same e es none in omega (arith, same, rest)
      ]

  -- a number's own scans are among all
  own_few : (b : ℕ) (es : List Event) → count_in o (scanned_in (events_by b es)) ≤ count_in o (scanned_in es)
  own_few b [] = omega arith
  own_few b (e ∷ es) = go (e.by == b) (own_few b es)
    where
      go : (t : Bool) → count_in o (scanned_in (events_by b es)) ≤ count_in o (scanned_in es) → count_in o (scanned_in (if t then e ∷ events_by b es else events_by b es)) ≤ count_in o (scanned_in (e ∷ es))
      go true rest =
          let a = count_append o (scanned_by e.act) (scanned_in (events_by b es)) in
          let c = count_append o (scanned_by e.act) (scanned_in es) in
          omega arith
      go false rest = let c = count_append o (scanned_by e.act) (scanned_in es) in omega arith

-- the objects that a part scans are scanned once
pub scans_once : (v w : View) (at to : Scanner) (done : List ℕ) → ∥ IsOpenable v.opening ∥₁ → IsPhaseHistory v.opening w.seen → ScanPart v at w to done → (o : ℕ) → count_in o done ≤ 1
scans_once v w at to done openable lawful part o = elim (cases_lt 1 (count_in o done)) [
  | inr few ↦ few
  | inl many ↦ absurd (not_there openable (λ t.
      let c = part.called in
      let grown : IsPhaseHistory v.opening (v.seen ++ c.grown) = subst (IsPhaseHistory v.opening) c.seen lawful in
      let most = at_most_once o (after t.base v.seen) c.grown
      (sound_after v.opening v.seen (lawful_front v.opening v.seen c.grown grown) t.base t.is_base)
      (legal_rest t.base v.seen c.grown (grown.legal t.base t.is_base))
      (each_last IsPhaseEvent v.seen c.grown grown.events) in
      let own = own_few o v.number c.grown in
      let mine : count_in o (scanned_in (events_by v.number c.grown)) ≡ count_in o done = ap (λ es. count_in o (scanned_in es)) c.mine ∙ ap (count_in o) part.scanned in
      omega (arith, many, most, own, mine)))
]
