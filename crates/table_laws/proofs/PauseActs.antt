-- The acts of a pause: visits are among them and scan nothing, scans join, and each event of a number that scans is one.
use Rattle.std.proofs.Common.{◌≡◌, ◌+◌, arith, ◌++◌, ℕ, suc, List, [], ◌∷◌, refl, sym, subst}
use Rattle.std.specs.List.{All}
use Rattle.std.proofs.lemmas.List.Elements.{All-nil, All-cons, All-head, All-tail}
use Rattle.plain_table.specs.declared.events.Act.{Act}
use Rattle.plain_table.specs.declared.events.Act.TheVariants.{Mark, Below, Evac, Abort}
use Rattle.plain_table.specs.declared.events.Event.{Event}
use Rattle.plain_table.specs.declared.events.Space.{Space}
use Rattle.plain_table.specs.declared.events.Field.{Field}
use Rattle.plain_table.specs.Table.{Table}
use Rattle.plain_table.specs.History.{next}
use Rattle.plain_table.specs.Scans.{Scanner, Makes, Marks, Takes, Fills, Fails, Aborts, Says, Scans, Ends, Others, Turn, Make}
use Rattle.table_laws.specs.Pauses.{IsPauseAct, IsVisitAct, scans_of, scans_in}

IsPauseAct-visit : (a : Act) → IsVisitAct a → IsPauseAct a
IsPauseAct-visit (Mark p i) is = tt
IsPauseAct-visit (Below start) is = tt
IsPauseAct-visit (Evac i number) is = tt
IsPauseAct-visit Abort is = tt
IsPauseAct-visit _ is = absurd is

pub pause-visits : (es : List Event) → All (λ (e : Event). IsVisitAct e.act) es → All (λ (e : Event). IsPauseAct e.act) es
pause-visits [] all = All-nil (λ (e : Event). IsPauseAct e.act)
pause-visits (e ∷ es) all =
    All-cons (λ (e : Event). IsPauseAct e.act) e es (IsPauseAct-visit e.act (All-head (λ (e : Event). IsVisitAct e.act) e es all))
    (pause-visits es (All-tail (λ (e : Event). IsVisitAct e.act) e es all))

-- so is a run that does nothing but mark
pub mark-visits : (p : Space) (i : ℕ) (es : List Event) → All (λ (e : Event). e.act ≡ Mark p i) es → All (λ (e : Event). IsVisitAct e.act) es
mark-visits p i es all k d within = subst IsVisitAct (sym (all k d within)) tt

scans_of-visit : (a : Act) → IsVisitAct a → scans_of a ≡ 0
scans_of-visit (Mark p i) is = refl
scans_of-visit (Below start) is = refl
scans_of-visit (Evac i number) is = refl
scans_of-visit Abort is = refl
scans_of-visit _ is = absurd is

-- visits scan nothing
pub scans_in-visits : (es : List Event) → All (λ (e : Event). IsVisitAct e.act) es → scans_in es ≡ 0
scans_in-visits [] all = refl
scans_in-visits (e ∷ es) all =
    let here = scans_of-visit e.act (All-head (λ (e : Event). IsVisitAct e.act) e es all) in
    let rest = scans_in-visits es (All-tail (λ (e : Event). IsVisitAct e.act) e es all) in
    omega (arith, here, rest)

pub scans_in-append : (es fs : List Event) → scans_in (es ++ fs) ≡ scans_in es + scans_in fs
scans_in-append [] fs = refl_zero (scans_in fs)
  where
    refl_zero : (n : ℕ) → n ≡ 0 + n
    refl_zero n = omega arith
scans_in-append (e ∷ es) fs = let rest = scans_in-append es fs in omega (arith, rest)

module _ (IsRead : Table → Field → ℕ → Type 0) (b : ℕ) where
  pub IsPauseAct-make : (s : Table) (e : Event) (at mid : Scanner) → Makes IsRead b s e at mid → IsPauseAct e.act
  IsPauseAct-make s _ _ _ (Marks o f w fields read) = tt
  IsPauseAct-make s _ _ _ (Takes o number w start i fields inside) = tt
  IsPauseAct-make s _ _ _ (Fills o number i fields) = tt
  IsPauseAct-make s _ _ _ (Fails o number w start fields inside) = tt
  IsPauseAct-make s _ _ _ (Aborts o fields) = tt
  IsPauseAct-make s _ _ _ (Says o) = tt

  -- where nobody else makes an event
  pub pause-scans : (MayScan : Table → ℕ → Type 0) (at : Scanner) (s : Table) (es : List Event) (to : Scanner) →
      Scans MayScan IsRead b at s es to → All (λ (e : Event). e.by ≡ b) es → All (λ (e : Event). IsPauseAct e.act) es
  pause-scans MayScan _ _ _ _ (Ends at s) own = All-nil (λ (e : Event). IsPauseAct e.act)
  pause-scans MayScan _ _ _ _ (Others at s e es to other rest) own = absurd (other (own 0 e (omega arith)))
  pause-scans MayScan _ _ _ _ (Turn at mid s es to turn rest) own = pause-scans MayScan mid s es to rest own
  pause-scans MayScan _ _ _ _ (Make at mid s e es to by make rest) own =
      All-cons (λ (e : Event). IsPauseAct e.act) e es (IsPauseAct-make s e at mid make)
      (pause-scans MayScan mid (next s e) es to rest (λ k d within. own (suc k) d (omega arith)))
