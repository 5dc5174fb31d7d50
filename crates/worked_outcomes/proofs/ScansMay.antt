-- A number scans only what it may: if P holds of each object that it may scan at some table of a history, then P holds of
-- each object that it says is scanned there.
use Rattle.std.proofs.Common.{◌≡◌, ℕ, [], ◌∷◌, List, subst}
use Rattle.plain_table.specs.declared.events.Act.TheVariants.{Scan}
use Rattle.plain_table.specs.declared.events.Event.{Event}
use Rattle.plain_table.specs.declared.events.Field.{Field}
use Rattle.plain_table.specs.declared.events.Field.TheVariants as field
use Rattle.plain_table.specs.Table.{Table}
use Rattle.plain_table.specs.History.{next}
use Rattle.plain_table.specs.Scans.{Scanner, Rest, Visit, Move, Fill, GiveUp, marked_at, Turns, Begins, Passes, Stays, Makes, Marks, Takes, Fills, Fails, Aborts, Says, Scans, Ends, Others, Turn, Make}

-- at each table of a history, that at its end included
abbrev pub Along : (Table → Type 0) → Table → List Event → Type 0
Along Q s [] = Q s
Along Q s (e ∷ es) = Q s × Along Q (next s e) es

-- each object that number b says is scanned
abbrev pub AllScanned : (ℕ → Type 0) → ℕ → List Event → Type 0
AllScanned P b [] = Unit {0}
AllScanned P b (e ∷ es) = ((o : ℕ) → e.by ≡ b → e.act ≡ Scan o → P o) × AllScanned P b es

-- the object that is being scanned
abbrev pub IsAt : (ℕ → Type 0) → Scanner → Type 0
IsAt P Rest = Unit {0}
IsAt P (Visit o fields) = P o
IsAt P (Move o fields number w) = P o
IsAt P (Fill o fields number i) = P o
IsAt P (GiveUp o fields) = P o

at-marked : (P : ℕ → Type 0) (o : ℕ) (fields : List Field) (f : Field) (w : ℕ) → P o → IsAt P (marked_at o fields f w)
at-marked P o fields (field.External number) w here = here
at-marked P o fields (field.Trusted number) w here = here

module _ (MayScan : Table → ℕ → Type 0) (IsRead : Table → Field → ℕ → Type 0) (b : ℕ) (P : ℕ → Type 0) where
  at-turn : (s : Table) (at mid : Scanner) → ((o : ℕ) → MayScan s o → P o) → Turns MayScan IsRead s at mid → IsAt P at → IsAt P mid
  at-turn s _ _ may (Begins o fields is of) here = may o is
  at-turn s _ _ may (Passes o f w fields read none) here = at-marked P o fields f w here
  at-turn s _ _ may (Stays o number w fields need) here = here

  at-make : (s : Table) (e : Event) (at mid : Scanner) → Makes IsRead b s e at mid → IsAt P at → IsAt P mid × ((o : ℕ) → e.act ≡ Scan o → P o)
  at-make s _ _ _ (Marks o f w fields read) here = (at-marked P o fields f w here, λ q is. absurd (cc))
  at-make s _ _ _ (Takes o number w start i fields inside) here = (here, λ q is. absurd (cc))
  at-make s _ _ _ (Fills o number i fields) here = (here, λ q is. absurd (cc))
  at-make s _ _ _ (Fails o number w start fields inside) here = (here, λ q is. absurd (cc))
  at-make s _ _ _ (Aborts o fields) here = (here, λ q is. absurd (cc))
  at-make s _ _ _ (Says o) here = (tt, λ q is. let same : o ≡ q = cc in subst P same here)

  pub scanned-may : (at : Scanner) (s : Table) (es : List Event) (to : Scanner) → Scans MayScan IsRead b at s es to →
      Along (λ t. (o : ℕ) → MayScan t o → P o) s es → IsAt P at → AllScanned P b es
  scanned-may _ _ _ _ (Ends at s) may here = tt
  scanned-may _ _ _ _ (Others at s e es to other rest) may here = (λ o by is. absurd (other by), scanned-may at (next s e) es to rest may.1 here)
  scanned-may _ _ _ _ (Turn at mid s [] to turn rest) may here = scanned-may mid s [] to rest may (at-turn s at mid may turn here)
  scanned-may _ _ _ _ (Turn at mid s (e ∷ es) to turn rest) may here =
      scanned-may mid s (e ∷ es) to rest may (at-turn s at mid may.0 turn here)
  scanned-may _ _ _ _ (Make at mid s e es to by make rest) may here =
      let made = at-make s e at mid make here in
      (λ o own is. made.1 o is, scanned-may mid (next s e) es to rest may.1 made.0)
