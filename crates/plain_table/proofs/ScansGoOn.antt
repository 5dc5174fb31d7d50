-- Scans that go on at their end: scans after scans, and one event more, of another number or of its own.
use Rattle.std.proofs.Common.{◌≡◌, ◌≢◌, ℕ, List, [], ◌∷◌, ◌++◌}
use Rattle.plain_table.specs.declared.events.Event.{Event}
use Rattle.plain_table.specs.declared.events.Field.{Field}
use Rattle.plain_table.specs.Table.{Table}
use Rattle.plain_table.specs.History.{next, after}
use Rattle.plain_table.specs.Scans.{Scanner, Turns, Makes, Scans, Ends, Others, Turn, Make}

module _ (MayScan : Table → ℕ → Type 0) (IsRead : Table → Field → ℕ → Type 0) (b : ℕ) where
  pub Scans-append : (at mid to : Scanner) (s : Table) (es fs : List Event) → Scans MayScan IsRead b at s es mid →
      Scans MayScan IsRead b mid (after s es) fs to → Scans MayScan IsRead b at s (es ++ fs) to
  Scans-append _ _ to _ _ fs (Ends at s) more = more
  Scans-append _ _ to _ _ fs (Others at s e es mid apart rest) more =
      Others at s e (es ++ fs) to apart (Scans-append at mid to (next s e) es fs rest more)
  Scans-append _ _ to _ _ fs (Turn at m s es mid turns rest) more =
      Turn at m s (es ++ fs) to turns (Scans-append m mid to s es fs rest more)
  Scans-append _ _ to _ _ fs (Make at m s e es mid own makes rest) more =
      Make at m s e (es ++ fs) to own makes (Scans-append m mid to (next s e) es fs rest more)

  -- one event more, of another number
  pub Scans-others : (at mid : Scanner) (s : Table) (es : List Event) (e : Event) → Scans MayScan IsRead b at s es mid → e.by ≢ b →
      Scans MayScan IsRead b at s (es ++ e ∷ []) mid
  Scans-others at mid s es e scans apart =
      Scans-append at mid mid s es (e ∷ []) scans (Others mid (after s es) e [] mid apart (Ends mid (next (after s es) e)))

  -- and one of its own
  pub Scans-make : (at mid to : Scanner) (s : Table) (es : List Event) (e : Event) → Scans MayScan IsRead b at s es mid → e.by ≡ b →
      Makes IsRead b (after s es) e mid to → Scans MayScan IsRead b at s (es ++ e ∷ []) to
  Scans-make at mid to s es e scans own makes =
      Scans-append at mid to s es (e ∷ []) scans (Make mid to (after s es) e [] to own makes (Ends to (next (after s es) e)))

  -- and what it does with no event
  pub Scans-turn : (at mid to : Scanner) (s : Table) (es : List Event) → Scans MayScan IsRead b at s es mid →
      Turns MayScan IsRead (after s es) mid to → Scans MayScan IsRead b at s es to
  Scans-turn _ _ to _ _ (Ends at s) turns = Turn at to s [] to turns (Ends to s)
  Scans-turn _ _ to _ _ (Others at s e es mid apart rest) turns = Others at s e es to apart (Scans-turn at mid to (next s e) es rest turns)
  Scans-turn _ _ to _ _ (Turn at m s es mid first rest) turns = Turn at m s es to first (Scans-turn m mid to s es rest turns)
  Scans-turn _ _ to _ _ (Make at m s e es mid own makes rest) turns =
      Make at m s e es to own makes (Scans-turn m mid to (next s e) es rest turns)
