-- A cell that moves in a finish moves below the start of the area; and a map that is made from a list of entries, one
-- entry after another.
use Rattle.std.proofs.Common.{◌≡◌, ℕ, ◌<◌, ◌≤◌, ◌==◌, Bool, true, false, ◌&&◌, List, ◌∷◌, Option, Some, None, inl, inr, sym, ◌∙◌, ap, arith, eq-eqb, ne_eqb}
use Rattle.std.specs.Prelude.{if◌then◌else◌, IfSome, unwrap_or}
use Rattle.std.proofs.lemmas.Bool.{cases_eq}
use Rattle.plain_table.specs.declared.events.Space.TheVariants.{External}
use Rattle.plain_table.specs.declared.events.Field.{Field}
use Rattle.plain_table.specs.Area.{greatest_below}
use Rattle.plain_table.specs.Cycle.{Cycle, is_from, moves_from}
use Rattle.plain_program.specs.Entries.{at}
use Rattle.plain_table.specs.Finish.{is_entry_for, target}
use Rattle.plain_table.proofs.AreaStarts.{greatest_below-lt}
use Rattle.plain_program.proofs.EntryReads.{is_eq-nat_cmp}

moves_from-lt : (aborted : Bool) (start : Option ℕ) (n e : ℕ) → IfSome start (λ first. first ≤ n) → e < unwrap_or (if aborted then None else start) 0 → e < n
moves_from-lt true start n e small less = absurd (omega arith)
moves_from-lt false None n e small less = absurd (omega arith)
moves_from-lt false (Some first) n e small less = omega arith

-- the target by a case on whether the cell moves
target-by : (test : Bool) (found : Option ℕ) (n e : ℕ) → (found ≡ Some e → e < n) → (if test then found else None) ≡ Some e → e < n
target-by true found n e less is = less is
target-by false found n e less is = absurd (cc)

pub target-lt : (c : Cycle) (words : Field → ℕ) (n i e : ℕ) → IfSome c.start (λ first. first ≤ n) → target c words i ≡ Some e → e < n
target-lt c words n i e small is =
    target-by (is_from (moves_from c) i && c.marks External i) (greatest_below (is_entry_for c.evac words i) (unwrap_or (moves_from c) 0)) n e
    (λ found. moves_from-lt c.aborted c.start n e small (greatest_below-lt (is_entry_for c.evac words i) (unwrap_or (moves_from c) 0) e found)) is

at-cons_other : {A : Type 0} (k : ℕ) (v : A) (rest : List (ℕ × A)) (i : ℕ) → (k ≡ i → ⊥) → at ((k, v) ∷ rest) i ≡ at rest i
at-cons_other k v rest i other =
    ap (λ (test : Bool). if test then Some v else at rest i) (is_eq-nat_cmp i k ∙ ne_eqb i k (λ same. other (sym same)))

-- made holds what f makes of old, except where the entries that are left have a value
abbrev pub IsMadeExcept : (Option ℕ → Option ℕ) → (ℕ → Option ℕ) → (ℕ → Option ℕ) → List (ℕ × ℕ) → Type 0
IsMadeExcept f old made left = (i : ℕ) → at left i ≡ None → made i ≡ f (old i)

pub IsMadeExcept-next : (f : Option ℕ → Option ℕ) (old before after : ℕ → Option ℕ) (left rest : List (ℕ × ℕ)) (k v : ℕ) (found : Option ℕ) →
    left ≡ (k, v) ∷ rest → old k ≡ Some v → found ≡ f (Some v) → IsMadeExcept f old before left →
    ((i : ℕ) → after i ≡ (if k == i then found else before i)) → IsMadeExcept f old after rest
IsMadeExcept-next f old before after left rest k v found first there is made put i none =
    elim (cases_eq k i) [
      | inl same ↦ put i ∙ ap (λ (test : Bool). if test then found else before i) (eq-eqb k i same)
          ∙ is ∙ ap f (sym there ∙ ap old same)
      | inr other ↦ put i ∙ ap (λ (test : Bool). if test then found else before i) (ne_eqb k i other)
          ∙ made i (ap (λ (es : List (ℕ × ℕ)). at es i) first ∙ at-cons_other k v rest i other ∙ none)
    ]
