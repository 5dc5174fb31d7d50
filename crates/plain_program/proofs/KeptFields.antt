-- Whether the fields of reached objects are kept, by a loop over the fields that name a cell as their own; and whether
-- a cycle may finish, by what was reached.
use Rattle.std.proofs.Common.{◌≡◌, ℕ, Bool, true, false, ◌||◌, List, Option, Some, sym, ◌∙◌, subst}
use Rattle.std.specs.Prelude.{IsTrue, IsSomeAnd, ◌↔◌}
use Rattle.std.specs.List.{All}
use Rattle.std.proofs.lemmas.Bool.{iff_false}
use Rattle.std.proofs.lemmas.List.Elements.{All-contains}
use Rattle.plain_table.specs.declared.events.Field.{Field}
use Rattle.plain_table.specs.declared.events.Field.TheVariants as field
use Rattle.plain_program.specs.Entries.{at, has}
use Rattle.plain_table.specs.Places.{object_of}
use Rattle.plain_table.specs.Cycle.{Cycle}
use Rattle.plain_table.specs.Table.{Table}
use Rattle.plain_table.specs.Finish.{CanFinish, IsReachable}
use Rattle.plain_program.specs.KeptFields.{IsEntryKept, IsFieldKept, IsOwnKept}
use Rattle.plain_program.proofs.EntryLists.{Contains-from_at}

-- the entry that a look-up finds passes
pub All-at : (P : ℕ → ℕ → Type 0) (entries : List (ℕ × ℕ)) → All (λ e. P e.0 e.1) entries → (n id : ℕ) → at entries n ≡ Some id → P n id
All-at P entries all n id is = All-contains (λ (e : ℕ × ℕ). P e.0 e.1) entries (n, id) all (Contains-from_at entries n id is)

-- what an entry tells of its field, by what was found of the field's object
module _ (s : Table) (c : Cycle) (reached : List ℕ) (f : Field) (id o : ℕ) (found : Bool) (same : o ≡ object_of f) (says : found ≡ has reached o) where
  pub IsEntryKept-unreached : found ≡ false → IsEntryKept s c reached f id
  IsEntryKept-unreached none is = let e : has reached o ≡ true = subst (λ (object : ℕ). has reached object ≡ true) (sym same) is in absurd (cc)

  pub IsFieldKept-fails : found ≡ true → s.bound f ≡ Some id → (done : Bool) → IsTrue done ↔ IsOwnKept s c f id → done ≡ false →
      IsFieldKept s c reached f → ⊥
  IsFieldKept-fails some bound done own none kept =
      let e : has reached (object_of f) ≡ true = subst (λ (object : ℕ). has reached object ≡ true) same (sym says ∙ some) in
      iff_false own none (kept id bound e)

-- what holds of the fields of both spaces holds of all
fields-by : (P : Field → Type 0) → ((n : ℕ) → P (field.External n)) → ((n : ℕ) → P (field.Trusted n)) → (f : Field) → P f
fields-by P external trusted (field.External n) = external n
fields-by P external trusted (field.Trusted n) = trusted n

module _ (P : Field → Type 0) (done : Bool) where
  pub fields-then : ((n : ℕ) → P (field.External n)) → IsTrue done ↔ ((n : ℕ) → P (field.Trusted n)) → IsTrue done ↔ ((f : Field) → P f)
  fields-then external says = (λ h. fields-by P external (says.0 h), λ all. says.1 (λ n. all (field.Trusted n)))

  pub fields-else : done ≡ false → IsTrue done ↔ ((n : ℕ) → P (field.External n)) → IsTrue done ↔ ((f : Field) → P f)
  fields-else none says = (λ h. absurd (cc), λ all. says.1 (λ n. all (field.External n)))

-- whether a cycle may finish, by what was reached
module _ (s : Table) (c : Cycle) (reached : List ℕ) (reaches : (o : ℕ) → IsTrue (has reached o) ↔ IsReachable s o) where
  abbrev AreScanned : Type 0
  AreScanned = (o : ℕ) → IsTrue (has reached o) → IsTrue (c.scans o || c.born o)

  pub finishes-then : AreScanned → (done : Bool) → IsTrue done ↔ ((f : Field) → IsFieldKept s c reached f) → IsTrue done ↔ CanFinish s c
  finishes-then scanned done says = (
    λ h. record {
      scanned = λ o r. scanned o ((reaches o).1 r);
      kept = λ f id bound r. says.0 h f id bound ((reaches (object_of f)).1 r);
    },
    λ finish. says.1 (λ f id bound r. finish.kept f id bound ((reaches (object_of f)).0 r)),
  )

  pub finishes-else : (done : Bool) → done ≡ false → (AreScanned → ⊥) → IsTrue done ↔ CanFinish s c
  finishes-else done none never = (λ h. absurd (cc), λ finish. absurd (never (λ o r. finish.scanned o ((reaches o).0 r))))

-- the same of the cycle that is under way
pub finishes-in : (s : Table) (c : Cycle) (cycle : Option Cycle) (done : Bool) → cycle ≡ Some c → IsTrue done ↔ CanFinish s c → IsTrue done ↔ IsSomeAnd cycle (CanFinish s)
finishes-in s c cycle done is says = subst (λ (found : Option Cycle). IsTrue done ↔ IsSomeAnd found (CanFinish s)) (sym is) says
