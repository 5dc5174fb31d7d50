-- The bound fields of an object are safe: its external ones, entry by entry, and its trusted one.
use Rattle.std.specs.Prelude.{◌≡◌, ◌↔◌, ℕ, ◌/◌, Bool, true, false, List, Some, IsTrue}
use Rattle.std.specs.List.{All}
use Rattle.std.proofs.Common.{refl, sym, subst, ◌∙◌}
use Rattle.std.proofs.lemmas.List.Elements.{All-contains}
use Rattle.plain_table.specs.declared.events.Field.TheVariants as field
use Rattle.plain_program.specs.Entries.{at}
use Rattle.plain_table.specs.Cycle.{Cycle}
use Rattle.plain_table.specs.Table.{Table}
use Rattle.plain_table.specs.Rows.{AreSafe, IsSafe}
use Rattle.plain_program.proofs.EntryLists.{Contains-from_at}

-- an entry of the bound external fields: the field is safe, if it is the object's
abbrev pub IsSafeEntry : Table → Cycle → ℕ → ℕ × ℕ → Type 0
IsSafeEntry s c o entry = entry.0 / 2 ≡ o → IsSafe s c (field.External entry.0) entry.1

-- each bound external field of the object is safe
abbrev pub AreExternalSafe : Table → Cycle → ℕ → Type 0
AreExternalSafe s c o = (number id : ℕ) → number / 2 ≡ o → s.bound (field.External number) ≡ Some id → IsSafe s c (field.External number) id

pub external_safe-from_entries : (s : Table) (c : Cycle) (o : ℕ) (entries : List (ℕ × ℕ)) → ((n : ℕ) → s.bound (field.External n) ≡ at entries n) →
    All (IsSafeEntry s c o) entries → AreExternalSafe s c o
external_safe-from_entries s c o entries shows all number id own bound =
    All-contains (IsSafeEntry s c o) entries (number, id) all (Contains-from_at entries number id (sym (shows number) ∙ bound)) own

-- the fields of an object are its external ones and its trusted one
pub AreSafe-iff : (s : Table) (c : Cycle) (o : ℕ) (test : Bool) → IsTrue test ↔ ((id : ℕ) → s.bound (field.Trusted o) ≡ Some id → IsSafe s c (field.Trusted o) id) →
    AreExternalSafe s c o → IsTrue test ↔ AreSafe s c o
AreSafe-iff s c o test trusted external = (both, λ all. trusted.1 (λ id bound. all (field.Trusted o) id refl bound))
  where
    both : IsTrue test → AreSafe s c o
    both safe (field.External number) id own bound = external number id own bound
    both safe (field.Trusted number) id own bound =
        subst (λ (n : ℕ). (s.bound (field.Trusted n) ≡ Some id) → IsSafe s c (field.Trusted n) id) (sym own) (trusted.0 safe id) bound

-- one bound field that is not safe
pub AreExternalSafe-refuted : (s : Table) (c : Cycle) (o n id : ℕ) (test : Bool) → IsTrue test ↔ IsSafe s c (field.External n) id → test ≡ false →
    n / 2 ≡ o → s.bound (field.External n) ≡ Some id → IsTrue false ↔ AreExternalSafe s c o
AreExternalSafe-refuted s c o n id test says fails own bound =
    (λ h. absurd (cc), λ all. let safe : test ≡ true = says.1 (all n id own bound) in absurd (cc))

pub AreSafe-refuted : (s : Table) (c : Cycle) (o : ℕ) (test : Bool) → IsTrue test ↔ AreExternalSafe s c o → test ≡ false → IsTrue test ↔ AreSafe s c o
AreSafe-refuted s c o test says fails = (λ h. absurd (cc), λ all. says.1 (λ n id own bound. all (field.External n) id own bound))
