-- The words that name an index, found among those that stood in fields at the start of a cycle and those that came since.
use Rattle.std.specs.Prelude.{◌≡◌, ◌≢◌, ◌↔◌, ℕ, ◌/◌, ◌==◌, Bool, true, false, List, Option, Some, None, unwrap_or, IsTrue}
use Rattle.std.specs.List.{All, list_any}
use Rattle.std.proofs.Common.{refl, sym, ap, ◌∙◌, eq-eqb, eqb-true}
use Rattle.std.proofs.lemmas.List.Elements.{All-contains}
use Rattle.plain_table.specs.declared.events.Space.TheVariants.{External, Trusted}
use Rattle.plain_table.specs.declared.events.Field.TheVariants as field
use Rattle.plain_table.specs.Index.{index_of}
use Rattle.plain_program.specs.Entries.{at, word_at}
use Rattle.plain_program.specs.Kept.{KeptCycle, KeptOrigin, shown_cycle}
use Rattle.plain_program.specs.Named.{CameNamed, StoodNamed, WasReachable}
use Rattle.plain_program.proofs.EntryLists.{Contains-from_at, list_any-pairs}

-- an entry of the words that stood in fields, which belong to the object: its word does not name the index
abbrev pub IsOther : KeptOrigin → (ℕ → ℕ) → ℕ → ℕ × ℕ → Type 0
IsOther k object i entry = index_of entry.1 ≡ i → entry.1 ≢ 0 → WasReachable k (object entry.0) → ⊥

at-word_at : (words : List (ℕ × ℕ)) (n : ℕ) → word_at words n ≢ 0 → at words n ≡ Some (word_at words n)
at-word_at words n = by_case (at words n)
  where
    by_case : (found : Option ℕ) → unwrap_or found 0 ≢ 0 → found ≡ Some (unwrap_or found 0)
    by_case None held = absurd (held refl)
    by_case (Some w) held = refl

word_at-at : (words : List (ℕ × ℕ)) (n w : ℕ) → at words n ≡ Some w → word_at words n ≡ w
word_at-at words n w e = ap (λ (found : Option ℕ). unwrap_or found 0) e

no_other : (k : KeptOrigin) (object : ℕ → ℕ) (words : List (ℕ × ℕ)) (i n : ℕ) → All (IsOther k object i) words →
    index_of (word_at words n) ≡ i → word_at words n ≢ 0 → WasReachable k (object n) → ⊥
no_other k object words i n all names held old =
    All-contains (IsOther k object i) words (n, word_at words n) all (Contains-from_at words n (word_at words n) (at-word_at words n held)) names held old

-- a word that stood in a field, found at an entry; and none, where no entry has one
module _ (k : KeptOrigin) (i : ℕ) where
  pub StoodNamed-external : (n w : ℕ) → at k.external_words n ≡ Some w → w ≢ 0 → index_of w ≡ i → WasReachable k (n / 2) → IsTrue true ↔ StoodNamed k External i
  StoodNamed-external n w stands held names old =
      let e = word_at-at k.external_words n w stands in
      (λ h. (field.External n, refl, ap index_of e ∙ names, λ zero. held (sym e ∙ zero), old), λ named. refl)

  pub StoodNamed-trusted : (n w : ℕ) → at k.trusted_words n ≡ Some w → w ≢ 0 → index_of w ≡ i → WasReachable k n → IsTrue true ↔ StoodNamed k Trusted i
  StoodNamed-trusted n w stands held names old =
      let e = word_at-at k.trusted_words n w stands in
      (λ h. (field.Trusted n, refl, ap index_of e ∙ names, λ zero. held (sym e ∙ zero), old), λ named. refl)

  never_external : All (IsOther k (λ n. n / 2) i) k.external_words → StoodNamed k External i → ⊥
  never_external all (field.External n, space, names, held, old) = no_other k (λ m. m / 2) k.external_words i n all names held old
  never_external all (field.Trusted n, space, names, held, old) = absurd (cc)

  never_trusted : All (IsOther k (λ n. n) i) k.trusted_words → StoodNamed k Trusted i → ⊥
  never_trusted all (field.External n, space, names, held, old) = absurd (cc)
  never_trusted all (field.Trusted n, space, names, held, old) = no_other k (λ m. m) k.trusted_words i n all names held old

  pub StoodNamed-no_external : All (IsOther k (λ n. n / 2) i) k.external_words → IsTrue false ↔ StoodNamed k External i
  StoodNamed-no_external all = (λ h. absurd (cc), λ named. absurd (never_external all named))

  pub StoodNamed-no_trusted : All (IsOther k (λ n. n) i) k.trusted_words → IsTrue false ↔ StoodNamed k Trusted i
  StoodNamed-no_trusted all = (λ h. absurd (cc), λ named. absurd (never_trusted all named))

-- the words that came since, found among the pairs of fields and words
abbrev pub names_index : ℕ → ℕ × ℕ → Bool
names_index i pair = index_of pair.1 == i

module _ (k : KeptCycle) (i : ℕ) (test : Bool) where
  pub CameNamed-external : test ≡ list_any (names_index i) k.external_came → IsTrue test ↔ CameNamed (shown_cycle k) External i
  CameNamed-external is = (
    λ h. let s = (list_any-pairs (names_index i) k.external_came).0 (sym is ∙ h) in (field.External s.0, s.1, refl, eqb-true (index_of s.1) i s.3, s.2),
    found,
  )
    where
      found : CameNamed (shown_cycle k) External i → IsTrue test
      found (field.External n, w, space, names, came) = is ∙ (list_any-pairs (names_index i) k.external_came).1 (n, w, came, eq-eqb (index_of w) i names)
      found (field.Trusted n, w, space, names, came) = absurd (cc)

  pub CameNamed-trusted : test ≡ list_any (names_index i) k.trusted_came → IsTrue test ↔ CameNamed (shown_cycle k) Trusted i
  CameNamed-trusted is = (
    λ h. let s = (list_any-pairs (names_index i) k.trusted_came).0 (sym is ∙ h) in (field.Trusted s.0, s.1, refl, eqb-true (index_of s.1) i s.3, s.2),
    found,
  )
    where
      found : CameNamed (shown_cycle k) Trusted i → IsTrue test
      found (field.External n, w, space, names, came) = absurd (cc)
      found (field.Trusted n, w, space, names, came) = is ∙ (list_any-pairs (names_index i) k.trusted_came).1 (n, w, came, eq-eqb (index_of w) i names)
