-- What headers say in a cycle, and words whose white objects have become shaded: they show the same table.
use Rattle.std.proofs.Common.{◌≡◌, ◌≢◌, ◌⊎◌, ◌+◌, ◌*◌, ◌<◌, ℕ, Bool, true, false, List, length, slice_index, Some, IsTrue, refl, sym, ap, subst, ◌∙◌, inl, inr, arith}
use Rattle.plain_table.specs.declared.events.Space.{Space}
use Rattle.plain_table.specs.declared.events.Space.TheVariants.{External, Trusted}
use Rattle.plain_table.specs.Cycle.{Cycle}
use Rattle.plain_table.specs.Table.{Table}
use Rattle.plain_table.specs.Words.{header_word, field_place, entry_place}
use Rattle.plain_table.specs.Shows.{Shows, IsHeader, IsHeaderIn, IsScanned, is_black}
use Rattle.plain_table.proofs.WordPlaces.{header-apart-field, entry_place-from}
use Rattle.word_laws.proofs.CommittedSpaces.{SpaceShows-same}
use Rattle.plain_table.specs.Sound.{IsSound}
use Rattle.sweeper.specs.Shading.{header_of, Shades}

-- the three headers: white, shaded, and shaded and scanned
abbrev pub HeaderCases : ℕ → Bool → Type 0
HeaderCases word black = ((word ≡ 0) × (black ≡ false)) ⊎ ((word ≡ 1) × (black ≡ false)) ⊎ ((word ≡ 3) × (black ≡ true))

header-by : (word : ℕ) (shaded black : Bool) → word ≡ header_word shaded black → (IsTrue black → IsTrue shaded) → HeaderCases word black
header-by word true true is all = inr (inr (is, refl))
header-by word true false is all = inr (inl (is, refl))
header-by word false false is all = inl (is, refl)
header-by word false true is all = absurd (cc (all refl))

module _ (words : List ℕ) (s : Table) (c : Cycle) (shows : Shows words s) (is : s.cycle ≡ Some c) where
  pub header-in : (o : ℕ) → o < s.sizes.objects → IsHeaderIn s c o (header_of words o)
  header-in o few = subst (λ cycle. IsHeader s cycle o (header_of words o)) is (shows.headers o few)

  pub header-cases : (o : ℕ) → o < s.sizes.objects → HeaderCases (header_of words o) (is_black s c o)
  header-cases o few = let h = header-in o few in header-by (header_of words o) h.0 (is_black s c o) h.1 h.2

  pub header-unscanned : (o : ℕ) → o < s.sizes.objects → header_of words o ≢ 3 → is_black s c o ≡ false
  header-unscanned o few apart = elim (header-cases o few) [
    | inl white ↦ white.1
    | inr rest ↦ elim rest [
      | inl grey ↦ grey.1
      | inr black ↦ absurd (apart black.0)
    ]
  ]

  pub header-scanned : (o : ℕ) → o < s.sizes.objects → IsScanned words o → (header_of words o ≡ 3) × (is_black s c o ≡ true)
  header-scanned o few scanned = elim (header-cases o few) [
    | inl white ↦ absurd (omega (arith, white.0, scanned))
    | inr rest ↦ elim rest [
      | inl grey ↦ absurd (omega (arith, grey.0, scanned))
      | inr black ↦ black
    ]
  ]

  pub header-black : (o : ℕ) → o < s.sizes.objects → is_black s c o ≡ true → header_of words o ≡ 3
  header-black o few is_true = elim (header-cases o few) [
    | inl white ↦ absurd (cc (white.1, is_true))
    | inr rest ↦ elim rest [
      | inl grey ↦ absurd (cc (grey.1, is_true))
      | inr black ↦ black.0
    ]
  ]

module _ (old now list listed : List ℕ) (len end : ℕ) (held : ℕ → Type 0) (sh : Shades old now list listed len end held) (s : Table) (c : Cycle) (is : s.cycle ≡ Some c) (sound : IsSound s)
    (many : length list ≡ s.sizes.objects) (shows : Shows old s) where
  low : (place : ℕ) → place < 32 → slice_index now place ≡ slice_index old place
  low place below = sh.rest place (λ o few e. omega (arith, e, below))

  entries : (p : Space) (i : ℕ) → slice_index now (entry_place s.sizes p i) ≡ slice_index old (entry_place s.sizes p i)
  entries p i = sh.rest (entry_place s.sizes p i) (λ o few e. omega (arith, e, few, many, entry_place-from s.sizes p i))

  headers : (o : ℕ) → o < s.sizes.objects → IsHeaderIn s c o (header_of now o)
  headers o few =
      let was = header-in old s c shows is o few in
      elim (sh.headers o (omega (arith, few, many))) [
        | inl same ↦ subst (IsHeaderIn s c o) (sym same) was
        | inr w ↦ (
          true,
          w.1 ∙ ap (header_word true) (sym (header-unscanned old s c shows is o few (λ e. omega (arith, e, w.0)))),
          λ black. refl,
        )
      ]

  pub Shows-shaded : Shows now s
  Shows-shaded = record {
    whole = sh.long ∙ shows.whole;
    area = low 1 (omega arith) ∙ shows.area;
    count = low 3 (omega arith) ∙ shows.count;
    phase = low 4 (omega arith) ∙ shows.phase;
    spare = λ i from to. low i (omega (arith, to)) ∙ shows.spare i from to;
    globals = λ g few. low (16 + g) (omega (arith, few)) ∙ shows.globals g few;
    headers = λ o few. subst (λ cycle. IsHeader s cycle o (header_of now o)) (sym is) (headers o few);
    references = λ o k few four. sh.rest (33 + 8 * o + k) (λ m less e. omega (arith, e, four)) ∙ shows.references o k few four;
    fields = λ f few. sh.rest (field_place f) (λ m less e. header-apart-field m f (sym e)) ∙ shows.fields f few;
    external = (
      shows.external.0,
      SpaceShows-same s External sound.used (λ i. slice_index old (entry_place s.sizes External i)) (λ i. slice_index now (entry_place s.sizes External i)) (slice_index old 0) (slice_index now 0) shows.external.0
          (λ i below. entries External i) (low 0 (omega arith)) shows.external.1,
    );
    trusted = (
      shows.trusted.0,
      SpaceShows-same s Trusted sound.used (λ i. slice_index old (entry_place s.sizes Trusted i)) (λ i. slice_index now (entry_place s.sizes Trusted i)) (slice_index old 2) (slice_index now 2) shows.trusted.0
          (λ i below. entries Trusted i) (low 2 (omega arith)) shows.trusted.1,
    );
  }
