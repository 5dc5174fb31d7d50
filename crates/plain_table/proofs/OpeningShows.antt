-- An image with the contents of a fresh one shows the table before anything happened, in which it is lawful.
use Rattle.std.proofs.Common.{◌≡◌, ◌≢◌, ◌+◌, ◌-◌, ◌*◌, ◌==◌, ◌<◌, ◌≤◌, ℕ, zero, suc, Bool, not, List, slice_index, Some, unwrap_or, refl, sym, ap, ap₂, subst, ◌∙◌, inl, inr, arith, eqb-true, ne_eqb}
use Rattle.std.specs.Prelude.{if◌then◌else◌}
use Rattle.std.proofs.lemmas.Bool.{cases_lt}
use Rattle.plain_table.specs.declared.scripts.Limits.{Limits}
use Rattle.plain_table.specs.declared.events.Space.{Space}
use Rattle.plain_table.specs.declared.events.Space.TheVariants.{External, Trusted}
use Rattle.plain_table.specs.declared.events.Field.{Field}
use Rattle.plain_table.specs.declared.events.Field.TheVariants as field
use Rattle.plain_table.specs.Ranges.{IsInRange}
use Rattle.plain_table.specs.Places.{object_of}
use Rattle.plain_table.specs.Area.{count_below}
use Rattle.plain_table.specs.Table.{Sizes, opening, limit_of}
use Rattle.plain_table.specs.Words.{header_place, field_place, entry_place, words_in_all, freelist_word, free_word, evacuation_word, next_free}
use Rattle.plain_table.specs.Shows.{entry_at, SpaceShownBy, Image, ImageShows, IsFreshSpace, IsFreshImage}
use Rattle.plain_table.specs.Openings.{FreshImagesShowTheOpening}
use Rattle.plain_table.proofs.LeastFree.{least_from-free, least_from-end}
use Rattle.plain_table.proofs.OpeningSound.{le-segment, le-limit_of, IsSound-opening}

-- where index 0 alone is used, the next free index from 1 on is the very next one, or the end
pub next_free-opening : (i end : ℕ) → 1 ≤ i → i ≤ end → next_free (λ j. j == 0) i end ≡ i
next_free-opening i end later within =
    elim (cases_lt i end) [
      | inl less ↦ ap (λ found. unwrap_or found end) (least_from-free (λ j. j == 0) i end less (ne_eqb i 0 (omega (arith, later))))
      | inr all ↦ ap (λ found. unwrap_or found end) (least_from-end (λ j. j == 0) i end all) ∙ omega (arith, within, all)
    ]

-- where index 0 alone is used, all others are free
pub count_below-opening : (n : ℕ) → 1 ≤ n → count_below (λ j. not (j == 0)) n ≡ n - 1
count_below-opening zero some = absurd (omega (arith, some))
count_below-opening (suc zero) some = refl
count_below-opening (suc (suc n)) some =
    ap (λ (test : Bool). count_below (λ j. not (j == 0)) (suc n) + (if not test then 1 else 0)) (ne_eqb (suc n) 0 (omega arith))
    ∙ ap (λ m. m + 1) (count_below-opening (suc n) (omega arith)) ∙ omega arith

-- the entries and the freelist word of a fresh space
pub SpaceShownBy-opening : (limits : Limits) (words : List ℕ) (p : Space) → IsInRange limits →
    IsFreshSpace (opening limits).sizes p (limit_of (opening limits) p) words → SpaceShownBy words (opening limits) p
SpaceShownBy-opening limits words p range fresh =
    let least : 4 ≤ limits.seg = le-segment limits.seg range.seg in (
      limits.seg,
      record {
        segments = (1, omega arith);
        within = le-limit_of limits p range;
        used = λ i is. omega (arith, eqb-true i 0 is, least);
        null = fresh.null;
        cells = λ i cell is. absurd (cc);
        evacuated = no_entry p;
        free = λ i later within is.
            fresh.free i later within ∙ ap free_word (sym (next_free-opening (i + 1) limits.seg (omega arith) (omega (arith, within))));
        empty = λ i is. absurd (omega (arith, eqb-true i 0 is.used, is.later));
        closed = fresh.closed;
        list = fresh.freelist
            ∙ ap₂ freelist_word (sym (next_free-opening 1 limits.seg (omega arith) (omega (arith, least))))
            (sym (count_below-opening limits.seg (omega (arith, least))));
      },
    )
  where
    no_entry : (p : Space) (i number : ℕ) → entry_at (opening limits) p i ≡ Some number →
        slice_index words (entry_place (opening limits).sizes p i) ≡ evacuation_word number
    no_entry External i number is = absurd (cc)
    no_entry Trusted i number is = absurd (cc)

-- all words before the entries but the two freelist words are 0
abbrev pub AreZeros : List ℕ → ℕ → Type 0
AreZeros words objects = (i : ℕ) → i < header_place objects → i ≢ 0 → i ≢ 2 → slice_index words i ≡ 0

-- then those of fields are
pub field_place-zeros : (words : List ℕ) (objects : ℕ) (f : Field) → AreZeros words objects → object_of f < objects →
    slice_index words (field_place f) ≡ 0
field_place-zeros words objects (field.External number) zeros below = zeros _ (omega (arith, below)) (omega arith) (omega arith)
field_place-zeros words objects (field.Trusted number) zeros below = zeros _ (omega (arith, below)) (omega arith) (omega arith)

-- the image shows the opening
pub ImageShows-fresh : (limits : Limits) (image : Image) → IsInRange limits → image.sizes ≡ (opening limits).sizes → IsFreshImage image →
    ImageShows image (opening limits)
ImageShows-fresh limits image range same fresh =
    let objects : image.sizes.objects ≡ limits.objects = ap (λ (sizes : Sizes). sizes.objects) same in
    let zeros : AreZeros image.words limits.objects = λ i below. fresh.zeros i (omega (arith, below, objects)) in
    record {
      sizes = sym same;
      words = record {
        whole = fresh.whole ∙ ap words_in_all same;
        area = zeros 1 (omega arith) (omega arith) (omega arith);
        count = zeros 3 (omega arith) (omega arith) (omega arith);
        phase = zeros 4 (omega arith) (omega arith) (omega arith);
        spare = λ i from to. zeros i (omega (arith, to)) (omega (arith, from)) (omega (arith, from));
        globals = λ g below. zeros _ (omega (arith, below)) (omega arith) (omega arith);
        headers = λ o below. zeros _ (omega (arith, below)) (omega arith) (omega arith);
        references = λ o k below few. zeros _ (omega (arith, below, few)) (omega arith) (omega arith);
        fields = λ f below. field_place-zeros image.words limits.objects f zeros below;
        external = SpaceShownBy-opening limits image.words External range
            (subst (λ (sizes : Sizes). IsFreshSpace sizes External (sizes.seg * sizes.ext) image.words) same fresh.external);
        trusted = SpaceShownBy-opening limits image.words Trusted range
            (subst (λ (sizes : Sizes). IsFreshSpace sizes Trusted (sizes.seg * sizes.tru) image.words) same fresh.trusted);
      };
      variables = (fresh.variables.0, λ b v few below. fresh.variables.1 (16 * b + v));
      pending = fresh.pending;
    }

-- and so it is lawful
pub IsLawful-fresh : FreshImagesShowTheOpening
IsLawful-fresh limits image range same fresh =
    let shows : ImageShows image (opening limits) = ImageShows-fresh limits image range same fresh in
    (shows, (opening limits, IsSound-opening limits range, shows, tt))
