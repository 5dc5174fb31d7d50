-- The sweep of a space, from its last pass and its freelist word.
use Rattle.std.proofs.Common.{◌≡◌, ◌≢◌, ◌⊎◌, ◌+◌, ◌*◌, ◌/◌, ◌<◌, ◌≤◌, ℕ, Bool, false, List, length, slice_index, slice_set, Some, refl, sym, ap, ap₂, subst, ◌∙◌, inl, inr, arith, get_or-set_same, get_or-set_other, length-set}
use Rattle.std.specs.Prelude.{unwrap_or, not, nat_lt, nat_le}
use Rattle.std.proofs.lemmas.Bool.{and_left, and_right}
use Rattle.plain_table.specs.Area.{count_below, greatest_below, segments_in_use}
use Rattle.plain_table.specs.Words.{freelist_word}
use Rattle.plain_table.proofs.AreaStarts.{greatest_below-some, segments-le}
use Rattle.plain_table.proofs.Options.{IsSome-value}
use Rattle.word_laws.specs.Kinds.{is_marked_word, is_cell_word, is_evacuation_word}
use Rattle.sweeper.specs.Pass.{Tally, stays, used_after, free_after, freed_after, moved_after, entries_from, greatest_after, IsPassAt, IsTallyAt, one_if}
use Rattle.sweeper.specs.Ready.{IsSpaceAfter, IsSpaceSwept}
use Rattle.word_laws.specs.Kinds.{IsKind}
use Rattle.word_laws.proofs.WordKinds.{quiet-kind}

module _ (entry : ℕ → ℕ) (from limit : ℕ) (some : 1 ≤ limit) where
  pub greatest_after-is : (g : ℕ) × (greatest_below (used_after entry from) limit ≡ Some g) × (greatest_after entry from limit ≡ g)
  greatest_after-is =
      let found = IsSome-value (greatest_below (used_after entry from) limit) (greatest_below-some (used_after entry from) limit 0 some refl) in
      (found.0, found.1, ap (λ o. unwrap_or o 0) found.1)

pub committed-le : (entry : ℕ → ℕ) (from seg ext : ℕ) → 1 ≤ seg * ext → 1 ≤ seg →
    (1 + greatest_after entry from (seg * ext) / seg) * seg ≤ seg * ext
committed-le entry from seg ext some one =
    let g = greatest_after-is entry from (seg * ext) some in
    subst (λ k. (1 + k / seg) * seg ≤ seg * ext) (sym g.2) (segments-le (used_after entry from) seg seg ext g.0 refl one g.1)

pub IsSpaceSwept-pass : (old mid : List ℕ) (base limit from seg list segs w : ℕ) (tally : Tally) →
    base + limit ≤ length old → 1 ≤ limit → list < base → slice_index old base ≡ 0 →
    segs ≡ segments_in_use (used_after (entries_from old base) from) limit seg → segs * seg ≤ limit → 1 ≤ segs * seg →
    w ≡ freelist_word tally.head tally.len →
    IsPassAt old mid base limit from (segs * seg) 1 → IsTallyAt (entries_from old base) limit from (segs * seg) 1 tally →
    IsSpaceSwept old (slice_set mid list w) base limit from seg list segs tally
IsSpaceSwept-pass old mid base limit from seg list segs w tally inside some before null segments within one is done says = record {
  long = length-set mid list w ∙ done.long;
  after = record {
    null = other base (omega (arith, before)) ∙ done.rest base (inl (omega arith)) ∙ null;
    entries = λ k later below. other (base + k) (λ e. omega (arith, e, before)) ∙ done.done k later below;
    at_list = get_or-set_same mid list w 0 (omega (arith, before, inside, done.long)) ∙ is ∙ ap₂ freelist_word says.first len;
    segments = segments;
    within = within;
    stayed = counts (stays (entries_from old base) from) limit tally.kept stay says.stayed;
    gone = counts (freed_after (entries_from old base) from) limit tally.freed freed says.gone;
    forwarded = counts (moved_after (entries_from old base) from) limit tally.moved moved says.forwarded;
  };
  rest = λ place apart out. other place apart ∙ done.rest place (wider place out);
}
  where
    other : (place : ℕ) → place ≢ list → slice_index (slice_set mid list w) place ≡ slice_index mid place
    other place apart = get_or-set_other mid list place w 0 apart

    wider : (place : ℕ) → (place < base) ⊎ (base + limit ≤ place) → (place < base + 1) ⊎ (base + limit ≤ place)
    wider place out = elim out [ inl low ↦ inl (omega (arith, low)) | inr high ↦ inr high ]

    counts : (set : ℕ → Bool) (n tally : ℕ) → set 0 ≡ false → tally + count_below set 1 ≡ count_below set n → tally ≡ count_below set n
    counts set n tally none is =
        let zero_of : count_below set 1 ≡ 0 = ap (λ (b : Bool). 0 + one_if b) none in omega (arith, is, zero_of)

    kind : IsKind (slice_index old (base + 0)) false false false
    kind = quiet-kind (slice_index old (base + 0)) (inl (ap (slice_index old) (omega arith) ∙ null))

    stay : stays (entries_from old base) from 0 ≡ false
    stay = and_right (nat_lt 0 from) (is_marked_word (entries_from old base 0)) kind.is_marked

    freed : freed_after (entries_from old base) from 0 ≡ false
    freed = and_left (is_cell_word (entries_from old base 0)) (not (stays (entries_from old base) from 0)) kind.is_cell

    moved : moved_after (entries_from old base) from 0 ≡ false
    moved = and_right (nat_le from 0) (is_evacuation_word (entries_from old base 0)) kind.is_evacuation

    len : tally.len ≡ count_below (free_after (entries_from old base) from) (segs * seg)
    len = counts (free_after (entries_from old base) from) (segs * seg) tally.len refl (says.many one)

-- it stays so where the words of the space do
pub IsSpaceAfter-kept : (old now later : List ℕ) (base limit from seg list segs : ℕ) (tally : Tally) → 1 ≤ limit →
    slice_index later list ≡ slice_index now list → ((k : ℕ) → k < limit → slice_index later (base + k) ≡ slice_index now (base + k)) →
    IsSpaceAfter old now base limit from seg list segs tally → IsSpaceAfter old later base limit from seg list segs tally
IsSpaceAfter-kept old now later base limit from seg list segs tally some at_list same h = record {
  null = ap (slice_index later) (omega arith) ∙ same 0 some ∙ ap (slice_index now) (omega arith) ∙ h.null;
  entries = λ k first below. same k below ∙ h.entries k first below;
  at_list = at_list ∙ h.at_list;
  segments = h.segments;
  within = h.within;
  stayed = h.stayed;
  gone = h.gone;
  forwarded = h.forwarded;
}
