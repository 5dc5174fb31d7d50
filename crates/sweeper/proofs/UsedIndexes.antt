-- The used indexes of a space that shows a table outside a cycle, by its words and the links of its freelist.
use Rattle.std.proofs.Common.{◌≡◌, ◌≢◌, ◌+◌, ◌*◌, ◌/◌, ◌%◌, ◌^◌, ◌<◌, ◌≤◌, ◌==◌, ℕ, zero, suc, Bool, true, false, Option, Some, None, refl, sym, ap, ap₂, subst, ◌∙◌, inl, inr, arith, eq-eqb, ne_eqb, ◌⊎◌, List, slice_index}
use Rattle.std.specs.Prelude.{unwrap_or, if◌then◌else◌}
use Rattle.std.proofs.lemmas.Bool.{cases_lt, cases_Bool, cond-true, cond-false, both_ways}
use Rattle.std.proofs.lemmas.Bool.Decides.{eqb_tells}
use Rattle.plain_table.specs.declared.events.Cell.{Cell}
use Rattle.plain_table.specs.declared.events.Space.{Space}
use Rattle.plain_table.specs.Area.{count_below, greatest_below, area_start}
use Rattle.plain_table.specs.Table.{Table, Sizes, limit_of}
use Rattle.plain_table.specs.declared.scripts.Policy.{Policy}
use Rattle.plain_table.specs.Finish.{area_of}
use Rattle.plain_table.specs.Words.{free_word, no_access_word, next_free}
use Rattle.plain_table.specs.Shows.{SpaceShows, Shows, entry_at}
use Rattle.plain_table.specs.Sound.{IsSound, entries_in}
use Rattle.plain_table.specs.declared.events.Space.TheVariants.{External, Trusted}
use Rattle.plain_table.proofs.AreaStarts.{count_below-le, greatest_below-some, greatest_below-lt, segments-le}
use Rattle.plain_table.proofs.FreeLists.{count_below-some}
use Rattle.plain_table.proofs.Options.{IsSome-value}
use Rattle.plain_table.proofs.LeastFree.{least_from-used, least_from-free, least_from-end}
use Rattle.word_laws.specs.Kinds.{is_cell_word}
use Rattle.sweeper.specs.Pass.{entries_from}
use Rattle.sweeper.specs.Small.{AreSmall}
use Rattle.sweeper.specs.Usage.{counted, usage_of, IsOutside}
use Rattle.sweeper.specs.declared.usage.Usage.{Usage}
use Rattle.plain_table.proofs.FreeReads.{next_free-le, next_free-ge}
use Rattle.word_laws.specs.Kinds.{IsKind}
use Rattle.word_laws.proofs.WordKinds.{cell-kind}

-- the counts after n indexes
pub record IsUsage (used : ℕ → Bool) (committed n : ℕ) (u : Usage) : Type 0 where
  pub count : u.count ≡ count_below used n
  pub greatest : u.greatest ≡ unwrap_or (greatest_below used n) 0
  pub first : n ≡ 0 → u.next ≡ next_free used 1 committed
  pub next : 1 ≤ n → u.next ≡ next_free used n committed

abbrev one_if : Bool → ℕ
one_if test = if test then 1 else 0

module _ (used : ℕ → Bool) (committed n : ℕ) (u : Usage) (word : ℕ) (zero_used : used 0 ≡ true) (some : 1 ≤ committed) (few : committed < 2 ^ 32) where
  -- a used index
  used-step : used n ≡ true → n < committed → word ≢ no_access_word → IsUsage used committed n u → IsUsage used committed (suc n) (counted u word n)
  used-step is below apart h =
      subst (IsUsage used committed (suc n)) (sym same) (record {
        count = omega (arith, h.count, here);
        greatest = sym (ap (λ o. unwrap_or o 0) (ap (λ (b : Bool). if b then Some n else greatest_below used n) is));
        first = λ e. absurd (omega (arith, e));
        next = λ later. at_next (eqb_tells n 0);
      })
    where
      here : one_if (used n) ≡ 1
      here = ap one_if is

      after : next_free used n committed ≡ next_free used (n + 1) committed
      after = ap (λ found. unwrap_or found committed) (least_from-used used n committed below is)

      later_than : n < u.next
      later_than = elim (eqb_tells n 0) [
        | inl e ↦
            let from : 1 ≤ next_free used 1 committed = next_free-ge used 1 committed some in
            omega (arith, e.1, h.first e.1, from)
        | inr e ↦
            let from : n + 1 ≤ next_free used (n + 1) committed = next_free-ge used (n + 1) committed (omega (arith, below)) in
            omega (arith, h.next (omega (arith, e.1)), from, after)
      ]

      same : counted u word n ≡ record u { count = u.count + 1; greatest = n }
      same =
          cond-false (word == no_access_word) u (if n == u.next then record u { next = word % 2 ^ 32 } else record u { count = u.count + 1; greatest = n }) (ne_eqb word no_access_word apart)
          ∙ cond-false (n == u.next) (record u { next = word % 2 ^ 32 }) (record u { count = u.count + 1; greatest = n }) (ne_eqb n u.next (λ e. omega (arith, e, later_than)))

      at_next : ((n == 0 ≡ true) × (n ≡ 0)) ⊎ ((n == 0 ≡ false) × (n ≡ 0 → ⊥)) → u.next ≡ next_free used (suc n) committed
      at_next e = elim e [
        | inl z ↦ h.first z.1 ∙ ap (λ k. next_free used k committed) (omega (arith, z.1))
        | inr z ↦ h.next (omega (arith, z.1)) ∙ after ∙ ap (λ k. next_free used k committed) (omega arith)
      ]

  -- a free one
  free-step : used n ≡ false → n < committed → word ≡ free_word (next_free used (n + 1) committed) → IsUsage used committed n u → IsUsage used committed (suc n) (counted u word n)
  free-step is below links h =
      subst (IsUsage used committed (suc n)) (sym same) (record {
        count = omega (arith, h.count, here);
        greatest = h.greatest ∙ sym (ap (λ o. unwrap_or o 0) (ap (λ (b : Bool). if b then Some n else greatest_below used n) is));
        first = λ e. absurd (omega (arith, e));
        next = λ later. link ∙ ap (λ k. next_free used k committed) (omega arith);
      })
    where
      here : one_if (used n) ≡ 0
      here = ap one_if is

      later : 1 ≤ n
      later = elim (eqb_tells n 0) [
        | inl e ↦ absurd (both_ways (used 0) (ap used (sym e.1) ∙ is) zero_used)
        | inr e ↦ omega (arith, e.1)
      ]

      most : next_free used (n + 1) committed ≤ committed
      most = next_free-le used (n + 1) committed

      link : word % 2 ^ 32 ≡ next_free used (n + 1) committed
      link = omega (arith, links, most, few)

      here_next : n ≡ u.next
      here_next = sym (h.next later ∙ ap (λ found. unwrap_or found committed) (least_from-free used n committed below is))

      same : counted u word n ≡ record u { next = word % 2 ^ 32 }
      same =
          cond-false (word == no_access_word) u (if n == u.next then record u { next = word % 2 ^ 32 } else record u { count = u.count + 1; greatest = n })
          (ne_eqb word no_access_word (λ e. omega (arith, e, links, most, few)))
          ∙ cond-true (n == u.next) (record u { next = word % 2 ^ 32 }) (record u { count = u.count + 1; greatest = n }) (eq-eqb n u.next here_next)

  -- one that is not committed
  closed-step : used n ≡ false → committed ≤ n → word ≡ no_access_word → IsUsage used committed n u → IsUsage used committed (suc n) (counted u word n)
  closed-step is past closed h =
      subst (IsUsage used committed (suc n)) (sym same) (record {
        count = omega (arith, h.count, here);
        greatest = h.greatest ∙ sym (ap (λ o. unwrap_or o 0) (ap (λ (b : Bool). if b then Some n else greatest_below used n) is));
        first = λ e. absurd (omega (arith, e));
        next = λ later. h.next (omega (arith, past, some)) ∙ ap (λ found. unwrap_or found committed) (least_from-end used n committed past ∙ sym (least_from-end used (suc n) committed (omega (arith, past))));
      })
    where
      here : one_if (used n) ≡ 0
      here = ap one_if is

      same : counted u word n ≡ u
      same = cond-true (word == no_access_word) u (if n == u.next then record u { next = word % 2 ^ 32 } else record u { count = u.count + 1; greatest = n }) (eq-eqb word no_access_word closed)

module _ (s : Table) (h : IsSound s) (none : s.cycle ≡ None) (small : AreSmall s) (p : Space) (entry : ℕ → ℕ) (freelist committed : ℕ) (shows : SpaceShows s p entry freelist committed) where
  committed-some : 1 ≤ committed
  committed-some = let first = shows.used 0 (h.used.first p) in omega (arith, first)

  committed-few : committed < 2 ^ 32
  committed-few = omega (arith, shows.within, small.few p)

  no_entry : (q : Space) (i : ℕ) → entry_at s q i ≡ None
  no_entry External i = ap (λ o. entries_in o i) none
  no_entry Trusted i = refl

  -- a used index has a word that is not that of an index that is not committed
  used-word : (i : ℕ) → s.used p i ≡ true → entry i ≢ no_access_word
  used-word i is = elim (eqb_tells i 0) [
    | inl e ↦ λ bad. let null : entry i ≡ 0 = ap entry e.1 ∙ shows.null in omega (arith, bad, null)
    | inr e ↦ by e.1 (s.cells p i) refl
  ]
    where
      kind-apart : (w : ℕ) (m : Bool) → IsKind w true false m → w ≢ no_access_word
      kind-apart w m kind = λ e. both_ways (is_cell_word w) (ap is_cell_word e) kind.is_cell

      by : i ≢ 0 → (found : Option Cell) → s.cells p i ≡ found → entry i ≢ no_access_word
      by apart None stands =
          let empty = shows.empty i (record { used = is; later = omega (arith, apart); no_cell = stands; no_entry = no_entry p i }) in
          λ bad. omega (arith, bad, empty.1, empty.2)
      by apart (Some cell) stands =
          let there = shows.cells i cell stands in
          kind-apart (entry i) there.0 (subst (λ w. IsKind w true false there.0) (sym there.1) (cell-kind cell there.0 (h.cells.tags p i cell stands)))

  head-is : freelist % 2 ^ 32 ≡ next_free (s.used p) 1 committed
  head-is =
      let most : next_free (s.used p) 1 committed ≤ committed = next_free-le (s.used p) 1 committed in
      omega (arith, shows.list, most, committed-few)

  pub IsUsage-shown : (n : ℕ) → n ≤ limit_of s p → IsUsage (s.used p) committed n (usage_of entry (freelist % 2 ^ 32) n)
  IsUsage-shown zero within = record { count = refl; greatest = refl; first = λ e. head-is; next = λ later. absurd (omega (arith, later)) }
  IsUsage-shown (suc n) within =
      let before = IsUsage-shown n (omega (arith, within)) in
      let u = usage_of entry (freelist % 2 ^ 32) n in
      elim (cases_Bool (s.used p n)) [
        | inl is ↦ used-step (s.used p) committed n u (entry n) (h.used.first p) committed-some committed-few is (shows.used n is) (used-word n is) before
        | inr is ↦ elim (cases_lt n committed) [
          | inl less ↦ free-step (s.used p) committed n u (entry n) (h.used.first p) committed-some committed-few is less (shows.free n (later n is) less is) before
          | inr more ↦ closed-step (s.used p) committed n u (entry n) (h.used.first p) committed-some committed-few is more (shows.closed n more (omega (arith, within))) before
        ]
      ]
    where
      later : (i : ℕ) → s.used p i ≡ false → 1 ≤ i
      later i unused = elim (eqb_tells i 0) [
        | inl e ↦ absurd (both_ways (s.used p 0) (ap (s.used p) (sym e.1) ∙ unused) (h.used.first p))
        | inr e ↦ omega (arith, e.1)
      ]

-- there are at most as many as the greatest one allows
count-greatest : (set : ℕ → Bool) (n : ℕ) → count_below set n ≤ unwrap_or (greatest_below set n) 0 + 1
count-greatest set zero = omega arith
count-greatest set (suc n) = elim (cases_Bool (set n)) [
  | inl is ↦
      let most : count_below set (suc n) ≤ suc n = count_below-le set (suc n) in
      let found : unwrap_or (greatest_below set (suc n)) 0 ≡ n = ap (λ (b : Bool). unwrap_or (if b then Some n else greatest_below set n) 0) is in
      omega (arith, most, found)
  | inr is ↦
      let before = count-greatest set n in
      let here : one_if (set n) ≡ 0 = ap one_if is in
      let found : unwrap_or (greatest_below set (suc n)) 0 ≡ unwrap_or (greatest_below set n) 0 = ap (λ (b : Bool). unwrap_or (if b then Some n else greatest_below set n) 0) is in
      omega (arith, before, here, found)
]

-- what the start of a cycle decides by
pub record IsUsageOf (s : Table) (sizes : Sizes) (u : Usage) : Type 0 where
  pub area : (policy : Policy) → area_start policy (1 + u.greatest / sizes.seg) u.count sizes.seg ≡ area_of s policy
  pub within : (1 + u.greatest / sizes.seg) * sizes.seg ≤ sizes.seg * sizes.ext
  pub few : sizes.seg * sizes.ext ≤ 65536
  pub below : u.greatest < 65536
  pub some : 1 ≤ u.count
  pub fits : u.count ≤ (1 + u.greatest / sizes.seg) * sizes.seg

abbrev usage_in : List ℕ → Sizes → Usage
usage_in words sizes = usage_of (entries_from words (32 + 8 * sizes.objects)) (slice_index words 0 % 2 ^ 32) (sizes.seg * sizes.ext)

IsUsageOf-shown : (s : Table) (words : List ℕ) → IsSound s → s.cycle ≡ None → AreSmall s → Shows words s → IsUsageOf s s.sizes (usage_in words s.sizes)
IsUsageOf-shown s words h none small shows = record {
  area = λ policy. ap₂ (λ segs count. area_start policy segs count s.sizes.seg) (ap (λ g. 1 + g / s.sizes.seg) is.greatest) is.count;
  within = subst (λ g. (1 + g / s.sizes.seg) * s.sizes.seg ≤ limit_of s External) (sym (is.greatest ∙ ap (λ o. unwrap_or o 0) found.1))
      (segments-le used s.sizes.seg s.sizes.seg s.sizes.ext found.0 refl small.seg found.1);
  few = small.few External;
  below =
      let less = greatest_below-lt used limit found.0 found.1 in
      let same : u.greatest ≡ found.0 = is.greatest ∙ ap (λ o. unwrap_or o 0) found.1 in
      omega (arith, less, same, small.few External);
  some = let more = count_below-some used limit 0 (small.some External) (h.used.first External) in omega (arith, is.count, more);
  fits = let most = count-greatest used limit in fits u.count u.greatest s.sizes.seg small.seg (omega (arith, is.count, is.greatest, most));
}
  where
    used : ℕ → Bool
    used = s.used External

    limit : ℕ
    limit = limit_of s External

    u : Usage
    u = usage_in words s.sizes

    is : IsUsage used shows.external.0 limit u
    is = IsUsage-shown s h none small External (entries_from words (32 + 8 * s.sizes.objects)) (slice_index words 0) shows.external.0 shows.external.1 limit (omega arith)

    found : (g : ℕ) × (greatest_below used limit ≡ Some g)
    found = IsSome-value (greatest_below used limit) (greatest_below-some used limit 0 (small.some External) (h.used.first External))

    fits : (count g seg : ℕ) → 1 ≤ seg → count ≤ g + 1 → count ≤ (1 + g / seg) * seg
    fits count g seg one most = omega arith

pub IsUsageOf-outside : (s : Table) (words : List ℕ) (sizes : Sizes) → IsOutside s words sizes → IsUsageOf s sizes (usage_in words sizes)
IsUsageOf-outside s words sizes h =
    subst (λ (z : Sizes). IsUsageOf s z (usage_in words z)) h.same (IsUsageOf-shown s words h.sound h.none h.small h.shows)
