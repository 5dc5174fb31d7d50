-- The last pass goes one index further down.
use Rattle.std.proofs.Common.{◌≡◌, ◌≢◌, ◌⊎◌, ◌+◌, ◌-◌, ◌^◌, ◌<◌, ◌≤◌, ℕ, Bool, true, false, not, List, length, slice_index, slice_set, refl, sym, ap, ap₂, subst, ◌∙◌, inl, inr, arith, get_or-set_same, get_or-set_other, length-set, lt-ltb, le-ltb}
use Rattle.std.specs.Prelude.{nat_le, nat_lt, ◌&&◌, ◌||◌, ◌==◌, if◌then◌else◌, unwrap_or}
use Rattle.std.proofs.lemmas.Bool.{cases_lt, cases_Bool}
use Rattle.std.proofs.lemmas.Bool.Decides.{eqb_tells}
use Rattle.plain_table.specs.Area.{count_below}
use Rattle.plain_table.specs.Table.{least_from}
use Rattle.plain_table.specs.Words.{free_word, no_access_word, next_free}
use Rattle.plain_table.proofs.LeastFree.{least_from-used, least_from-free, least_from-end}
use Rattle.word_laws.specs.Kinds.{is_marked_word, is_cell_word}
use Rattle.sweeper.specs.Pass.{stays, used_after, free_after, freed_after, moved_after, word_after, entries_from, IsPassAt, IsTallyAt, IsCounted, IsCountedIn, IsFew, Tally, one_if}
use Rattle.sweeper.proofs.Counts.{IsCounted-step}

-- the word that is written, by the word that stands there and the head of the list after it
abbrev pub written : (from committed i word head : ℕ) → ℕ
written from committed i word head =
    if nat_le committed i then no_access_word
    else (if nat_lt i from && is_marked_word word then word - 2 ^ 62 else free_word head)

pub IsPassAt-step : (old now : List ℕ) (base limit from committed n i head w : ℕ) → n ≡ i + 1 → i < limit → base + limit ≤ length old →
    head ≡ next_free (used_after (entries_from old base) from) n committed →
    w ≡ written from committed i (slice_index now (base + i)) head →
    IsPassAt old now base limit from committed n → IsPassAt old (slice_set now (base + i) w) base limit from committed i
IsPassAt-step old now base limit from committed n i head w next below inside is_head is h = record {
  long = length-set now (base + i) w ∙ h.long;
  done = done;
  rest = λ place out. get_or-set_other now (base + i) place w 0 (apart place out) ∙ h.rest place (wider place out);
}
  where
    place_in : base + i < length now
    place_in = omega (arith, below, inside, h.long)

    here : w ≡ word_after (entries_from old base) from committed i
    here =
        is ∙ ap₂ (written from committed i) (h.rest (base + i) (inl (omega (arith, next)))) (is_head ∙ ap (λ k. next_free (used_after (entries_from old base) from) k committed) next)

    done : (k : ℕ) → i ≤ k → k < limit → slice_index (slice_set now (base + i) w) (base + k) ≡ word_after (entries_from old base) from committed k
    done k from_i to = elim (eqb_tells i k) [
      | inl e ↦ subst (λ j. slice_index (slice_set now (base + i) w) (base + j) ≡ word_after (entries_from old base) from committed j) e.1
          (get_or-set_same now (base + i) w 0 place_in ∙ here)
      | inr e ↦ get_or-set_other now (base + i) (base + k) w 0 (λ eq. omega (arith, eq, e.1)) ∙ h.done k (omega (arith, next, from_i, e.1)) to
    ]

    apart : (place : ℕ) → (place < base + i) ⊎ (base + limit ≤ place) → place ≢ base + i
    apart place out = elim out [ inl low ↦ λ e. omega (arith, e, low) | inr high ↦ λ e. omega (arith, e, high, below) ]

    wider : (place : ℕ) → (place < base + i) ⊎ (base + limit ≤ place) → (place < base + n) ⊎ (base + limit ≤ place)
    wider place out = elim out [ inl low ↦ inl (omega (arith, low, next)) | inr high ↦ inr high ]

-- the first free index, one index further down
abbrev head_by : Bool → Bool → ℕ → ℕ → ℕ
head_by committed stay index head = if committed && not stay then index else head

next_free-step : (used : ℕ → Bool) (committed n i head now : ℕ) (stay : Bool) → n ≡ i + 1 → used i ≡ stay →
    head ≡ next_free used n committed → now ≡ head_by (nat_lt i committed) stay i head → now ≡ next_free used i committed
next_free-step used committed n i head now stay next is was by = elim (cases_lt i committed) [
  | inl less ↦ elim (cases_Bool stay) [
    | inl t ↦ by ∙ ap₂ (λ a b. head_by a b i head) (lt-ltb i committed less) t ∙ was
        ∙ ap (λ k. unwrap_or (least_from used k (committed - k)) committed) next
        ∙ ap (λ found. unwrap_or found committed) (sym (least_from-used used i committed less (is ∙ t)))
    | inr t ↦ by ∙ ap₂ (λ a b. head_by a b i head) (lt-ltb i committed less) t
        ∙ ap (λ found. unwrap_or found committed) (sym (least_from-free used i committed less (is ∙ t)))
  ]
  | inr more ↦ by ∙ ap (λ a. head_by a stay i head) (le-ltb i committed more) ∙ was
      ∙ ap (λ found. unwrap_or found committed) (least_from-end used n committed (omega (arith, more, next)) ∙ sym (least_from-end used i committed more))
]

zero_none : (i : ℕ) → 1 ≤ i → (i == 0) ≡ false
zero_none i later = elim (eqb_tells i 0) [ inl e ↦ absurd (omega (arith, e.1, later)) | inr e ↦ e.0 ]

pub IsTallyAt-step : (entry : ℕ → ℕ) (limit from committed n i : ℕ) (was now : Tally) → n ≡ i + 1 → 1 ≤ i →
    IsCountedIn was now (stays entry from i) (is_cell_word (entry i)) (moved_after entry from i) (nat_lt i committed) i →
    IsTallyAt entry limit from committed n was → IsTallyAt entry limit from committed i now
IsTallyAt-step entry limit from committed n i was now next later by h = record {
  first = next_free-step (used_after entry from) committed n i was.head now.head (stays entry from i) next used h.first by.first;
  many = many;
  none = λ past. by.many ∙ ap₂ (λ (m : ℕ) (b : Bool). m + one_if (b && not (stays entry from i))) (h.none (omega (arith, past, next))) (le-ltb i committed past);
  stayed = IsCounted-step (stays entry from) limit n i was.kept now.kept next by.stayed h.stayed;
  gone = IsCounted-step (freed_after entry from) limit n i was.freed now.freed next by.gone h.gone;
  forwarded = IsCounted-step (moved_after entry from) limit n i was.moved now.moved next by.forwarded h.forwarded;
}
  where
    used : used_after entry from i ≡ stays entry from i
    used = ap (λ b. b || stays entry from i) (zero_none i later)

    many : i ≤ committed → IsCounted (free_after entry from) committed i now.len
    many within = elim (cases_lt i committed) [
      | inl less ↦
          IsCounted-step (free_after entry from) committed n i was.len now.len next
          (by.many ∙ ap₂ (λ (b : Bool) (u : Bool). was.len + one_if (b && not u)) (lt-ltb i committed less) (sym used))
          (h.many (omega (arith, less, next)))
      | inr more ↦
          let nothing : now.len ≡ 0 = by.many ∙ ap₂ (λ (m : ℕ) (b : Bool). m + one_if (b && not (stays entry from i))) (h.none (omega (arith, more, next))) (le-ltb i committed more) in
          let same : i ≡ committed = omega (arith, within, more) in
          let counts : count_below (free_after entry from) i ≡ count_below (free_after entry from) committed = ap (count_below (free_after entry from)) same in
          omega (arith, nothing, counts)
    ]

one_if-few : (b : Bool) → one_if b ≤ 1
one_if-few true = omega arith
one_if-few false = omega arith

pub IsFew-step : (limit n i : ℕ) (was now : Tally) (stay cell moved committed : Bool) → n ≡ i + 1 →
    IsCountedIn was now stay cell moved committed i → IsFew limit n was → IsFew limit i now
IsFew-step limit n i was now stay cell moved committed next by h = record {
  len_few = omega (arith, by.many, h.len_few, next, one_if-few (committed && not stay));
  kept_few = omega (arith, by.stayed, h.kept_few, next, one_if-few stay);
  freed_few = omega (arith, by.gone, h.freed_few, next, one_if-few (cell && not stay));
  moved_few = omega (arith, by.forwarded, h.moved_few, next, one_if-few moved);
}

-- nothing is done and tally at the limit
pub IsPassAt-start : (old : List ℕ) (base limit from committed : ℕ) → IsPassAt old old base limit from committed limit
IsPassAt-start old base limit from committed = record {
  long = refl;
  done = λ k past to. absurd (omega (arith, past, to));
  rest = λ place out. refl;
}

pub IsTallyAt-start : (entry : ℕ → ℕ) (limit from committed : ℕ) → committed ≤ limit →
    IsTallyAt entry limit from committed limit (record { head = committed; len = 0; kept = 0; freed = 0; moved = 0 })
IsTallyAt-start entry limit from committed within = record {
  first = ap (λ found. unwrap_or found committed) (sym (least_from-end (used_after entry from) limit committed within));
  many = λ past. ap (λ k. 0 + count_below (free_after entry from) k) (same past) ∙ nothing (count_below (free_after entry from) committed);
  none = λ past. refl;
  stayed = nothing (count_below (stays entry from) limit);
  gone = nothing (count_below (freed_after entry from) limit);
  forwarded = nothing (count_below (moved_after entry from) limit);
}
  where
    same : limit ≤ committed → limit ≡ committed
    same past = omega (arith, past, within)

    nothing : (n : ℕ) → 0 + n ≡ n
    nothing n = omega arith
