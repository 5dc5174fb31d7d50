-- One link of a walk.
use Rattle.std.proofs.Common.{◌≡◌, ℕ, suc, ◌+◌, ◌-◌, ◌<◌, ◌≤◌, ◌%◌, ◌^◌, List, length, slice_index, get_or, sym, ap, ◌∙◌, arith, inl, inr, ⊎_elim, set, length-set, get_or-set_other, get_or-set_same}
use Rattle.std.proofs.lemmas.List.{get_or_past}
use Rattle.std.proofs.lemmas.Bool.{cases_lt}
use Rattle.std.specs.Prelude.{◌⊎◌}
use Rattle.entry_base.specs.Closing.{walk, IsClosedFrom}

pub walk_more : (words : List ℕ) (first len link at next : ℕ) → link < len → next ≡ slice_index words (first + at) % 2 ^ 32 → walk words first (len - (link + 1)) next ≡ walk words first (len - link) at
walk_more words first len link at next low is =
    ap (walk words first (len - (link + 1))) is ∙ sym (ap (λ n. walk words first n at) (let e : len - link ≡ suc (len - (link + 1)) = omega arith in e))

pub walk_past : (words : List ℕ) (first at next : ℕ) → length words ≤ first + at → next ≡ 0 → next ≡ slice_index words (first + at) % 2 ^ 32
walk_past words first at next past is = let e : slice_index words (first + at) ≡ 0 = get_or_past words (first + at) 0 past in omega arith

pub record Closing (words : List ℕ) (from to i : ℕ) (now : List ℕ) : Type 0 where
  pub done : IsClosedFrom words from i now
  pub since : from ≤ i
  pub stops : (i ≤ from) ⊎ (i ≤ to)

pub closing_more : (words : List ℕ) (from to i : ℕ) (now : List ℕ) (x : ℕ) → Closing words from to i now → i < to → to ≤ length words → x ≡ 2 ^ 57 → Closing words from to (i + 1) (set now i x)
closing_more words from to i now x c below few is = record {
  done = record {
    long = length-set now i x ∙ c.done.long;
    closed = λ k low high. elim (cases_lt k i) [
      | inl less ↦ get_or-set_other now i k x 0 (omega arith) ∙ c.done.closed k low less
      | inr more ↦ ap (λ n. get_or (set now i x) n 0) (let e : k ≡ i = omega arith in e) ∙ (get_or-set_same now i x 0 (let l = c.done.long in omega arith) ∙ is)
    ];
    other = λ k out. get_or-set_other now i k x 0 (let s = c.since in ⊎_elim (λ (l : k < from). omega arith) (λ (l : i + 1 ≤ k). omega arith) out)
        ∙ c.done.other k (⊎_elim (λ (l : k < from). inl l) (λ (l : i + 1 ≤ k). inr (omega arith)) out);
  };
  since = let s = c.since in omega arith;
  stops = inr (omega arith);
}

pub closing_all : (words : List ℕ) (from to i : ℕ) (now : List ℕ) → Closing words from to i now → to ≤ i → IsClosedFrom words from to now
closing_all words from to i now c done = record {
  long = c.done.long;
  closed = λ k low high. c.done.closed k low (omega arith);
  other = λ k out. c.done.other k (elim (cases_lt k from) [
    | inl less ↦ inl less
    | inr more ↦ inr (⊎_elim (λ (l : k < from). absurd (omega arith)) (λ (l : to ≤ k). ⊎_elim (λ (a : i ≤ from). omega arith) (λ (a : i ≤ to). omega arith) c.stops) out)
  ]);
}
