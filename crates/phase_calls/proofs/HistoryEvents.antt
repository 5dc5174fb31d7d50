-- What the events of a legal history say of binds, and how the events of each number make up what is counted in a history.
use Rattle.std.proofs.Common.{◌≡◌, ℕ, zero, suc, ◌+◌, ◌<◌, ◌==◌, Bool, true, false, List, [], ◌∷◌, refl, sym, ap, ◌∙◌, inl, inr, arith}
use Rattle.std.specs.Prelude.{◌⊎◌, if◌then◌else◌}
use Rattle.std.specs.List.{count_by}
use Rattle.std.proofs.lemmas.Bool.Decides.{eqb_tells}
use Rattle.std.proofs.lemmas.List.Sums.{sum_by-cons}
use Rattle.plain_table.specs.declared.events.Act.{Act}
use Rattle.plain_table.specs.declared.events.Act.TheVariants.{Bind}
use Rattle.plain_table.specs.declared.events.Event.{Event}
use Rattle.plain_table.specs.declared.reports.Reply.{Reply}
use Rattle.plain_table.specs.declared.reports.Reply.TheVariants as reply
use Rattle.plain_table.specs.Belongs.{events_by}
use Rattle.plain_table.specs.Table.{Table}
use Rattle.plain_table.specs.Rows.{row}
use Rattle.plain_table.specs.History.{IsLegalHistory, next}
use Rattle.entry_base.specs.Lists.{Each}
use Rattle.phase_calls.proofs.ShapeEvents.{BindsSay, SaysBind}

SaysBind-row : (s : Table) (b : ℕ) (a : Act) (said : Reply) → said ≡ (row s b a).reply → SaysBind a said
SaysBind-row s b (Bind f word) said is = by (s.words f == 0) is
  where
    by : (none : Bool) → said ≡ (if none then reply.Ok else reply.Taken (s.words f)) → (said ≡ reply.Ok) ⊎ ((found : ℕ) × (said ≡ reply.Taken found))
    by true is = inl is
    by false is = inr (s.words f, is)
SaysBind-row s b _ said is = tt

-- in a legal history each bind says ok or taken
pub BindsSay-legal : (s : Table) (es : List Event) → IsLegalHistory s es → Each BindsSay es
BindsSay-legal s [] legal = tt
BindsSay-legal s (e ∷ es) legal = (SaysBind-row s e.by e.act e.said legal.0.1, BindsSay-legal (next s e) es legal.1)

-- what holds of each event holds of those of a number
pub Each-events_by : (P : Event → Type 0) (b : ℕ) (es : List Event) → Each P es → Each P (events_by b es)
Each-events_by P b [] each = tt
Each-events_by P b (e ∷ es) each = by (e.by == b) (Each-events_by P b es each.1)
  where
    by : (own : Bool) → Each P (events_by b es) → Each P (if own then e ∷ events_by b es else events_by b es)
    by true rest = (each.0, rest)
    by false rest = rest

-- f of each number below n, added up
abbrev pub sum_below : (ℕ → ℕ) → ℕ → ℕ
sum_below f zero = 0
sum_below f (suc n) = sum_below f n + f n

-- one more at a number
at_number : (f : ℕ → ℕ) (m k b : ℕ) → (if m == b then k + f b else f b) ≡ (if m == b then k else 0) + f b
at_number f m k b = by (m == b)
  where
    by : (own : Bool) → (if own then k + f b else f b) ≡ (if own then k else 0) + f b
    by true = refl
    by false = omega arith

sum_below-beyond : (f : ℕ → ℕ) (m k n : ℕ) → (n < suc m) → sum_below (λ b. if m == b then k + f b else f b) n ≡ sum_below f n
sum_below-beyond f m k zero beyond = refl
sum_below-beyond f m k (suc n) beyond =
    let rest = sum_below-beyond f m k n (omega arith) in
    let here = at_number f m k n in
    let apart : (if m == n then k else 0) ≡ 0 = elim (eqb_tells m n) [
      | inl t ↦ let e = t.1 in absurd (omega (arith, e, beyond))
      | inr t ↦ ap (λ (own : Bool). if own then k else 0) t.0
    ] in
    omega (arith, rest, here, apart)

sum_below-more : (f : ℕ → ℕ) (m k n : ℕ) → m < n → sum_below (λ b. if m == b then k + f b else f b) n ≡ k + sum_below f n
sum_below-more f m k zero below = absurd (omega (arith, below))
sum_below-more f m k (suc n) below =
    let here = at_number f m k n in
    elim (eqb_tells m n) [
      | inl t ↦
          let e = t.1 in
          let rest = sum_below-beyond f m k n (omega (arith, e)) in
          let own : (if m == n then k else 0) ≡ k = ap (λ (own : Bool). if own then k else 0) t.0 in
          omega (arith, rest, here, own)
      | inr t ↦
          let apart = t.1 in
          let rest = sum_below-more f m k n (omega (arith, below, apart)) in
          let none : (if m == n then k else 0) ≡ 0 = ap (λ (own : Bool). if own then k else 0) t.0 in
          omega (arith, rest, here, none)
    ]

sum_below-same : (f g : ℕ → ℕ) (n : ℕ) → ((b : ℕ) → f b ≡ g b) → sum_below f n ≡ sum_below g n
sum_below-same f g zero same = refl
sum_below-same f g (suc n) same = let rest = sum_below-same f g n same in let here = same n in omega (arith, rest, here)

module _ (p : Event → Bool) where
  count_by-first : (b : ℕ) (e : Event) (es : List Event) →
      count_by p (events_by b (e ∷ es)) ≡ (if e.by == b then (if p e then 1 else 0) + count_by p (events_by b es) else count_by p (events_by b es))
  count_by-first b e es = by (e.by == b)
    where
      by : (own : Bool) → count_by p (if own then e ∷ events_by b es else events_by b es)
          ≡ (if own then (if p e then 1 else 0) + count_by p (events_by b es) else count_by p (events_by b es))
      by true = sum_by-cons (λ (e : Event). if p e then 1 else 0) e (events_by b es)
      by false = refl

  -- what is counted in a history of numbers below n is what is counted in the events of each of them
  pub count_by-numbers : (n : ℕ) (es : List Event) → Each (λ (e : Event). e.by < n) es →
      count_by p es ≡ sum_below (λ b. count_by p (events_by b es)) n
  count_by-numbers n [] each = sum_below-none n
    where
      sum_below-none : (n : ℕ) → 0 ≡ sum_below (λ b. 0) n
      sum_below-none zero = refl
      sum_below-none (suc n) = let rest = sum_below-none n in omega (arith, rest)
  count_by-numbers n (e ∷ es) each =
      sum_by-cons (λ (e : Event). if p e then 1 else 0) e es
      ∙ ap (λ (m : ℕ). (if p e then 1 else 0) + m) (count_by-numbers n es each.1)
      ∙ sym (sum_below-more (λ b. count_by p (events_by b es)) e.by (if p e then 1 else 0) n each.0)
      ∙ sym (sum_below-same _ _ n (λ b. count_by-first b e es))
