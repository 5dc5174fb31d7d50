-- What a thief took: the chunks of its numbers, with their objects.
use Rattle.std.proofs.Common.{◌≡◌, ◌⊎◌, ℕ, suc, ◌+◌, ◌≤◌, if◌then◌else◌, Bool, List, [], ◌∷◌, refl, sym, ap, subst, ◌∙◌, inl, inr, arith}
use Rattle.std.proofs.lemmas.Bool.{cases_lt}
use Rattle.std.proofs.lemmas.Bool.Decides.{eqb_tells}
use mathlib.Core.Option.{some-injective}
use Rattle.entry_base.specs.declared.chunks.Chunk.{Chunk}
use Rattle.entry_base.specs.Lists.{count_in}
use Rattle.entry_base.proofs.Sums.{count_append}
use Rattle.chunk_pool.specs.declared.claims.Claims.{Claims}
use Rattle.chunk_pool.specs.Claims.{IsGiven}
use Rattle.marker.specs.Steals.{TookAll, objects_of}

-- a claim changes neither the chunks of the pool nor its thieves, nor how many of these the thief is
pub record SamePool (t u : Claims) : Type 0 where
  pub given : u.given ≡ t.given
  pub thieves : u.thieves ≡ t.thieves
  pub joined : u.joined ≡ t.joined

pub TookAll-pool : (t u : Claims) (taken : List Chunk) → TookAll t taken u → SamePool t u
TookAll-pool t u [] all = record { given = ap (λ (x : Claims). x.given) all; thieves = ap (λ (x : Claims). x.thieves) all; joined = ap (λ (x : Claims). x.joined) all }
TookAll-pool t u (chunk ∷ chunks) (mid, took, rest) = let later = TookAll-pool mid u chunks rest in record {
  given = later.given ∙ ap (λ (x : Claims). x.given) took.after;
  thieves = later.thieves ∙ ap (λ (x : Claims). x.thieves) took.after;
  joined = later.joined ∙ ap (λ (x : Claims). x.joined) took.after;
}

-- a number that a thief took and had not before: the objects of its chunk are among those of the chunks taken
pub TookAll-objects : (k : ℕ) (chunk : Chunk) (t u : Claims) (taken : List Chunk) → TookAll t taken u → IsGiven t.given k chunk → 1 ≤ count_in k u.taken
    → (1 ≤ count_in k t.taken) ⊎ ((o : ℕ) → count_in o chunk.objects.items ≤ count_in o (objects_of taken))
TookAll-objects k chunk t u [] all given has = inl (subst (λ (x : Claims). 1 ≤ count_in k x.taken) all has)
TookAll-objects k chunk t u (first ∷ others) (mid, took, rest) given has =
    elim (TookAll-objects k chunk mid u others rest (subst (λ xs. IsGiven xs k chunk) (sym (ap (λ (x : Claims). x.given) took.after)) given) has) [
      | inl before ↦ elim (eqb_tells k took.number) [
        | inl same ↦ inr (λ o.
            let is = ap (λ (c : Chunk). count_in o c.objects.items) (some-injective chunk first (sym given ∙ subst (λ n. IsGiven t.given n first) (sym same.1) took.given)) in
            let parts = count_append o first.objects.items (objects_of others) in
            omega (arith, is, parts))
        | inr apart ↦ inl
            (let is = ap (λ (x : Claims). count_in k x.taken) took.after in
            let parts = count_append k t.taken (took.number ∷ []) in
            let none : count_in k (took.number ∷ []) ≡ 0 = ap (λ (b : Bool). (if b then 1 else 0) + 0) apart.0 in
            omega (arith, before, is, parts, none))
      ]
      | inr within ↦ inr (λ o. let w = within o in let parts = count_append o first.objects.items (objects_of others) in omega (arith, w, parts))
    ]

-- an object of some chunks stands in one of them
pub objects_of-some : (o : ℕ) (chunks : List Chunk) → 1 ≤ count_in o (objects_of chunks) → (k : ℕ) × (chunk : Chunk) × IsGiven chunks k chunk × (1 ≤ count_in o chunk.objects.items)
objects_of-some o [] has = absurd (omega (arith, has))
objects_of-some o (chunk ∷ chunks) has = elim (cases_lt 0 (count_in o chunk.objects.items)) [
  | inl here ↦ (0, chunk, refl, omega (arith, here))
  | inr none ↦
      let rest = objects_of-some o chunks (let parts = count_append o chunk.objects.items (objects_of chunks) in omega (arith, has, none, parts)) in
      (suc rest.0, rest.1, rest.2, rest.3)
]
