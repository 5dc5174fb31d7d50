-- Markers that are taken in one after another, and what their thieves took together.
use Rattle.std.proofs.Common.{◌≡◌, ℕ, suc, ◌+◌, ◌||◌, All, Bool, true, false, List, [], ◌∷◌, ◌++◌, length, map, Some, refl, sym, ap, subst, ◌∙◌, arith}
use Rattle.std.proofs.lemmas.List.{length-append}
use Rattle.std.proofs.lemmas.List.Elements.{All-pop}
use Rattle.entry_base.specs.declared.chunks.Chunk.{Chunk}
use Rattle.entry_base.specs.Lists.{count_in, total}
use Rattle.entry_base.proofs.Sums.{count_append, total_append}
use Rattle.chunk_pool.specs.declared.claims.Claims.{Claims}
use Rattle.chunk_pool.specs.Claims.{both, IsWhole, TookEachOnce}
use Rattle.chunk_pool.specs.Thieves.{claims_of}
use Rattle.phases.specs.declared.markers.Marking.{Marking}
use Rattle.phases.specs.Markings.{EachOnce, HaveEnded, SawEnd, all_joined}

-- what holds of all holds of one of them
pub all_there : {A : Type 0} (P : A → Type 0) (xs : List A) (x : A) (rest all : List A) → xs ++ x ∷ rest ≡ all → All P all → P x
all_there {A} P xs x rest all is holds = go xs (subst (All P) (sym is) holds)
  where
    go : (ys : List A) → All P (ys ++ x ∷ rest) → P x
    go [] h = h 0 x (omega arith)
    go (y ∷ ys) h = go ys (λ k d low. h (suc k) d (omega (arith, low)))

pub all_joined-push : (v : Claims) (us : List Claims) (u : Claims) → all_joined v (us ++ u ∷ []) ≡ both (all_joined v us) u
all_joined-push v [] u = refl
all_joined-push v (x ∷ us) u = all_joined-push (both v x) us u

-- thieves of one pool that were taken into one: how many they are, and what they took
module _ (chunks : List Chunk) (thieves : ℕ) where
  pub joined_ones : (v : Claims) (ms : List Marking) → All (λ (m : Marking). SawEnd chunks thieves (claims_of m.thief)) ms
      → (all_joined v (map (λ (m : Marking). claims_of m.thief) ms)).joined ≡ v.joined + length ms
  joined_ones v [] ended = omega arith
  joined_ones v (m ∷ ms) ended =
      let here = (ended 0 m (omega arith)).one in
      let rest = joined_ones (both v (claims_of m.thief)) ms (λ k d low. ended (suc k) d (omega (arith, low))) in
      omega (arith, here, rest)

pub joined_given : (v : Claims) (us : List Claims) → (all_joined v us).given ≡ v.given
joined_given v [] = refl
joined_given v (u ∷ us) = joined_given (both v u) us

pub joined_thieves : (v : Claims) (us : List Claims) → (all_joined v us).thieves ≡ v.thieves
joined_thieves v [] = refl
joined_thieves v (u ∷ us) = joined_thieves (both v u) us

or_true : (a b : Bool) → a ≡ true → (a || b) ≡ true
or_true true b is = refl
or_true false b is = absurd (cc)

pub joined_ended : (v : Claims) (us : List Claims) → v.ended ≡ true → (all_joined v us).ended ≡ true
joined_ended v [] ended = ended
joined_ended v (u ∷ us) ended = joined_ended (both v u) us (or_true v.ended u.ended ended)

pub joined_taken : (k : ℕ) (v : Claims) (ms : List Marking)
    → count_in k (all_joined v (map (λ (m : Marking). claims_of m.thief) ms)).taken ≡ count_in k v.taken + total (λ (m : Marking). count_in k (claims_of m.thief).taken) ms
joined_taken k v [] = omega arith
joined_taken k v (m ∷ ms) =
    let rest = joined_taken k (both v (claims_of m.thief)) ms in
    let both_took = count_append k v.taken (claims_of m.thief).taken in
    omega (arith, rest, both_took)

-- where the markers have all thieves, the one into which they were joined took each chunk once, so they did together
pub joined_once : (chunks : List Chunk) (ms : List Marking) (last : Marking) (w : Claims) → w ≡ all_joined (claims_of last.thief) (map (λ (m : Marking). claims_of m.thief) ms)
    → (IsWhole w → TookEachOnce w) → HaveEnded chunks (ms ++ last ∷ []) → EachOnce chunks (ms ++ last ∷ [])
joined_once chunks ms last w is whole ended k low =
    let took = (whole record { all = all; ended = ap (λ (v : Claims). v.ended) is ∙ joined_ended (claims_of last.thief) others own.end }).each k
    (let same = ap (λ (v : Claims). length v.given) is in let first = ap length (joined_given (claims_of last.thief) others) in let given = ap length own.given in omega (arith, same, first, given, low)) in
    let sum = ap (λ (v : Claims). count_in k v.taken) is in
    let parts = joined_taken k (claims_of last.thief) ms in
    let together = total_append (λ (m : Marking). count_in k (claims_of m.thief).taken) ms (last ∷ []) in
    omega (arith, took, sum, parts, together)
  where
    others : List Claims
    others = map (λ (m : Marking). claims_of m.thief) ms

    own : SawEnd chunks (length (ms ++ last ∷ [])) (claims_of last.thief)
    own = (All-pop (λ (m : Marking). SawEnd chunks (length (ms ++ last ∷ [])) (claims_of m.thief)) (ms ++ last ∷ []) ms (Some last) refl ended.each).1

    before : All (λ (m : Marking). SawEnd chunks (length (ms ++ last ∷ [])) (claims_of m.thief)) ms
    before = (All-pop (λ (m : Marking). SawEnd chunks (length (ms ++ last ∷ [])) (claims_of m.thief)) (ms ++ last ∷ []) ms (Some last) refl ended.each).0

    all : w.joined ≡ w.thieves
    all =
        let a = ap (λ (v : Claims). v.joined) is in
        let b = ap (λ (v : Claims). v.thieves) is in
        let d = joined_ones chunks (length (ms ++ last ∷ [])) (claims_of last.thief) ms before in
        let e = joined_thieves (claims_of last.thief) others in
        let f = own.one in
        let g = own.made in
        let h = length-append ms (last ∷ []) in
        omega (arith, a, b, d, e, f, g, h)
