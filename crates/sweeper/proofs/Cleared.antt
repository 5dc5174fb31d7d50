-- A list in which the words up to a place are mapped.
use Rattle.std.proofs.Common.{◌≡◌, ℕ, zero, suc, ◌+◌, List, [], ◌∷◌, ◌++◌, map, take, drop, get_or, refl, ap, ◌∙◌, arith}
use Rattle.std.specs.Prelude.{slice_set}
use lib.Lanes.{put_chunk, chunk}

pub put_first : (f : ℕ → ℕ) (ws : List ℕ) (n : ℕ) → put_chunk 0 ws (map f (take n ws)) ≡ map f (take n ws) ++ drop n ws
put_first f [] zero = refl
put_first f [] (suc n) = refl
put_first f (x ∷ ws) zero = refl
put_first f (x ∷ ws) (suc n) = ap (λ (t : List ℕ). f x ∷ t) (put_first f ws n)

-- the next n words are mapped too
pub put_next : (f : ℕ → ℕ) (ws : List ℕ) (a n m : ℕ) → m ≡ a + n → put_chunk a (map f (take a ws) ++ drop a ws) (map f (chunk a n (map f (take a ws) ++ drop a ws))) ≡ map f (take m ws) ++ drop m ws
put_next f ws zero n m e = put_first f ws n ∙ ap (λ k. map f (take k ws) ++ drop k ws) (omega (arith, e))
put_next f [] (suc a) n zero e = refl
put_next f [] (suc a) n (suc m) e = refl
put_next f (x ∷ ws) (suc a) n zero e = absurd (omega arith)
put_next f (x ∷ ws) (suc a) n (suc m) e = ap (λ (t : List ℕ). f x ∷ t) (put_next f ws a n m (omega arith))

pub lanes_next : (f : ℕ → ℕ) (ws now new : List ℕ) (a : ℕ) → now ≡ map f (take a ws) ++ drop a ws → new ≡ put_chunk a now (map f (chunk a 8 now)) → new ≡ map f (take (a + 8) ws) ++ drop (a + 8) ws
lanes_next f ws now new a e d = d ∙ (ap (λ (xs : List ℕ). put_chunk a xs (map f (chunk a 8 xs))) e ∙ put_next f ws a 8 (a + 8) refl)

pub set_one : (f : ℕ → ℕ) (xs : List ℕ) (a : ℕ) → slice_set xs a (f (get_or xs a 0)) ≡ put_chunk a xs (map f (chunk a 1 xs))
set_one f [] zero = refl
set_one f [] (suc a) = refl
set_one f (x ∷ []) zero = refl
set_one f (x ∷ (y ∷ xs)) zero = refl
set_one f (x ∷ xs) (suc a) = ap (λ (t : List ℕ). x ∷ t) (set_one f xs a)

pub word_next : (f : ℕ → ℕ) (ws now : List ℕ) (a : ℕ) → now ≡ map f (take a ws) ++ drop a ws → slice_set now a (f (get_or now a 0)) ≡ map f (take (a + 1) ws) ++ drop (a + 1) ws
word_next f ws now a e = set_one f now a ∙ (ap (λ (xs : List ℕ). put_chunk a xs (map f (chunk a 1 xs))) e ∙ put_next f ws a 1 (a + 1) refl)
