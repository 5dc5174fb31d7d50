-- Words of visible bytes: none has a space or an end of line, and so lines and texts of them are split where they
-- were joined.
use Rattle.std.proofs.Common.{◌≡◌, ℕ, ◌==◌, ◌<◌, ◌≤◌, nat_lt, Bool, true, false, ◌&&◌, List, [], ◌∷◌, ◌++◌, refl, ◌∙◌, ap, arith}
use Rattle.std.specs.List.{All}
use Rattle.std.proofs.lemmas.Grind.{common_steps}
use Rattle.std.proofs.lemmas.Bool.Decides.{nat_tests}
use Rattle.std.proofs.lemmas.List.{append-nil}
use Rattle.std.proofs.lemmas.List.Elements.{All-nil, All-cons, All-append}
use Rattle.std.proofs.lemmas.List.Splits.{slice_split_none, slice_split_at}
use Rattle.script_reader.specs.Spelling.{words, pieces}
use Rattle.script_reader.specs.Canonical.{spaced}

-- visible bytes
abbrev pub is_ink : List ℕ → Bool
is_ink [] = true
is_ink (byte ∷ bytes) = nat_lt 32 byte && is_ink bytes

abbrev pub are_ink : List (List ℕ) → Bool
are_ink [] = true
are_ink (word ∷ words) = is_ink word && are_ink words

pub and-left : (a b : Bool) → a && b ≡ true → a ≡ true
and-left true b h = refl
and-left false b h = h

pub and-right : (a b : Bool) → a && b ≡ true → b ≡ true
and-right true b h = h
and-right false b h = absurd cc

pub both : (a b : Bool) → a ≡ true → b ≡ true → a && b ≡ true
both a b p q = rw p q

pub ink-append : (a b : List ℕ) → is_ink a ≡ true → is_ink b ≡ true → is_ink (a ++ b) ≡ true
ink-append [] b p q = q
ink-append (x ∷ xs) b p q =
    both (nat_lt 32 x) (is_ink (xs ++ b)) (and-left (nat_lt 32 x) (is_ink xs) p)
    (ink-append xs b (and-right (nat_lt 32 x) (is_ink xs) p) q)

pub ink-byte : (x : ℕ) → 32 < x → is_ink (x ∷ []) ≡ true
ink-byte x h = let t : nat_lt 32 x ≡ true = grind (arith, common_steps, nat_tests) in rw t refl

-- none of the bytes is this one
abbrev pub Without : ℕ → List ℕ → Type 0
Without y bytes = All (λ byte. (byte == y) ≡ false) bytes

pub without : (y : ℕ) (w : List ℕ) → y ≤ 32 → is_ink w ≡ true → Without y w
without y [] h i = All-nil (λ byte. (byte == y) ≡ false)
without y (x ∷ xs) h i =
    let t : nat_lt 32 x ≡ true = and-left (nat_lt 32 x) (is_ink xs) i in
    let e : (x == y) ≡ false = grind (arith, common_steps, nat_tests) in
    All-cons (λ byte. (byte == y) ≡ false) x xs e (without y xs h (and-right (nat_lt 32 x) (is_ink xs) i))

pub spaced-without : (ws : List (List ℕ)) → are_ink ws ≡ true → Without 10 (spaced ws)
spaced-without [] h = All-nil (λ byte. (byte == 10) ≡ false)
spaced-without (w ∷ ws) h =
    All-append (λ byte. (byte == 10) ≡ false) (32 ∷ w) (spaced ws)
    (All-cons (λ byte. (byte == 10) ≡ false) 32 w refl
    (without 10 w (omega arith) (and-left (is_ink w) (are_ink ws) h)))
    (spaced-without ws (and-right (is_ink w) (are_ink ws) h))

-- the words of a line are those that were joined
pub words-spaced : (w : List ℕ) (ws : List (List ℕ)) → is_ink w ≡ true → are_ink ws ≡ true
    → words (w ++ spaced ws) ≡ w ∷ ws
words-spaced w [] i h =
    rw (append-nil w) (slice_split_none (λ byte. byte == 32) w (without 32 w (omega arith) i))
words-spaced w (v ∷ vs) i h =
    slice_split_at (λ byte. byte == 32) w 32 (v ++ spaced vs) (without 32 w (omega arith) i) refl
    ∙ ap (λ rest. w ∷ rest)
    (words-spaced v vs (and-left (is_ink v) (are_ink vs) h) (and-right (is_ink v) (are_ink vs) h))

-- the first line of a text
pub pieces-line : (line rest : List ℕ) → Without 10 line → pieces (line ++ 10 ∷ rest) ≡ line ∷ pieces rest
pieces-line line rest h = slice_split_at (λ byte. byte == 10) line 10 rest h refl

-- a line of joined words, and its end of line
pub pieces-spaced : (w : List ℕ) (ws : List (List ℕ)) (rest : List ℕ) → is_ink w ≡ true → are_ink ws ≡ true
    → pieces ((w ++ spaced ws) ++ 10 ∷ rest) ≡ (w ++ spaced ws) ∷ pieces rest
pieces-spaced w ws rest i h =
    pieces-line (w ++ spaced ws) rest
    (All-append (λ byte. (byte == 10) ≡ false) w (spaced ws) (without 10 w (omega arith) i) (spaced-without ws h))
