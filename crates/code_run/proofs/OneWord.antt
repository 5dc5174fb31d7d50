-- The one word of the command line, and the line that is written.
use Rattle.std.proofs.Common.{◌≡◌, ℕ, ◌+◌, ◌*◌, ◌≤◌, List, [], ◌∷◌, map, length, get_or, Result, refl, sym, ap, subst, ◌∙◌, arith, decimal, nat_eq, true, ◌&&◌, eq-eqb}
use lib.Pointwise.{pointwise}
use Rattle.std.specs.Prelude.{Ok}
use Rattle.std.specs.Str.Parse.{ParsesUnsigned}
use Rattle.std.proofs.lemmas.Fmt.{parse-decimal, decimal_injective}
use Rattle.code_steps.specs.declared.view.View.{View}
use Rattle.code_run.specs.declared.run.CodeReport.{CodeReport}
use Rattle.code_run.specs.Runs.{Ran}
use Rattle.code_run.specs.Answers.{IsCallsWord, line, line_of}

-- a list of one word
pub one_word : {A B : Type 0} (f : A → B) (xs : List A) (x : A) → length xs ≡ 1 → x ≡ get_or xs 0 x → map f xs ≡ f x ∷ []
one_word f [] x one is = absurd (omega arith)
one_word f (y ∷ []) x one is = ap (λ z. f z ∷ []) (sym is)
one_word f (y ∷ z ∷ xs) x one is = absurd (omega arith)

-- a number of calls is what parsing its word gives
pub parsed : {E : Type 0} (words : List (List ℕ)) (word : List ℕ) (n : ℕ) (r : Result ℕ E) → words ≡ word ∷ [] → IsCallsWord words n → ParsesUnsigned 32 10 word r → r ≡ Ok n
parsed words word n r one is gives =
    let high = is.high in
    let same : word ≡ decimal n = let e : word ∷ [] ≡ decimal n ∷ [] = sym one ∙ is.word in cc in
    parse-decimal 32 n word r (omega arith) (omega arith) same gives

-- two equal texts pass the test
pub equal_texts : (text word : List ℕ) (words : List (List ℕ)) {d : List ℕ} → words ≡ word ∷ [] → words ≡ d ∷ [] → text ≡ d → pointwise nat_eq text word ≡ true
equal_texts text word words one is same =
    let e : text ≡ word = cc in
    subst (λ w. pointwise nat_eq text w ≡ true) e (itself text)
  where
    itself : (xs : List ℕ) → pointwise nat_eq xs xs ≡ true
    itself [] = refl
    itself (x ∷ xs) = let a : nat_eq x x ≡ true = eq-eqb x x refl in (λ i. a i && itself xs i)

-- the words are one number at most
pub one_number : (words : List (List ℕ)) (n m : ℕ) → IsCallsWord words n → IsCallsWord words m → n ≡ m
one_number words n m is was =
    let same : decimal n ≡ decimal m = let e : decimal n ∷ [] ≡ decimal m ∷ [] = sym is.word ∙ was.word in cc in
    let low = is.high in
    let high = was.high in
    decimal_injective n m (omega arith) (omega arith) same

-- the line of a run of n calls a worker
line_of_ran : (before after : View) (n : ℕ) (r : CodeReport) → Ran before n r after → line_of r ≡ line (4 * n) 0
line_of_ran before after n r ran =
    let writes = ran.writes in
    let reads = ran.reads in
    let calls : (r.done + r.busy) + (r.pairs + r.again) ≡ 4 * n = omega arith in
    (λ i. line (calls i) (ran.bad i))

-- where there is room for that line, the text that was made fits
pub line_fits : (words : List (List ℕ)) (n m room : ℕ) (text : List ℕ) (before after : View) (r : CodeReport) → IsCallsWord words n → IsCallsWord words m → Ran before m r after → text ≡ line_of r → length (line (4 * n) 0) ≤ room → length text ≤ room
line_fits words n m room text before after r is was ran made fits =
    let long = ap length (made ∙ (line_of_ran before after m r ran ∙ ap (λ (k : ℕ). line (4 * k) 0) (one_number words m n was is))) in
    omega arith
