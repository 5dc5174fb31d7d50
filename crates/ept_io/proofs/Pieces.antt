-- Pieces that are given or taken one after the other are given or taken together.
use Rattle.std.proofs.Common.{◌≡◌, ℕ, ◌+◌, ◌-◌, ◌<◌, ◌≤◌, Option, None, Some, List, [], ◌++◌, length, take, drop, arith, append_assoc, append-nil, length-drop, length-take-le, ap, refl, sym, ◌∙◌}
use Rattle.std.specs.Io.KnownBytes.{append_known, prepend_known}
use Rattle.std.proofs.Math.Seq.{take-add}
use Rattle.std.proofs.lemmas.List.{take_rest}
use Rattle.ept_io.specs.Bytes.{Gave, Took}
use Rattle.ept_io.specs.Calls.{InCalls}
use Rattle.ept_io.specs.Calls.InCalls.{more}

-- nothing was given
pub Gave-nil : (left : Option (List ℕ)) → Gave left [] left
Gave-nil None = refl
Gave-nil (Some bytes) = refl

-- what was given first and what was given then
pub Gave-then : (old mid new : Option (List ℕ)) (first then : List ℕ) → Gave old first mid → Gave mid then new →
    Gave old (first ++ then) new
Gave-then old mid None first then gave later = gave ∙ ap (prepend_known first) later
Gave-then old mid (Some rest) first then gave later =
    gave ∙ ap (prepend_known first) later ∙ ap (λ bytes. Some bytes) (sym (append_assoc first then rest))

-- nothing was taken
pub Took-nil : (written : Option (List ℕ)) → Took written [] written
Took-nil None = refl
Took-nil (Some bytes) = ap (λ all. Some all) (sym (append-nil bytes))

-- what was taken first and what was taken then
pub Took-then : (old mid new : Option (List ℕ)) (first then : List ℕ) → Took old first mid → Took mid then new →
    Took old (first ++ then) new
Took-then None mid new first then took later = later ∙ ap (λ known. append_known known then) took
Took-then (Some before) mid new first then took later =
    later ∙ ap (λ known. append_known known then) took ∙ ap (λ bytes. Some bytes) (append_assoc before first then)

-- the first n bytes of `&bytes[done..]` stand after the first `done`
pub front-more : (bytes : List ℕ) (done n : ℕ) →
    take done bytes ++ take n (take (length bytes - done) (drop done bytes)) ≡ take (done + n) bytes
front-more bytes done n = rw take_rest (sym (take-add done n bytes))

-- the first `done` bytes were taken, and then n of the rest
pub took_more : (old mid new : Option (List ℕ)) (bytes : List ℕ) (done n : ℕ) →
    Took old (take done bytes) mid → Took mid (take n (take (length bytes - done) (drop done bytes))) new →
    Took old (take (done + n) bytes) new
took_more old mid new bytes done n first then =
    rw (← front-more bytes done n) (Took-then old mid new _ _ first then)

-- calls, and then one that moved the first n bytes of a buffer
pub one_more_call : {A : Type 0} (moves : A → List ℕ → A → Type 0) (old mid new : A) (bytes buf : List ℕ) (n : ℕ) →
    InCalls moves old bytes mid → 1 ≤ n → n ≤ length buf → moves mid (take n buf) new →
    InCalls moves old (bytes ++ take n buf) new
one_more_call moves old mid new bytes buf n first some within then =
    let piece : 0 < length (take n buf) = rw (length-take-le n buf within) some in
    more bytes (take n buf) mid new first piece then

-- writes of the first `done` bytes, and then one of n of the rest
pub one_more_write : {A : Type 0} (takes : A → List ℕ → A → Type 0) (old mid new : A) (bytes : List ℕ) (done n : ℕ) →
    InCalls takes old (take done bytes) mid → 1 ≤ n → n ≤ length (take (length bytes - done) (drop done bytes)) →
    takes mid (take n (take (length bytes - done) (drop done bytes))) new →
    InCalls takes old (take (done + n) bytes) new
one_more_write takes old mid new bytes done n first some within then =
    rw (← front-more bytes done n) (one_more_call takes old mid new _ _ n first some within then)

-- where all bytes fit, those after the first `done` fit into what is left
pub rest-fits : (bytes : List ℕ) (done room : ℕ) → length bytes ≤ room →
    length (take (length bytes - done) (drop done bytes)) ≤ room - done
rest-fits bytes done room fits = rw (take_rest, length-drop) (omega arith)
