-- Some entries of a space, as a slice of the words: what a mask of them tells.
use Rattle.std.proofs.Common.{◌≡◌, ◌+◌, ◌-◌, ◌<◌, ◌≤◌, ℕ, List, length, take, drop, slice_index, sym, ap, subst, ◌∙◌, arith}
use Rattle.std.proofs.lemmas.List.{get_or-take, get_or-drop, length-take-le, length-drop}
use Rattle.sweeper.specs.Bits.{bit}
use Rattle.sweeper.specs.Pass.{entries_from}

-- the words of the entries of a space from `first` on below `end`
abbrev pub part : List ℕ → (base first end : ℕ) → List ℕ
part words base first end = take (base + end - (base + first)) (drop (base + first) words)

pub length-part : (words : List ℕ) (base first end : ℕ) → base + end ≤ length words → length (part words base first end) ≡ end - first
length-part words base first end inside =
    length-take-le (base + end - (base + first)) (drop (base + first) words) (let rest = length-drop (base + first) words in omega (arith, rest, inside)) ∙ omega arith

part-at : (words : List ℕ) (base first end i : ℕ) → i < end - first → slice_index (part words base first end) i ≡ entries_from words base (first + i)
part-at words base first end i less =
    get_or-take (base + end - (base + first)) (drop (base + first) words) i 0 (omega (arith, less)) ∙ get_or-drop (base + first) words i 0
    ∙ ap (slice_index words) (omega arith)

pub part-bits : (place : ℕ) (words : List ℕ) (base first end mask : ℕ) → base + end ≤ length words →
    ((i : ℕ) → i < length (part words base first end) → bit mask i ≡ bit (slice_index (part words base first end) i) place) →
    (i : ℕ) → i < end - first → bit mask i ≡ bit (entries_from words base (first + i)) place
part-bits place words base first end mask inside bits i less =
    bits i (subst (λ n. i < n) (sym (length-part words base first end inside)) less) ∙ ap (λ w. bit w place) (part-at words base first end i less)
