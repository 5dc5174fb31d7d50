-- A line with a word more than its form has, and one with a fault before its last place.
use Rattle.std.proofs.Common.{◌≡◌, ℕ, ◌==◌, ◌<◌, ◌≤◌, ◌-◌, length, drop, take, slice_index_or, false, List, [], ◌∷◌, Result, Err, refl, sym, arith}
use Rattle.std.proofs.lemmas.List.{take_all}
use Rattle.script_reader.specs.declared.refusals.Fault.{Fault}
use Rattle.script_reader.specs.declared.refusals.Fault.TheVariants.{BadLine}
use Rattle.script_reader.specs.declared.lines.Counts.{Counts}
use Rattle.script_reader.specs.declared.lines.Line.{Line}
use Rattle.script_reader.specs.declared.forms.Place.{Place}
use Rattle.script_reader.specs.declared.forms.Place.TheVariants.{Variable}
use Rattle.script_reader.specs.declared.forms.Said.{Said}
use Rattle.script_reader.specs.Forms.{first_of, read_at, read_places}
use Rattle.script_reader.specs.Grammar.{is_empty}
use Rattle.script_reader.specs.Spelling.{words}
use Rattle.script_reader.specs.Lines.{alone, start_line}
use Rattle.script_reader.proofs.Splitting.{slice_split-full}

alone-full : (parts : List (List ℕ)) (said : Result Line Fault) → is_empty parts ≡ false → alone parts said ≡ Err BadLine
alone-full [] said h = absurd cc
alone-full (part ∷ parts) said h = refl

pub alone-more : (text : List ℕ) (said : Result Line Fault) → alone (words text) said ≡ Err BadLine
alone-more text said = alone-full (words text) said (slice_split-full (λ byte. byte == 32) text)

start-full : (c : Counts) (policy : List ℕ) (parts : List (List ℕ)) → is_empty parts ≡ false
    → start_line c (policy ∷ parts) ≡ Err BadLine
start-full c policy [] h = absurd cc
start-full c policy (part ∷ parts) h = refl

pub start-more : (c : Counts) (policy text : List ℕ) → start_line c (policy ∷ words text) ≡ Err BadLine
start-more c policy text = start-full c policy (words text) (slice_split-full (λ byte. byte == 32) text)

none-full : (version : ℕ) (parts : List (List ℕ)) (s : Said) → is_empty parts ≡ false
    → read_places version [] parts s ≡ Err BadLine
none-full version [] s h = absurd cc
none-full version (part ∷ parts) s h = refl

-- no place is left for a word
pub no_place : (version : ℕ) (places : List Place) (text : List ℕ) (s : Said) → length places < 1
    → read_places version places (words text) s ≡ Err BadLine
no_place version [] text s h = none-full version (words text) s (slice_split-full (λ byte. byte == 32) text)
no_place version (place ∷ places) text s h = absurd (omega arith)

-- a place with a fault, and what the places after it say of what was said before it
pub fault_first : (version : ℕ) (places : List Place) (word : List ℕ) (words : List (List ℕ)) (before after : Said)
    (fault : Fault) (onward : Result Said Fault) → 1 ≤ length places → after ≡ before
    → Err fault ≡ read_at version (slice_index_or places 0 Variable) word before
    → onward ≡ read_places version (take (length places - 1) (drop 1 places)) words after
    → Err (first_of fault onward) ≡ read_places version places (word ∷ words) before
fault_first version [] word words before after fault onward l same here there = absurd (omega arith)
fault_first version (place ∷ places) word words before after fault onward l same here there =
    let all = take_all (length (place ∷ places) - 1) places (omega arith) in
    rw (sym here, there, all, same) refl
