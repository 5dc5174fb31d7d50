-- Reading the area word of a sound table: the start of the evacuation area, and whether the compaction is aborted.
use Rattle.std.proofs.Common.{◌≡◌, ◌+◌, ◌/◌, ◌%◌, ◌^◌, ◌<◌, ◌≤◌, ◌==◌, ℕ, Bool, true, false, slice_index, Option, Some, None, unwrap_or, IsSome, refl, sym, ap, ◌∙◌, arith, ne_eqb}
use Rattle.std.specs.Prelude.{if◌then◌else◌, nat_le, ◌||◌}
use Rattle.std.proofs.lemmas.Bool.{cond-true, cond-false, or_right, or_from, le-leb, lt-leb}
use Rattle.plain_table.specs.declared.events.Space.TheVariants.{External}
use Rattle.plain_table.specs.Cycle.{Cycle}
use Rattle.plain_table.specs.Table.{Table, limit_of}
use Rattle.plain_table.specs.Sound.{IsSound}
use Rattle.plain_table.specs.Words.{area_place, area_word}
use Rattle.plain_table.proofs.AreaStarts.{greatest_below-or_zero_lt}
use Rattle.plain_table.proofs.CycleParts.{CycleSound-is}
use Rattle.word_laws.specs.Small.{AreSmall}
use Rattle.word_laws.specs.ReadLaws.{AreaTells, AreaWordsTell}

-- the start of a cycle in a sound table
pub start-within : (s : Table) (c : Cycle) (start : ℕ) → IsSound s → AreSmall s.sizes → s.cycle ≡ Some c → c.start ≡ Some start →
    (1 ≤ start) × (start < limit_of s External)
start-within s c start sound small is begins =
    let area = (CycleSound-is s c sound is).area.segment start begins in
    (omega (arith, area.1, small.seg), omega (arith, area.2, greatest_below-or_zero_lt (s.used External) (limit_of s External) (small.some External)))

-- the word of a start below 2^32, by its parts
abbrev start_by : ℕ → Option ℕ
start_by word = if word % 2 ^ 32 == 0 then None else Some (word % 2 ^ 32)

abbrev bits_by : Option ℕ → Bool → ℕ
bits_by start aborted = unwrap_or start 0 + (if aborted then 2 ^ 32 else 0)

start-bits : (i : ℕ) (aborted : Bool) → i < 2 ^ 32 → bits_by (Some i) aborted % 2 ^ 32 ≡ i
start-bits i true few = omega (arith, few)
start-bits i false few = omega (arith, few)

aborted-bits : (i : ℕ) (aborted : Bool) → i < 2 ^ 32 → (bits_by (Some i) aborted / 2 ^ 32 == 1) ≡ aborted
aborted-bits i true few = let one : bits_by (Some i) true / 2 ^ 32 ≡ 1 = omega (arith, few) in ap (λ n. n == 1) one
aborted-bits i false few = let none : bits_by (Some i) false / 2 ^ 32 ≡ 0 = omega (arith, few) in ap (λ n. n == 1) none

abbrev moves_by : ℕ → Option ℕ
moves_by word = if (word == 0) || nat_le (2 ^ 32) word then None else Some word

moves-bits : (i : ℕ) (aborted : Bool) → 1 ≤ i → i < 2 ^ 32 → (if aborted then None else Some i) ≡ moves_by (bits_by (Some i) aborted)
moves-bits i true some few =
    let high : 2 ^ 32 ≤ bits_by (Some i) true = omega (arith, few) in
    sym (cond-true ((bits_by (Some i) true == 0) || nat_le (2 ^ 32) (bits_by (Some i) true)) None (Some (bits_by (Some i) true))
    (or_right (bits_by (Some i) true == 0) (nat_le (2 ^ 32) (bits_by (Some i) true)) (le-leb (2 ^ 32) (bits_by (Some i) true) high)))
moves-bits i false some few =
    let same : bits_by (Some i) false ≡ i = omega arith in
    ap Some (sym same)
    ∙ sym (cond-false ((bits_by (Some i) false == 0) || nat_le (2 ^ 32) (bits_by (Some i) false)) None (Some (bits_by (Some i) false))
    (or_from (bits_by (Some i) false == 0) (nat_le (2 ^ 32) (bits_by (Some i) false))
    (ne_eqb (bits_by (Some i) false) 0 (λ e. omega (arith, e, same, some))) (lt-leb (2 ^ 32) (bits_by (Some i) false) (omega (arith, same, few)))))

-- what the area word of a cycle tells
record IsAreaOf (start : Option ℕ) (aborted : Bool) (word : ℕ) : Type 0 where
  begins : start ≡ start_by word
  aborts : aborted ≡ (word / 2 ^ 32 == 1)
  moves : (if aborted then None else start) ≡ moves_by word

module _ (s : Table) (c : Cycle) (sound : IsSound s) (small : AreSmall s.sizes) (is : s.cycle ≡ Some c) where
  area-read : (start : Option ℕ) (aborted : Bool) → c.start ≡ start → c.aborted ≡ aborted → IsAreaOf start aborted (bits_by start aborted)
  area-read None true begins aborts = let some : IsSome c.start = (CycleSound-is s c sound is).area.aborts aborts in absurd (cc)
  area-read None false begins aborts = record { begins = refl; aborts = refl; moves = refl }
  area-read (Some i) aborted begins aborts =
      let within = start-within s c i sound small is begins in
      let few : i < 2 ^ 32 = omega (arith, within.1, small.few External) in
      let bits = start-bits i aborted few in
      let later = ne_eqb (bits_by (Some i) aborted % 2 ^ 32) 0 (λ e. omega (arith, e, bits, within.0)) in
      record {
        begins = ap Some (sym bits) ∙ sym (ap (λ (test : Bool). if test then None else Some (bits_by (Some i) aborted % 2 ^ 32)) later);
        aborts = sym (aborted-bits i aborted few);
        moves = moves-bits i aborted within.0 few;
      }

-- the same of a word that is the area word of what is under way, if anything is
module _ (s : Table) (word : ℕ) (sound : IsSound s) (small : AreSmall s.sizes) where
  AreaTells-by : (cycle : Option Cycle) → s.cycle ≡ cycle → word ≡ area_word cycle → AreaTells (record s { cycle = cycle }) word
  AreaTells-by None is shows = record {
    start = ap start_by (sym shows);
    aborted = tt;
    idle = λ none. shows;
    moves = tt;
    within = λ first begins. absurd (cc);
  }
  AreaTells-by (Some c) is shows =
      let area = area-read s c sound small is c.start c.aborted refl refl in
      record {
        start = area.begins ∙ ap start_by (sym shows);
        aborted = area.aborts ∙ ap (λ w. w / 2 ^ 32 == 1) (sym shows);
        idle = λ none. absurd (cc);
        moves = area.moves ∙ ap moves_by (sym shows);
        within = λ first begins. start-within s c first sound small is begins;
      }

pub AreaWordsTell-shown : AreaWordsTell
AreaWordsTell-shown words s sound small shows = AreaTells-by s (slice_index words area_place) sound small s.cycle refl shows.area
