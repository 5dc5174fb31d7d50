-- How the entry words of a space are counted: as its cells and their values.
use Rattle.std.proofs.Common.{◌≡◌, ℕ, zero, suc, ◌+◌, ◌%◌, ◌^◌, ◌<◌, ◌≤◌, ◌==◌, false, List, slice_index, Option, Some, None, refl, ap, subst, ◌∙◌, arith, ne_eqb}
use Rattle.std.specs.Prelude.{if◌then◌else◌, is_some}
use Rattle.std.proofs.Math.Nat.{mod-add-mod}
use Rattle.plain_table.specs.declared.events.Cell.{Cell}
use Rattle.plain_table.specs.declared.events.Space.{Space}
use Rattle.plain_table.specs.declared.events.Space.TheVariants.{External, Trusted}
use Rattle.plain_table.specs.Area.{count_below}
use Rattle.plain_table.specs.Table.{Sizes, Table, limit_in, limit_of}
use Rattle.plain_table.specs.Words.{count_place, entry_place}
use Rattle.plain_table.specs.Rows.{value_at}
use Rattle.plain_table.specs.Belongs.{values_below}
use Rattle.plain_table.specs.Sound.{IsSound}
use Rattle.plain_table.specs.Shows.{Shows}
use Rattle.word_laws.specs.Small.{AreSmall}
use Rattle.word_laws.specs.ReadLaws.{EntryTells, tag_bits, value_bits}
use Rattle.word_laws.proofs.EntryReads.{EntryWordsTell-near}
use Rattle.word_laws.proofs.NearWords.{IsNear-refl}
use Rattle.entry_word.specs.declared.image.Image.{Image}
use Rattle.entry_word.specs.Image.{IsValidShape, image_of, sizes_of}
use Rattle.sweeper.proofs.SweptImages.{AreSmall-shape}
use Rattle.sweeper.proofs.ValidShapes.{IsSmallShape-valid}
use Rattle.mutator_calls.specs.declared.cycles.Tally.{Tally}
use Rattle.mutator_calls.specs.Totals.{IsTotal, tally_of, with_entry}
use Rattle.mutator_calls.specs.Calls.{Sees}

-- a word adds its cell
record IsAdded (tally : Tally) (word : ℕ) (cell : Option Cell) : Type 0 where
  pub cells : (with_entry tally word).cells ≡ tally.cells + (if is_some cell then 1 else 0)
  pub sum : (with_entry tally word).sum ≡ (tally.sum + value_at cell) % 2 ^ 48

-- the first entries are counted as the cells that stand there
record AreTallied (s : Table) (p : Space) (tally : Tally) (n : ℕ) : Type 0 where
  pub cells : tally.cells ≡ count_below (λ i. is_some (s.cells p i)) n
  pub sum : tally.sum ≡ values_below (s.cells p) n % 2 ^ 48

module _ (s : Table) (sound : IsSound s) (small : AreSmall s.sizes) (words : List ℕ) (shows : Shows words s) (p : Space) where
  abbrev entry : ℕ → ℕ
  entry i = slice_index words (entry_place s.sizes p i)

  tells : (i : ℕ) → i < limit_of s p → EntryTells s p i (entry i)
  tells i below = EntryWordsTell-near words words s p i sound small shows (IsNear-refl s.sizes words) below

  added : (tally : Tally) → tally.sum < 2 ^ 48 → (i : ℕ) → i < limit_of s p → IsAdded tally (entry i) (s.cells p i)
  added tally few i below = by (s.cells p i) refl
    where
      by : (cell : Option Cell) → s.cells p i ≡ cell → IsAdded tally (entry i) cell
      by None is =
          let zero_bits : tag_bits (entry i) ≡ 0 = (tells i below).none is in
          let same : with_entry tally (entry i) ≡ tally =
          ap (λ (n : ℕ). if n == 0 then tally else record { cells = tally.cells + 1; sum = (tally.sum + value_bits (entry i)) % 2 ^ 48 }) zero_bits in
          record {
            cells = ap (λ (t : Tally). t.cells) same ∙ omega arith;
            sum = ap (λ (t : Tally). t.sum) same ∙ omega (arith, few);
          }
      by (Some cell) is =
          let word = (tells i below).cell cell is in
          let good = sound.cells.tags p i cell is in
          let some : (tag_bits (entry i) == 0) ≡ false = ne_eqb (tag_bits (entry i)) 0 (λ e. omega (arith, e, word.tag, good.0.0)) in
          let same : with_entry tally (entry i) ≡ record { cells = tally.cells + 1; sum = (tally.sum + value_bits (entry i)) % 2 ^ 48 } =
          ap (λ b. if b then tally else record { cells = tally.cells + 1; sum = (tally.sum + value_bits (entry i)) % 2 ^ 48 }) some in
          record {
            cells = ap (λ (t : Tally). t.cells) same;
            sum = ap (λ (t : Tally). t.sum) same ∙ ap (λ v. (tally.sum + v) % 2 ^ 48) word.value;
          }

  AreTallied-first : (n : ℕ) → n ≤ limit_of s p → AreTallied s p (tally_of entry n) n
  AreTallied-first zero few = record { cells = refl; sum = refl }
  AreTallied-first (suc n) few =
      let before = AreTallied-first n (omega (arith, few)) in
      let small_sum : (tally_of entry n).sum < 2 ^ 48 = omega (arith, before.sum) in
      let one = added (tally_of entry n) small_sum n (omega (arith, few)) in
      record {
        cells = one.cells ∙ ap (λ k. k + (if is_some (s.cells p n) then 1 else 0)) before.cells;
        sum = one.sum ∙ ap (λ k. (k + value_at (s.cells p n)) % 2 ^ 48) before.sum ∙ mod-add-mod (values_below (s.cells p) n) (2 ^ 48) (value_at (s.cells p n));
      }

module _ (image : Image) (valid : IsValidShape image.shape) (s : Table) (sees : Sees (image_of image) s) where
  abbrev space_tally : Sizes → Space → Tally
  space_tally sizes p = tally_of (λ i. slice_index image.words.items (entry_place sizes p i)) (limit_in sizes p)

  AreTallied-all : (p : Space) → AreTallied s p (space_tally (sizes_of image.shape) p) (limit_of s p)
  AreTallied-all p =
      let small = AreSmall-shape image.shape s (IsSmallShape-valid image.shape valid) sees.shows.sizes in
      subst (λ (z : Sizes). AreTallied s p (space_tally z p) (limit_of s p)) sees.shows.sizes
      (AreTallied-first s sees.sound small image.words.items sees.shows.words p (limit_of s p) (omega arith))

  -- the totals of a table by those of its spaces
  pub IsTotal-tallied : (external trusted : Tally) (objects : ℕ) → external ≡ space_tally (sizes_of image.shape) External →
      trusted ≡ space_tally (sizes_of image.shape) Trusted → objects ≡ slice_index image.words.items count_place →
      IsTotal s (record { live = external.cells; trusted = trusted.cells; objects = objects; sum = external.sum })
  IsTotal-tallied external trusted objects first second count =
      let one = AreTallied-all External in
      record {
        live = ap (λ (t : Tally). t.cells) first ∙ one.cells;
        trusted = ap (λ (t : Tally). t.cells) second ∙ (AreTallied-all Trusted).cells;
        objects = count ∙ sees.shows.words.count;
        sum = ap (λ (t : Tally). t.sum) first ∙ one.sum;
      }
