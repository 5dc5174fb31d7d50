-- Reading an entry: which word stands at an index, by what stands there, and that the bits of the word tell the cell; in
-- the words that show the table, and in those near them.
use Rattle.std.proofs.Common.{◌≡◌, ◌≢◌, ◌+◌, ◌/◌, ◌^◌, ◌%◌, ◌<◌, ◌≤◌, ◌==◌, ℕ, Bool, List, slice_index, Option, Some, None, IfSome, refl, sym, ap, ◌∙◌, inl, inr, arith}
use Rattle.std.proofs.lemmas.Bool.{cases_Bool, cases_lt}
use Rattle.std.proofs.lemmas.Bool.Decides.{eqb_tells}
use Rattle.plain_table.specs.declared.events.Cell.{Cell}
use Rattle.plain_table.specs.declared.events.Space.{Space}
use Rattle.plain_table.specs.declared.events.Space.TheVariants.{External, Trusted}
use Rattle.plain_table.specs.Cycle.{Cycle}
use Rattle.plain_table.specs.Table.{Table, limit_of}
use Rattle.plain_table.specs.Rows.{IsTag}
use Rattle.plain_table.specs.Sound.{IsSound, entries_in}
use Rattle.plain_table.specs.Words.{freelist_place, entry_place, cell_word, free_word, evacuation_word, no_access_word, next_free}
use Rattle.plain_table.specs.Near.{IsNear}
use Rattle.plain_table.specs.Shows.{Shows, SpaceShows, entry_at}
use Rattle.plain_table.proofs.Options.{IsSome-value}
use Rattle.plain_table.proofs.CycleParts.{CycleSound-is}
use Rattle.plain_table.proofs.FreeReads.{next_free-le}
use Rattle.plain_table.proofs.SpacesShown.{Shows-space}
use Rattle.word_laws.specs.Small.{AreSmall}
use Rattle.word_laws.specs.ReadLaws.{tag_bits, has_mark, IsWordOf, EntryTells, EntryWordsTell}
use Rattle.word_laws.proofs.EntryBits.{tag_bits-cell, value_bits-cell, has_shown-cell, has_mark-cell, cell_word-open, tag_bits-free, tag_bits-evacuation}
use Rattle.word_laws.proofs.NearWords.{IsNear-open}

-- an evacuation entry has a field of an object that is made, so that its number is small
module _ (s : Table) (sound : IsSound s) (few : s.sizes.objects ≤ 16384) where
  number-few : (i number : ℕ) (cycle : Option Cycle) → s.cycle ≡ cycle → entries_in cycle i ≡ Some number → number < 2 ^ 32
  number-few i number None is entry = absurd (cc)
  number-few i number (Some c) is entry =
      let cycle = CycleSound-is s c sound is in
      let made = cycle.traced.made (number / 2) (inl (cycle.area.entries i number entry).1) in
      omega (arith, made, sound.objects.few, few)

  pub entry_at-few : (p : Space) (i number : ℕ) → entry_at s p i ≡ Some number → number < 2 ^ 32
  entry_at-few External i number entry = number-few i number s.cycle refl entry
  entry_at-few Trusted i number entry = absurd (cc)

-- the word at an index where no cell stands, by the evacuation entry that stands there or not
pub data IsEmptyWord (entry : Option ℕ) (i : ℕ) (word : ℕ) : Type 0 where
  Null : entry ≡ None → i ≡ 0 → word ≡ 0 → IsEmptyWord entry i word
  Free : (next : ℕ) → entry ≡ None → next < 2 ^ 32 → word ≡ free_word next → IsEmptyWord entry i word
  NoAccess : entry ≡ None → word ≡ no_access_word → IsEmptyWord entry i word
  Evacuation : (number : ℕ) → entry ≡ Some number → number < 2 ^ 32 → word ≡ evacuation_word number → IsEmptyWord entry i word

module _ (s : Table) (sound : IsSound s) (small : AreSmall s.sizes) (p : Space) (entry : ℕ → ℕ) (freelist committed : ℕ)
    (shows : SpaceShows s p entry freelist committed) where
  word-no_entry : (i : ℕ) → i < limit_of s p → s.cells p i ≡ None → entry_at s p i ≡ None → IsEmptyWord (entry_at s p i) i (entry i)
  word-no_entry i below empty none = elim (eqb_tells i 0) [
    | inl first ↦ Null none first.1 (ap entry first.1 ∙ shows.null)
    | inr later ↦ elim (cases_Bool (s.used p i)) [
      | inl used ↦
          let word = shows.empty i (record { used = used; later = omega (arith, later.1); no_cell = empty; no_entry = none }) in
          Free word.0 none word.1 word.2
      | inr free ↦ elim (cases_lt i committed) [
        | inl less ↦
            let next = next_free-le (s.used p) (i + 1) committed in
            Free (next_free (s.used p) (i + 1) committed) none (omega (arith, next, shows.within, small.few p))
            (shows.free i (omega (arith, later.1)) less free)
        | inr past ↦ NoAccess none (shows.closed i past below)
      ]
    ]
  ]

  pub word-empty : (i : ℕ) → i < limit_of s p → s.cells p i ≡ None → IsEmptyWord (entry_at s p i) i (entry i)
  word-empty i below empty = by_entry (entry_at s p i) refl
    where
      by_entry : (found : Option ℕ) → entry_at s p i ≡ found → IsEmptyWord (entry_at s p i) i (entry i)
      by_entry None none = word-no_entry i below empty none
      by_entry (Some number) is = Evacuation number is (entry_at-few s sound small.objects p i number is) (shows.evacuated i number is)

tag_bits-empty : (entry : Option ℕ) (i word : ℕ) → IsEmptyWord entry i word → tag_bits word ≡ 0
tag_bits-empty entry i word (Null none first is) = ap tag_bits is
tag_bits-empty entry i word (Free next none few is) = ap tag_bits is ∙ tag_bits-free next (omega (arith, few))
tag_bits-empty entry i word (NoAccess none is) = ap tag_bits is
tag_bits-empty entry i word (Evacuation number there few is) = ap tag_bits is ∙ tag_bits-evacuation number (omega (arith, few))

-- the word at an index where a cell stands
module _ (shown : List ℕ) (s : Table) (p : Space) (i : ℕ) (sound : IsSound s) (shows : Shows shown s) where
  pub cell-good : (cell : Cell) → s.cells p i ≡ Some cell → IsTag cell.tag × (cell.value < 2 ^ 48)
  cell-good cell stands = sound.cells.tags p i cell stands

  pub cell-word : (cell : Cell) → s.cells p i ≡ Some cell →
      (marked : Bool) × (slice_index shown (entry_place s.sizes p i) ≡ cell_word cell marked) × IfSome s.cycle (λ c. marked ≡ c.marks p i)
  cell-word cell stands = (Shows-space shown s p shows).1.cells i cell stands

module _ (cycle : Option Cycle) (p : Space) (i : ℕ) (cell : Cell) (word : ℕ) (good : IsTag cell.tag × (cell.value < 2 ^ 48)) (marked : Bool)
    (is : word ≡ cell_word cell marked) (marks : IfSome cycle (λ c. marked ≡ c.marks p i)) where
  IsWordOf-cell : IsWordOf cycle p i cell word
  IsWordOf-cell = record {
    tag = ap tag_bits is ∙ tag_bits-cell cell marked good.0.1 good.1;
    value = ap (λ w. w % 2 ^ 48) is ∙ value_bits-cell cell marked good.0.1 good.1;
    shown = ap (λ w. w / 2 ^ 59 % 2 == 0) is ∙ has_shown-cell cell marked good.0.1 good.1;
    mark = by_cycle cycle marks;
    whole = is ∙ ap (cell_word cell) (sym bit);
  }
    where
      bit : has_mark word ≡ marked
      bit = ap has_mark is ∙ has_mark-cell cell marked good.0.1 good.1

      by_cycle : (x : Option Cycle) → IfSome x (λ c. marked ≡ c.marks p i) → IfSome x (λ c. has_mark word ≡ c.marks p i)
      by_cycle None h = tt
      by_cycle (Some c) h = bit ∙ h

-- in words near those that show the table
module _ (words shown : List ℕ) (s : Table) (p : Space) (i : ℕ) (sound : IsSound s) (small : AreSmall s.sizes) (shows : Shows shown s)
    (near : IsNear s.sizes words shown) (below : i < limit_of s p) where
  abbrev word : ℕ
  word = slice_index words (entry_place s.sizes p i)

  by_cell : (cell : Cell) → s.cells p i ≡ Some cell → IsWordOf s.cycle p i cell word
  by_cell cell stands =
      let good = cell-good shown s p i sound shows cell stands in
      let found = cell-word shown s p i sound shows cell stands in
      let open_there : slice_index shown (entry_place s.sizes p i) ≢ no_access_word = λ closed. cell_word-open cell found.0 good.0.1 good.1 good.0.0 (sym found.1 ∙ closed) in
      IsWordOf-cell s.cycle p i cell word good found.0 (IsNear-open p i near below open_there ∙ found.1) found.2

  no_cell : s.cells p i ≡ None → tag_bits word ≡ 0
  no_cell empty = elim (near.entries p i below) [
    | inl same ↦
        let space = Shows-space shown s p shows in
        ap tag_bits same
        ∙ tag_bits-empty (entry_at s p i) i (slice_index shown (entry_place s.sizes p i))
        (word-empty s sound small p (λ j. slice_index shown (entry_place s.sizes p j)) (slice_index shown (freelist_place p)) space.0 space.1 i below empty)
    | inr linked ↦ ap tag_bits linked.1 ∙ tag_bits-free (i + 1) (omega (arith, below, small.few p))
  ]

  EntryTells-near : EntryTells s p i word
  EntryTells-near = record {
    cell = by_cell;
    none = no_cell;
    some = λ stands none.
        let found = IsSome-value (s.cells p i) stands in
        let tag = (by_cell found.0 found.1).tag in
        omega (arith, tag, none, (cell-good shown s p i sound shows found.0 found.1).0.0);
  }

pub EntryWordsTell-near : EntryWordsTell
EntryWordsTell-near words shown s p i sound small shows near below = EntryTells-near words shown s p i sound small shows near below
