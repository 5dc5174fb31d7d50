-- What the present word of an entry tells of the cell at its index, in each table of the rule: where its tag bits are 0, none
-- stands there; and else one does, whose word it is, and the words that show the table have it too.
use Rattle.std.proofs.Common.{◌≡◌, ◌≢◌, ℕ, ◌+◌, ◌<◌, List, slice_index, Option, Some, None, refl, inl, inr, sym, ap, subst, ◌∙◌, arith}
use Rattle.plain_table.specs.declared.events.Cell.{Cell}
use Rattle.plain_table.specs.declared.events.Space.{Space}
use Rattle.plain_table.specs.Near.{IsNear}
use Rattle.plain_table.specs.Table.{Table, Sizes, limit_in}
use Rattle.plain_table.specs.Words.{entry_place}
use Rattle.plain_table.proofs.Options.{None-if_not_some}
use Rattle.word_laws.specs.ReadLaws.{EntryTells, IsWordOf, tag_bits}
use Rattle.word_laws.specs.Small.{AreSmall}
use Rattle.word_laws.proofs.EntryBits.{tag_bits-free}
use Rattle.word_laws.proofs.EntryReads.{EntryWordsTell-near}
use Rattle.entry_base.specs.declared.view.Opening.{Opening}
use Rattle.entry_base.specs.declared.view.View.{View}
use Rattle.entry_base.specs.Openings.{sizes_in}
use Rattle.entry_base.specs.Rule.{Kept}
use Rattle.entry_base.proofs.Steps.{Given}

pub record CellStands (s : Table) (p : Space) (i found shown : ℕ) : Type 0 where
  pub cell : Cell
  pub stands : s.cells p i ≡ Some cell
  pub word : IsWordOf s.cycle p i cell found
  pub shown_too : shown ≡ found

module _ (key : Opening) (words : List ℕ) (views : List View) (k : Kept key words views) (v : View) (s : Table) (g : Given key k.log k.shown words v s)
    (p : Space) (i : ℕ) (below : i < limit_in (sizes_in key) p) where
  abbrev place : ℕ
  place = entry_place (sizes_in key) p i

  abbrev found : ℕ
  found = slice_index words place

  pub entry_tells : EntryTells s p i found
  entry_tells =
      subst (λ (z : Sizes). AreSmall z → IsNear z words k.shown → i < limit_in z p → EntryTells s p i (slice_index words (entry_place z p i))) g.sizes
      (λ small near low. EntryWordsTell-near words k.shown s p i g.sound small g.shows near low) k.few k.near below

  pub stands_none : tag_bits found ≡ 0 → s.cells p i ≡ None
  stands_none untagged = None-if_not_some (s.cells p i) (λ stands. entry_tells.some stands untagged)

  pub stands_some : tag_bits found ≢ 0 → CellStands s p i found (slice_index k.shown place)
  stands_some tagged = by_cell (s.cells p i) refl
    where
      same : slice_index k.shown place ≡ found
      same = elim (k.near.entries p i below) [
        | inl is ↦ sym is
        | inr linked ↦ absurd (tagged (ap tag_bits linked.1 ∙ tag_bits-free (i + 1) (omega (arith, below, k.few.few p))))
      ]

      by_cell : (o : Option Cell) → s.cells p i ≡ o → CellStands s p i found (slice_index k.shown place)
      by_cell None none = absurd (tagged (entry_tells.none none))
      by_cell (Some cell) stands = record { cell = cell; stands = stands; word = entry_tells.cell cell stands; shown_too = same }
