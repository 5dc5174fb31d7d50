-- A look by the bits of the entry word at its index; index 0 and an index past the limit have no cell.
use Rattle.std.proofs.Common.{◌≡◌, ◌==◌, ◌≤◌, ℕ, Bool, false, slice_index, Option, Some, None, refl, sym, ap, ◌∙◌, inl, inr, arith}
use Rattle.std.specs.Prelude.{if◌then◌else◌, nat_le, ◌&&◌}
use Rattle.std.proofs.lemmas.Bool.{cases_lt, and_left, and_right, lt-leb, le-leb}
use Rattle.plain_table.specs.declared.events.Cell.{Cell}
use Rattle.plain_table.specs.declared.events.Space.{Space}
use Rattle.plain_table.specs.declared.reports.Reply.{Reply}
use Rattle.plain_table.specs.declared.reports.Reply.TheVariants as reply
use Rattle.plain_table.specs.Index.{index_of}
use Rattle.plain_table.specs.Table.{Table, limit_of}
use Rattle.plain_table.specs.Rows.{is_asked, seen_under}
use Rattle.plain_table.specs.Sound.{IsSound}
use Rattle.plain_table.specs.Words.{entry_place}
use Rattle.plain_table.proofs.Options.{None-if_not_some}
use Rattle.plain_table.proofs.SpacesShown.{cell-below}
use Rattle.word_laws.specs.ReadLaws.{tag_bits, value_bits, has_shown, EntryTells, seen_by, LooksRead}
use Rattle.word_laws.proofs.EntryReads.{EntryWordsTell-near}

-- what is seen of a cell, by the bits of its word
seen_under-bits : (cell : Cell) (word first last : ℕ) → tag_bits word ≡ cell.tag → value_bits word ≡ cell.value → has_shown word ≡ cell.shown →
    seen_under (Some cell) first last ≡ seen_by word first last
seen_under-bits cell word first last tag value shown =
    λ i. (if sym shown i && is_asked first last (sym tag i) then reply.Value (sym value i) else reply.Fault)

-- tag 0 is below each range that begins at 1 or more
is_asked-none : (first last tag : ℕ) → 1 ≤ first → tag ≡ 0 → is_asked first last tag ≡ false
is_asked-none first last tag some none = and_left (nat_le first tag) (nat_le tag last) (lt-leb first tag (omega (arith, some, none)))

seen_by-none : (word first last : ℕ) → 1 ≤ first → tag_bits word ≡ 0 → seen_by word first last ≡ reply.Fault
seen_by-none word first last some none =
    ap (λ (test : Bool). if test then reply.Value (value_bits word) else reply.Fault)
    (and_right (has_shown word) (is_asked first last (tag_bits word)) (is_asked-none first last (tag_bits word) some none))

pub seen_under-word : (s : Table) (p : Space) (i word first last : ℕ) → EntryTells s p i word → 1 ≤ first →
    seen_under (s.cells p i) first last ≡ seen_by word first last
seen_under-word s p i word first last tells some = by_cell (s.cells p i) refl
  where
    by_cell : (found : Option Cell) → s.cells p i ≡ found → seen_under found first last ≡ seen_by word first last
    by_cell None is = sym (seen_by-none word first last some (tells.none is))
    by_cell (Some cell) is =
        let bits = tells.cell cell is in
        seen_under-bits cell word first last bits.tag bits.value bits.shown

-- an index past the limit names no cell
pub cell-none : (s : Table) (p : Space) (i : ℕ) → IsSound s → limit_of s p ≤ i → s.cells p i ≡ None
cell-none s p i sound past =
    None-if_not_some (s.cells p i) (λ stands. let below = cell-below s p i sound stands in omega (arith, below, past))

pub LooksRead-near : LooksRead
LooksRead-near words shown s p word first last sound small shows near some =
    ap (λ (r : Reply). if index_of word == 0 then reply.Null else r) (elim (cases_lt (index_of word) (limit_of s p)) [
      | inl below ↦
          seen_under-word s p (index_of word) found first last (EntryWordsTell-near words shown s p (index_of word) sound small shows near below) some
          ∙ sym (ap (λ (test : Bool). if test then reply.Fault else seen_by found first last) (lt-leb (limit_of s p) (index_of word) below))
      | inr past ↦
          ap (λ o. seen_under o first last) (cell-none s p (index_of word) sound past)
          ∙ sym (ap (λ (test : Bool). if test then reply.Fault else seen_by found first last) (le-leb (limit_of s p) (index_of word) past))
    ])
  where
    found : ℕ
    found = slice_index words (entry_place s.sizes p (index_of word))
