-- Marking the cell that a touched word names keeps the rule, whether the exchange wins or finds the entry marked: either way
-- the word after it is that of the marked cell.
use Rattle.std.proofs.Common.{◌≡◌, ◌≢◌, ℕ, ◌+◌, ◌^◌, ◌<◌, ◌==◌, Bool, true, false, List, get_or, set, ap, sym, subst, refl, ◌∙◌, inl, inr, arith, Some, IsTrue}
use Rattle.std.proofs.lemmas.Bool.Decides.{nat_tests}
use mathlib.Core.Option.{some}
use lib.ListN.{get_elem?}
use prog.Atomic.{either}
use Rattle.atomic_table.specs.Table.{Me}
use Rattle.plain_table.specs.declared.events.Field.{Field}
use Rattle.plain_table.specs.declared.events.Space.{Space}
use Rattle.plain_table.specs.Cycle.{Cycle}
use Rattle.plain_table.specs.History.{after}
use Rattle.plain_table.specs.Index.{index_of}
use Rattle.plain_table.specs.Places.{space_of}
use Rattle.plain_table.specs.Table.{Table, limit_in}
use Rattle.plain_table.specs.Words.{cell_word, entry_place}
use Rattle.plain_table.proofs.Options.{IfSome-is, IsSome-none, IsSome-value, IsSomeAnd-some}
use Rattle.word_laws.specs.ReadLaws.{has_mark}
use Rattle.word_laws.proofs.EntryBits.{cell_word-marked}
use Rattle.entry_base.specs.declared.view.Fact.{Fact}
use Rattle.entry_base.specs.declared.view.Fact.TheVariants as fact
use Rattle.entry_base.specs.declared.view.Opening.{Opening}
use Rattle.entry_base.specs.declared.view.View.{View}
use Rattle.entry_base.specs.Callers.{IsCaller}
use Rattle.entry_base.specs.Facts.{IsKnown}
use Rattle.entry_base.specs.Lists.{Has}
use Rattle.entry_base.specs.Openings.{sizes_in}
use Rattle.entry_base.specs.Rule.{Kept}
use Rattle.entry_base.proofs.Steps.{Given, Keeps, given, keeps_by}
use Rattle.entry_base.proofs.Sums.{each_has}
use Rattle.mark_rule.specs.Marking.{MarkExchanged}
use Rattle.entry_base.proofs.EntryTells.{CellStands, stands_none, stands_some}
use Rattle.mark_rule.proofs.MarkEvents.{IsMarkOf, kept_mark, marker}

module _ (key : Opening) (words : List ℕ) (views : List View) (id : ℕ) (v : View) (f : Field) (w word : ℕ) (p : Space) (spaced : space_of f ≡ p)
    (k : Kept key words views) (at : get_elem? views id ≡ some v) (caller : IsCaller key v) (below : index_of w < limit_in (sizes_in key) p)
    (touched : Has v.facts (fact.Touched f w)) (loaded : Has v.facts (fact.Entry p (index_of w) word)) (clear : word < 2 ^ 62) where
  abbrev place : ℕ
  place = entry_place (sizes_in key) p (index_of w)

  abbrev found : ℕ
  found = get_or words place 0

  abbrev written : ℕ
  written = either (found == word) (word + 2 ^ 62) found

  module _ (s : Table) (g : Given key k.log k.shown words v s) where
    knows : (x : Fact) → Has v.facts x → IsKnown (sizes_in key) k.log s k.shown words x
    knows x has = each_has _ v.facts x g.known has

    under : (c : Cycle) × (s.cycle ≡ Some c)
    under = IsSome-value s.cycle (IsSomeAnd-some s.cycle _ (knows (fact.Touched f w) touched).0)

    c : CellStands s p (index_of w) found (get_or k.shown place 0)
    c = stands_some key words views k v s g p (index_of w) below
        (λ untagged. IsSome-none (s.cells p (index_of w)) (stands_none key words views k v s g p (index_of w) below untagged) (knows (fact.Entry p (index_of w) word) loaded).1.0)

    -- an exchange that does not win finds the entry marked
    marked_there : found ≢ word → IsTrue (has_mark found)
    marked_there other = elim (IfSome-is s.cycle _ under.0 under.1 (knows (fact.Entry p (index_of w) word) loaded).1.1) [
      | inl same ↦ absurd (other (sym c.shown_too ∙ same))
      | inr marked ↦ IfSome-is s.cycle _ under.0 under.1 c.word.mark ∙ marked
    ]

    written_word : (b : Bool) → (found == word) ≡ b → either b (word + 2 ^ 62) found ≡ cell_word c.cell true
    written_word true same = cell_word-marked c.cell (has_mark found) word clear (sym c.word.whole ∙ (let t : found ≡ word = grind (arith, nat_tests) in t))
    written_word false other = c.word.whole ∙ ap (cell_word c.cell) (marked_there (grind (arith, nat_tests)))

    mark_of : IsMarkOf s p (index_of w) (has_mark found) written
    mark_of = record { cell = c.cell; stands = c.stands; word = written_word (found == word) refl; was = c.word.mark }

  exchanged : (u : View) × Kept key (set words place written) (set views id u) × MarkExchanged v p (index_of w) word found u
  exchanged =
      let done = kept_mark key words views id v k at f w (has_mark found) written p spaced caller below touched mark_of in
      (marker key words views id v k at f w (has_mark found) written p spaced caller below touched mark_of, done.0, record { marked = done.1; found_marked = marked_there (after k.base k.log) (given key words views id v k at k.base k.is_base) })

pub marks : (key : Opening) (slots id : ℕ) (me : Me (Unit {0}) View) (f : Field) (word entry : ℕ) (p : Space) → space_of f ≡ p → IsCaller key me.0 → index_of word < limit_in (sizes_in me.0.opening) p → Has me.0.facts (fact.Touched f word) → Has me.0.facts (fact.Entry p (index_of word) entry) → entry < 2 ^ 62 → Keeps key slots id me (entry_place (sizes_in key) p (index_of word)) (λ n. either (n == entry) (entry + 2 ^ 62) n) (λ found w. MarkExchanged me.0 p (index_of word) entry found w)
marks key slots id me f word entry p spaced caller below touched loaded clear =
    keeps_by key slots id me (entry_place (sizes_in key) p (index_of word)) (λ n. either (n == entry) (entry + 2 ^ 62) n) (λ found w. MarkExchanged me.0 p (index_of word) entry found w) (λ words views k at.
    let low : index_of word < limit_in (sizes_in key) p = subst (λ o. index_of word < limit_in (sizes_in o) p) caller.opened below in
    exchanged key words views id me.0 f word entry p spaced k at caller low touched loaded clear)
