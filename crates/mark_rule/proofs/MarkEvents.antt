-- A step that marks the cell at the index of a touched word: the entry's word becomes that of the marked cell, or is so
-- already.
use Rattle.std.proofs.Common.{◌≡◌, ◌≢◌, ℕ, ◌<◌, Bool, true, List, [], ◌∷◌, ◌++◌, set, Option, Some, IsTrue, IsSome, IsSomeAnd, IfSome, refl, sym, ap, subst, inl, inr, arith}
use mathlib.Core.Option.{some}
use lib.ListN.{get_elem?}
use Rattle.plain_table.specs.declared.events.Act.TheVariants as act
use Rattle.plain_table.specs.declared.events.Cell.{Cell}
use Rattle.plain_table.specs.declared.events.Event.{Event}
use Rattle.plain_table.specs.declared.events.Field.{Field}
use Rattle.plain_table.specs.declared.events.Space.{Space}
use Rattle.plain_table.specs.declared.reports.Reply.TheVariants as reply
use Rattle.plain_table.specs.Cycle.{Cycle, IsTouched, marked_in}
use Rattle.plain_table.specs.History.{IsLegal, after, next}
use Rattle.plain_table.specs.Index.{index_of}
use Rattle.plain_table.specs.Places.{space_of}
use Rattle.plain_table.specs.Rows.{InCycle}
use Rattle.plain_table.specs.Shows.{Shows}
use Rattle.plain_table.specs.Table.{Table, Sizes, limit_in}
use Rattle.plain_table.specs.Words.{cell_word, entry_place, no_access_word}
use Rattle.plain_table.proofs.Options.{IfSome-is, IsSomeAnd-by, IsSomeAnd-is, IsSomeAnd-some, IsSome-some, IsSome-value}
use Rattle.plain_table.proofs.SpacesShown.{cell-used}
use Rattle.table_laws.proofs.CellsStay.{marked_in-here}
use Rattle.table_laws.proofs.Steadiness.{events-steady}
use Rattle.word_laws.proofs.CellWords.{CellWordsFollow-row}
use Rattle.entry_base.specs.declared.view.Fact.{Fact}
use Rattle.entry_base.specs.declared.view.Fact.TheVariants as fact
use Rattle.entry_base.specs.declared.view.Opening.{Opening}
use Rattle.entry_base.specs.declared.view.View.{View}
use Rattle.entry_base.specs.Callers.{IsCaller, event_of}
use Rattle.entry_base.specs.Lists.{Has}
use Rattle.entry_base.specs.Openings.{IsBase, sizes_in}
use Rattle.entry_base.specs.Owns.{Owns}
use Rattle.entry_base.specs.Rule.{Kept}
use Rattle.entry_base.proofs.Changes.{EntryChanges, kept_entry}
use Rattle.entry_base.proofs.OwnsStay.{owns_same}
use Rattle.entry_base.proofs.Steps.{Given, given}
use Rattle.entry_base.proofs.Sums.{each_has}
use Rattle.mark_rule.specs.Marking.{Marked}

-- the word of the marked cell that stands at the index, which had a mark or not
pub record IsMarkOf (s : Table) (p : Space) (i : ℕ) (had : Bool) (n : ℕ) : Type 0 where
  pub cell : Cell
  pub stands : s.cells p i ≡ Some cell
  pub word : n ≡ cell_word cell true
  pub was : IfSome s.cycle (λ c. had ≡ c.marks p i)

module _ (key : Opening) (words : List ℕ) (views : List View) (id : ℕ) (v : View) (k : Kept key words views) (at : get_elem? views id ≡ some v)
    (f : Field) (w : ℕ) (had : Bool) (n : ℕ) (p : Space) (spaced : space_of f ≡ p) (caller : IsCaller key v) (below : index_of w < limit_in (sizes_in key) p) (touched : Has v.facts (fact.Touched f w))
    (marks : (s : Table) → Given key k.log k.shown words v s → IsMarkOf s p (index_of w) had n) where
  abbrev z : Sizes
  z = sizes_in key

  abbrev i : ℕ
  i = index_of w

  abbrev e : Event
  e = event_of v (act.Mark p i) reply.Ok

  abbrev more : List Fact
  more = fact.Marked p i ∷ fact.Visited p i ∷ []

  abbrev pub marker : View
  marker = record v { seen = k.log ++ e ∷ []; facts = more ++ v.facts }

  changes : (s : Table) → Given key k.log k.shown words v s → EntryChanges z k.log e k.shown words p i n marker more s
  changes s g = record {
    legal = legal;
    shows = subst (λ (m : ℕ). Shows (set k.shown (entry_place z p i) m) (next s e)) (sym m.word)
        (subst (λ (x : Sizes). Shows (set k.shown (entry_place x p i) (cell_word m.cell true)) (next s e)) g.sizes
        (CellWordsFollow-row k.shown s e p i m.cell g.sound.used g.shows legal (refl, refl) m.stands));
    used = cell-used s p i g.sound filled;
    marked = λ stood. marked_in-here s.cycle p i;
    owns = record { variables = owns.variables; pending = owns.pending; owed = owns.owed; fresh = owns.fresh };
    tells = ((IsSomeAnd-by (next s e).cycle d.0 _ d.1 marked, tt), ((IsSomeAnd-by (next s e).cycle d.0 _ d.1 (λ stood. marked), tt), tt));
  }
    where
      m : IsMarkOf s p i had n
      m = marks s g

      filled : IsSome (s.cells p i)
      filled = IsSome-some (s.cells p i) m.cell m.stands

      knows : IsSomeAnd s.cycle (λ c. IsTouched c f w)
      knows = (each_has _ v.facts (fact.Touched f w) g.known touched).0

      cycle : (c : Cycle) × (s.cycle ≡ Some c)
      cycle = IsSome-value s.cycle (IsSomeAnd-some s.cycle _ knows)

      legal : IsLegal s e
      legal = (IsSomeAnd-by s.cycle cycle.0 _ cycle.1 (filled, (f, w, spaced, refl, IsSomeAnd-is s.cycle _ cycle.0 cycle.1 knows)), refl)

      d : (c : Cycle) × ((next s e).cycle ≡ Some c)
      d = (_, ap (λ (o : Option Cycle). marked_in o p i) cycle.1)

      marked : IsTrue (d.0.marks p i)
      marked = marked_in-here (Some cycle.0) p i

      owns : Owns (next s e) v
      owns = owns_same s e (next s e) v (events-steady s e g.sound legal tt).cells (record { vars = refl; ticket = refl; owed = refl; fresh = refl }) g.owns

  had_mark : (s : Table) → Given key k.log k.shown words v s → InCycle s (λ c. c.marks p i ≡ had)
  had_mark s g =
      let m = marks s g in
      let knows = (each_has _ v.facts (fact.Touched f w) g.known touched).0 in
      let cycle = IsSome-value s.cycle (IsSomeAnd-some s.cycle _ knows) in
      IsSomeAnd-by s.cycle cycle.0 _ cycle.1 (sym (IfSome-is s.cycle _ cycle.0 cycle.1 m.was))

  usable : n ≢ no_access_word
  usable closed =
      let m = marks (after k.base k.log) (given key words views id v k at k.base k.is_base) in
      let word = m.word in
      omega (arith, word, closed)

  pub kept_mark : Kept key (set words (entry_place z p i) n) (set views id marker) × Marked v p i had marker
  kept_mark =
      let done = kept_entry key words views id v marker k at more e refl caller.own tt (λ q. refl) refl refl refl refl refl p i n below usable (λ o m var link. absurd (cc)) changes in (
        done.0,
        record {
          same = record { opening = refl; number = refl; numbers = refl; cut = refl; knows = λ x has. inr (inr has) };
          own = record { vars = refl; pending = refl; owed = refl; fresh = refl };
          hands = refl;
          extends = done.1 caller.opened;
          before = k.log;
          since = (let mine = k.numbers.stands id v at in (mine.rest, mine.seen));
          last = refl;
          was = λ b base.
              let g = given key words views id v k at b (subst (λ (o : Opening). IsBase o b) caller.opened base) in
              had_mark (after b k.log) g;
          knows = (inl refl, inr (inl refl));
        },
      )
