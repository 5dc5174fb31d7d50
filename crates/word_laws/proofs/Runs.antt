-- Runs of events at the pause: they join, and the mark of a field's word is one.
use Rattle.std.proofs.Common.{◌≡◌, ◌≢◌, ◌+◌, ◌*◌, ◌^◌, ℕ, Bool, true, false, List, [], ◌∷◌, ◌++◌, slice_index, slice_set, Option, Some, None, IsTrue, refl, sym, ap, ap₂, subst, ◌∙◌, inl, inr, arith, lt-ltb, le-ltb}
use Rattle.std.specs.Prelude.{is_some, IsSome, nat_lt, ◌&&◌, if◌then◌else◌}
use Rattle.std.specs.List.{All}
use Rattle.std.specs.Option.{option_map}
use Rattle.std.proofs.lemmas.List.Elements.{All-nil, All-cons, All-append}
use Rattle.std.proofs.lemmas.Bool.{cases_lt, both_ways, and_left, and_right, and_from, cond-true, cond-false}
use Rattle.plain_table.specs.declared.events.Act.TheVariants.{Mark}
use Rattle.plain_table.specs.declared.events.Cell.{Cell}
use Rattle.plain_table.specs.declared.events.Event.{Event}
use Rattle.plain_table.specs.declared.events.Space.{Space}
use Rattle.plain_table.specs.declared.events.Space.TheVariants.{External, Trusted}
use Rattle.plain_table.specs.declared.events.Field.{Field}
use Rattle.plain_table.specs.declared.reports.Reply.TheVariants as reply
use Rattle.plain_table.specs.Index.{index_of}
use Rattle.plain_table.specs.Places.{space_of, object_of}
use Rattle.plain_table.specs.Cycle.{Cycle, IsOld, with_mark, marked_in}
use Rattle.plain_table.specs.Table.{Table, limit_of}
use Rattle.plain_table.specs.Words.{entry_place, cell_word}
use Rattle.plain_table.specs.Rows.{IsNamed}
use Rattle.plain_table.specs.History.{IsLegal, next, after}
use Rattle.plain_table.specs.Shapes.{event}
use Rattle.plain_table.specs.Scans.{Scanner, Visit, marked_at, Ends, Turn, Make, Marks, Passes, IsReadAtMeet}
use Rattle.plain_table.specs.Shows.{SpaceShows, Shows}
use Rattle.plain_table.specs.Sound.{IsSound}
use Rattle.plain_table.specs.Sweeps.{meeting, MayScanAtMeet}
use Rattle.plain_table.proofs.Options.{IsSomeAnd-by}
use Rattle.plain_table.proofs.ScansGoOn.{Scans-append}
use Rattle.plain_table.proofs.CallsMade.{after-append, IsLegalHistory-append}
use Rattle.word_laws.proofs.CellWords.{CellWordsFollow-row}
use Rattle.plain_table.proofs.CycleParts.{CycleSound-is}
use Rattle.word_laws.specs.Small.{AreSmall}
use Rattle.word_laws.specs.Kinds.{is_marked_word, is_cell_word}
use Rattle.word_laws.specs.Runs.{IsRun, base_of, with_bit, marked_after}
use Rattle.word_laws.proofs.WordKinds.{cell-kind}
use Rattle.word_laws.proofs.EntryKinds.{cell-at, cell-kind-at, no_cell-kind-at}
use Rattle.plain_table.proofs.PlaceReads.{put_entry-same}
use Rattle.std.proofs.lemmas.Option.{same_Some}
use Rattle.plain_table.proofs.SpacesShown.{cell-below}

abbrev pub IsOwnEvent : Event → Type 0
IsOwnEvent e = e.by ≡ meeting

pub IsRun-join : (linked : List ℕ) (at mid to : Scanner) (first second : List ℕ) (s : Table) (es fs : List Event) →
    IsRun linked at mid first s es → IsRun linked mid to second (after s es) fs → IsRun linked at to second s (es ++ fs)
IsRun-join linked at mid to first second s es fs one two = record {
  legal = IsLegalHistory-append s es fs one.legal two.legal;
  own = All-append IsOwnEvent es fs one.own two.own;
  shows = subst (Shows second) (sym (after-append s es fs)) two.shows;
  scans = Scans-append (MayScanAtMeet linked) IsReadAtMeet meeting at mid to s es fs one.scans two.scans;
}

with_bit-cell : (cell : Cell) (m : Bool) → is_marked_word (cell_word cell m) ≡ m → with_bit (cell_word cell m) ≡ cell_word cell true
with_bit-cell cell true is = cond-true (is_marked_word (cell_word cell true)) (cell_word cell true) (cell_word cell true + 2 ^ 62) is
with_bit-cell cell false is = cond-false (is_marked_word (cell_word cell false)) (cell_word cell false) (cell_word cell false + 2 ^ 62) is ∙ by cell.shown
  where
    by : (shown : Bool) → (if shown then 0 else 2 ^ 59) + (cell.value + 2 ^ 48 * cell.tag + 0) + 2 ^ 62 ≡ (if shown then 0 else 2 ^ 59) + (cell.value + 2 ^ 48 * cell.tag + 2 ^ 62)
    by true = omega arith
    by false = omega arith

module _ (linked : List ℕ) (s : Table) (c : Cycle) (h : IsSound s) (is : s.cycle ≡ Some c) (small : AreSmall s.sizes) (words : List ℕ) (shows : Shows words s)
    (o : ℕ) (f : Field) (fields : List Field) (of : object_of f ≡ o) (old : IsOld c o) where
  abbrev p : Space
  p = space_of f

  abbrev i : ℕ
  i = index_of (s.words f)

  abbrev entry : Space → ℕ → ℕ
  entry q k = slice_index words (base_of s q + k)

  space : (q : Space) → (freelist : ℕ) × (committed : ℕ) × SpaceShows s q (entry q) freelist committed
  space External = (slice_index words 0, shows.external.0, shows.external.1)
  space Trusted = (slice_index words 2, shows.trusted.0, shows.trusted.1)

  place_same : (q : Space) (k : ℕ) → entry_place s.sizes q k ≡ base_of s q + k
  place_same External k = refl
  place_same Trusted k = refl

  abbrev marked_words : List ℕ
  marked_words = marked_after words (base_of s p) (limit_of s p) i

  -- the visit of a field marks the cell that its word names, if one stands there
  abbrev pub MarkRuns : Type 0
  MarkRuns =
      (es : List Event) × IsRun linked (Visit o (f ∷ fields)) (marked_at o fields f (s.words f)) marked_words s es × All (λ (e : Event). e.act ≡ Mark p i) es
      × (IsSome (s.cells p i) → (d : Cycle) → (after s es).cycle ≡ Some d → IsTrue (d.marks p i))

  pub mark-runs : MarkRuns
  mark-runs = by (s.cells p i) refl
    where
      by : (found : Option Cell) → s.cells p i ≡ found → MarkRuns
      by None none = (
        [],
        record {
          legal = tt;
          own = All-nil IsOwnEvent;
          shows = subst (λ (ws : List ℕ). Shows ws s) (sym same) shows;
          scans = Turn (Visit o (f ∷ fields)) (marked_at o fields f (s.words f)) s [] (marked_at o fields f (s.words f)) (Passes o f (s.words f) fields refl none) (Ends (marked_at o fields f (s.words f)) s);
        },
        All-nil (λ (e : Event). e.act ≡ Mark p i),
        λ some. absurd (both_ways (is_some (s.cells p i)) (ap is_some none) some),
      )
        where
          same : marked_words ≡ words
          same = elim (cases_lt i (limit_of s p)) [
            | inl below ↦
                cond-false (nat_lt i (limit_of s p) && is_cell_word (entry p i)) (slice_set words (base_of s p + i) (with_bit (entry p i))) words
                (and_right (nat_lt i (limit_of s p)) (is_cell_word (entry p i))
                (no_cell-kind-at s c h is small p (entry p) (space p).0 (space p).1 (space p).2 i below none).is_cell)
            | inr past ↦
                cond-false (nat_lt i (limit_of s p) && is_cell_word (entry p i)) (slice_set words (base_of s p + i) (with_bit (entry p i))) words
                (and_left (nat_lt i (limit_of s p)) (is_cell_word (entry p i)) (le-ltb i (limit_of s p) past))
          ]
      by (Some cell) stands = (
        e ∷ [],
        record {
          legal = (legal, tt);
          own = All-cons IsOwnEvent e [] refl (All-nil IsOwnEvent);
          shows = subst (λ (ws : List ℕ). Shows ws (next s e)) (sym same) (CellWordsFollow-row words s e p i cell h.used shows legal (refl, refl) stands);
          scans = Make (Visit o (f ∷ fields)) (marked_at o fields f (s.words f)) s e [] (marked_at o fields f (s.words f)) refl (Marks o f (s.words f) fields refl) (Ends (marked_at o fields f (s.words f)) (next s e));
        },
        All-cons (λ (e : Event). e.act ≡ Mark p i) e [] refl (All-nil (λ (e : Event). e.act ≡ Mark p i)),
        λ some d eq. marked d eq,
      )
        where
          e : Event
          e = event meeting (Mark p i) reply.Ok

          not_zero : s.words f ≢ 0
          not_zero = λ eq.
              let used = h.used.cells p i (ap (λ found. is_some (option_map (λ (c : Cell). c.id) found)) stands) in
              used.1 (ap index_of eq ∙ zero_index)
            where
              zero_index : index_of 0 ≡ 0
              zero_index = refl

          named : IsNamed c p i
          named = (f, s.words f, refl, refl, (CycleSound-is s c h is).touched.touched f (inl (subst (IsOld c) (sym of) old)) not_zero)

          legal : IsLegal s e
          legal = (IsSomeAnd-by s.cycle c (λ c. IsTrue (is_some (s.cells p i)) × IsNamed c p i) is (ap is_some stands, named), refl)

          marked : (d : Cycle) → marked_in s.cycle p i ≡ Some d → IsTrue (d.marks p i)
          marked d eq =
              let now : with_mark p i c ≡ d = same_Some (with_mark p i c) d (sym (ap (λ (cycle : Option Cycle). marked_in cycle p i) is) ∙ eq) in
              subst (λ (d : Cycle). IsTrue (d.marks p i)) now (put_entry-same c.marks p i true)

          same : marked_words ≡ slice_set words (entry_place s.sizes p i) (cell_word cell true)
          same =
              let kind = cell-kind-at s c h is small p (entry p) (space p).0 (space p).1 (space p).2 i cell stands in
              let word = cell-at s c h is small p (entry p) (space p).0 (space p).1 (space p).2 i cell stands in
              cond-true (nat_lt i (limit_of s p) && is_cell_word (entry p i)) (slice_set words (base_of s p + i) (with_bit (entry p i))) words
              (and_from (nat_lt i (limit_of s p)) (is_cell_word (entry p i)) (lt-ltb i (limit_of s p) (cell-below s p i h (ap is_some stands))) kind.is_cell)
              ∙ ap₂ (slice_set words) (sym (place_same p i)) (ap with_bit word ∙ with_bit-cell cell (c.marks p i) (cell-kind cell (c.marks p i) (h.cells.tags p i cell stands)).is_marked)
