-- What follows the mark of an external field at a pause: nothing, an evacuation entry, or the abort of the compaction.
use Rattle.std.proofs.Common.{◌≡◌, ◌≢◌, ◌⊎◌, ◌+◌, ◌-◌, ◌*◌, ◌/◌, ◌%◌, ◌^◌, ◌<◌, ◌≤◌, ℕ, Bool, true, false, List, [], ◌∷◌, slice_index, slice_set, Option, Some, None, IsTrue, IsSome, refl, sym, ap, subst, ◌∙◌, inl, inr, arith, lt-ltb}
use Rattle.std.specs.Prelude.{is_some, nat_le, nat_lt, ◌&&◌, if◌then◌else◌}
use Rattle.std.proofs.lemmas.Bool.{cases_Bool, both_ways, and_from, and_left, and_right, and_parts, cond-true, cond-false, ltb-true, ltb-false}
use Rattle.std.proofs.lemmas.List.Elements.{All-nil, All-cons}
use Rattle.std.proofs.lemmas.Option.{same_Some}
use Rattle.plain_table.specs.declared.events.Act.TheVariants.{Below, Evac, Abort}
use Rattle.plain_table.specs.declared.events.Cell.{Cell}
use Rattle.plain_table.specs.declared.events.Event.{Event}
use Rattle.plain_table.specs.declared.events.Space.TheVariants.{External}
use Rattle.plain_table.specs.declared.events.Field.{Field}
use Rattle.plain_table.specs.declared.events.Field.TheVariants as field
use Rattle.plain_table.specs.declared.reports.Reply.TheVariants as reply
use Rattle.plain_table.specs.Index.{index_of}
use Rattle.plain_table.specs.Places.{object_of}
use Rattle.plain_table.specs.Cycle.{Cycle, IsOld, start_in, is_from, is_in_area, moves_from, with_entry, with_abort, evacuated_in, aborted_in}
use Rattle.plain_table.specs.Table.{Table, Sizes, limit_of, least_free}
use Rattle.plain_table.specs.Words.{free_word, next_free}
use Rattle.plain_table.specs.Rows.{with_taken, free_below}
use Rattle.plain_table.specs.History.{next}
use Rattle.plain_table.specs.Shapes.{event}
use Rattle.plain_table.specs.Scans.{NeedNotMove, IsInArea}
use Rattle.plain_table.specs.Shows.{Shows}
use Rattle.plain_table.specs.Sound.{IsSound}
use Rattle.plain_table.specs.Sweeps.{meeting}
use Rattle.plain_table.proofs.FreeReads.{least_free-some, next_free-le}
use Rattle.plain_table.proofs.Options.{IsSomeAnd-by}
use Rattle.plain_table.proofs.PlaceReads.{put_at-same}
use Rattle.word_laws.specs.WordLaws.{FreelistTells}
use Rattle.word_laws.proofs.EntryKinds.{cell-kind-at, no_cell-kind-at}
use Rattle.word_laws.proofs.FreelistReads.{FreelistsTell-shown}
use Rattle.word_laws.specs.Kinds.{is_cell_word}
use Rattle.sweeper.specs.Moves.{external_base}
use Rattle.table_laws.specs.Pauses.{IsVisitAct}
use Rattle.sweeper.specs.Small.{AreSmall}
use Rattle.sweeper.specs.Visits.{entered, entry_taken, moved_by, moved_out}
use Rattle.sweeper.specs.Whole.{IsShown}
use Rattle.sweeper.proofs.MoveSteps.{moves_from-start}
use Rattle.word_laws.proofs.FreeBelowReads.{FreeBelowRead-shown}
use Rattle.word_laws.proofs.PauseRuns.{evacuate-runs, abort-runs, after_first, after_below}
use Rattle.table_laws.proofs.Soundness.{IsSound-row}
use Rattle.sweeper.proofs.Resolved.{moving-is}
use Rattle.plain_table.proofs.SpacesShown.{cell-below}
use Rattle.sweeper.proofs.Visits.{IsMoveRun, stays-run}

module _ (linked : List ℕ) (s : Table) (c : Cycle) (h : IsSound s) (is : s.cycle ≡ Some c) (small : AreSmall s) (words : List ℕ) (shows : Shows words s)
    (o number : ℕ) (fields : List Field) (old : IsOld c (object_of (field.External number))) (w : ℕ) where
  abbrev i : ℕ
  i = index_of w

  abbrev entry : ℕ → ℕ
  entry k = slice_index words (external_base s + k)

  abbrev Runs : List ℕ → Type 0
  Runs now = IsMoveRun linked s o number w fields now

  shown : IsShown s c words s.sizes
  shown = record { sound = h; cycle = is; small = small; same = refl; shows = shows }

  same-cycle : (d : Cycle) → s.cycle ≡ Some d → d ≡ c
  same-cycle d eq = same_Some d c (sym eq ∙ is)

  not-in-area : is_from c.start i ≡ false → is_in_area s.cycle i ≡ false
  not-in-area out = ap (λ (cycle : Option Cycle). is_in_area cycle i) is ∙ out

  -- fails cell moves
  need-none : (aborted : Bool) → c.aborted ≡ aborted → (if aborted then None else c.start) ≡ None → NeedNotMove s w
  need-none true holds none = inr (inr (IsSomeAnd-by s.cycle c (λ c. IsTrue c.aborted) is holds))
  need-none false fails none = inl (not-in-area (ap (λ found. is_from found i) none))

  moved-none : moves_from c ≡ None → Runs words
  moved-none none =
      stays-run linked s o number w fields words shows (need-none c.aborted refl none)
      (λ d eq some. ap (λ (x : Cycle). is_from (moves_from x) i) (same-cycle d eq) ∙ ap (λ found. is_from found i) none)

  module _ (start : ℕ) (moves : moves_from c ≡ Some start) where
    starts : c.start ≡ Some start
    starts = moves_from-start c start moves

    -- a cell at or above the start passes the test
    tested : nat_le start i ≡ true → (cell : Cell) → s.cells External i ≡ Some cell → nat_le start i && nat_lt i (limit_of s External) && is_cell_word (entry i) ≡ true
    tested from cell stands =
        and_from (nat_le start i && nat_lt i (limit_of s External)) (is_cell_word (entry i))
        (and_from (nat_le start i) (nat_lt i (limit_of s External)) from (lt-ltb i (limit_of s External) (cell-below s External i h (ap is_some stands))))
        (cell-kind-at s c h is small External entry (slice_index words 0) shows.external.0 shows.external.1 i cell stands).is_cell

    no-cell : nat_le start i ≡ true → nat_le start i && nat_lt i (limit_of s External) && is_cell_word (entry i) ≡ false → (found : Option Cell) → s.cells External i ≡ found → s.cells External i ≡ None
    no-cell from none None stands = stands
    no-cell from none (Some cell) stands = absurd (both_ways (nat_le start i && nat_lt i (limit_of s External) && is_cell_word (entry i)) none (tested from cell stands))

    moved-not : nat_le start i && nat_lt i (limit_of s External) && is_cell_word (entry i) ≡ false → Runs words
    moved-not none = by (cases_Bool (nat_le start i))
      where
        by : (nat_le start i ≡ true) ⊎ (nat_le start i ≡ false) → Runs words
        by (inl from) =
            let empty = no-cell from none (s.cells External i) refl in
            stays-run linked s o number w fields words shows (inr (inl empty)) (λ d eq some. absurd (both_ways (is_some (s.cells External i)) (ap is_some empty) some))
        by (inr below) =
            stays-run linked s o number w fields words shows (inl (not-in-area (ap (λ found. is_from found i) starts ∙ below)))
            (λ d eq some. ap (λ (x : Cycle). is_from (moves_from x) i) (same-cycle d eq) ∙ ap (λ found. is_from found i) moves ∙ below)

    in-area : nat_le start i && nat_lt i (limit_of s External) && is_cell_word (entry i) ≡ true → IsInArea s w
    in-area holds = (ap (λ (cycle : Option Cycle). is_in_area cycle i) is ∙ ap (λ found. is_from found i) starts ∙ parts.0, by (s.cells External i) refl)
      where
        first : (nat_le start i && nat_lt i (limit_of s External) ≡ true) × (is_cell_word (entry i) ≡ true)
        first = and_parts (nat_le start i && nat_lt i (limit_of s External)) (is_cell_word (entry i)) holds

        parts : (nat_le start i ≡ true) × (nat_lt i (limit_of s External) ≡ true)
        parts = and_parts (nat_le start i) (nat_lt i (limit_of s External)) first.0

        by : (found : Option Cell) → s.cells External i ≡ found → IsSome (s.cells External i)
        by None stands =
            absurd (both_ways (is_cell_word (entry i)) (no_cell-kind-at s c h is small External entry (slice_index words 0) shows.external.0 shows.external.1 i (ltb-true i (limit_of s External) parts.1) stands).is_cell first.1)
        by (Some cell) stands = ap is_some stands

    module _ (area : IsInArea s w) where
      abbrev head : ℕ
      head = slice_index words 0 % 2 ^ 32

      abbrev len : ℕ
      len = slice_index words 0 / 2 ^ 32

      few : limit_of s External < 2 ^ 32
      few = omega (arith, small.few External)

      taken : 0 < len → head < start → Runs (entry_taken words (external_base s) head number)
      taken some below = record {
        events = first ∷ second ∷ [];
        run = evacuate-runs linked s c h is small words shows o fields number w start head (slice_index words (external_base s + head) % 2 ^ 32) (len - 1) starts area old (omega (arith, some)) refl below link
            (subst IsSound after-take (IsSound-row s meeting (Below start) h (ap start_in is ∙ starts)));
        acts = All-cons (λ (e : Event). IsVisitAct e.act) first (second ∷ []) tt (All-cons (λ (e : Event). IsVisitAct e.act) second [] tt (All-nil (λ (e : Event). IsVisitAct e.act)));
        placed = λ d eq there. inr (entered-in d eq);
      }
        where
          first : Event
          first = event meeting (Below start) (reply.Index head)

          second : Event
          second = event meeting (Evac head number) reply.Ok

          tells : (committed : ℕ) × FreelistTells s External entry head len committed
          tells = FreelistsTell-shown words s External (h.used.first External) shows few

          found : (least_free s External ≡ Some head) × (head < tells.0)
          found = tells.1.some (λ none. omega (arith, none, some))

          free : (s.used External head ≡ false) × (head ≢ 0) × (head < limit_of s External)
          free = least_free-some s External head found.0

          link : slice_index words (external_base s + head) ≡ free_word (slice_index words (external_base s + head) % 2 ^ 32)
          link =
              let word : entry head ≡ free_word (next_free (s.used External) (head + 1) tells.0) = tells.1.links head (omega (arith, free.1)) found.1 free.0 in
              let most : next_free (s.used External) (head + 1) tells.0 ≤ tells.0 = next_free-le (s.used External) (head + 1) tells.0 in
              omega (arith, word, most, tells.1.within, few)

          after-take : next s first ≡ with_taken s meeting External (Some head)
          after-take =
              after_first linked s c h is small words shows o fields number w start head (slice_index words (external_base s + head) % 2 ^ 32) (len - 1) starts area old (omega (arith, some)) refl below link

          entered-in : (d : Cycle) → (next (next s first) second).cycle ≡ Some d → IsTrue (d.visited number)
          entered-in d eq =
              let before : (next s first).cycle ≡ Some c = ap (λ (t : Table). t.cycle) after-take ∙ is in
              let now : with_entry head number c ≡ d = same_Some (with_entry head number c) d (sym (ap (λ (cycle : Option Cycle). evacuated_in cycle head number) before) ∙ eq) in
              subst (λ (d : Cycle). IsTrue (d.visited number)) now (put_at-same c.visited number true)

      aborted : (len ≡ 0) ⊎ (start ≤ head) → Runs (slice_set words 1 (start + 2 ^ 32))
      aborted full = record {
        events = first ∷ second ∷ [];
        run = abort-runs linked s c h is small words shows o fields number w start starts area none;
        acts = All-cons (λ (e : Event). IsVisitAct e.act) first (second ∷ []) tt (All-cons (λ (e : Event). IsVisitAct e.act) second [] tt (All-nil (λ (e : Event). IsVisitAct e.act)));
        placed = λ d eq there. inl (aborted-in d eq);
      }
        where
          first : Event
          first = event meeting (Below start) reply.NoRoom

          second : Event
          second = event meeting Abort reply.Ok

          none : free_below s start ≡ None
          none = (FreeBelowRead-shown words s start h small shows (ap start_in is ∙ starts)).none full

          aborted-in : (d : Cycle) → (next (next s first) second).cycle ≡ Some d → is_from (moves_from d) i ≡ false
          aborted-in d eq =
              let before : (next s first).cycle ≡ Some c = ap (λ (t : Table). t.cycle) (after_below linked s c h is small words shows o fields number w start starts area none) ∙ is in
              let now : with_abort c ≡ d = same_Some (with_abort c) d (sym (ap aborted_in before) ∙ eq) in
              subst (λ (d : Cycle). is_from (moves_from d) i ≡ false) now refl

      entered-run : Runs (entered words (external_base s) start number)
      entered-run = by (cases_Bool (nat_lt 0 len)) (cases_Bool (nat_lt head start))
        where
          no_room : nat_lt 0 len && nat_lt head start ≡ false → (len ≡ 0) ⊎ (start ≤ head) → Runs (entered words (external_base s) start number)
          no_room fails full =
              subst Runs (sym (cond-false (nat_lt 0 len && nat_lt head start) (entry_taken words (external_base s) head number) (slice_set words 1 (start + 2 ^ 32)) fails)) (aborted full)

          by : (nat_lt 0 len ≡ true) ⊎ (nat_lt 0 len ≡ false) → (nat_lt head start ≡ true) ⊎ (nat_lt head start ≡ false) → Runs (entered words (external_base s) start number)
          by (inl some) (inl below) =
              subst Runs (sym (cond-true (nat_lt 0 len && nat_lt head start) (entry_taken words (external_base s) head number) (slice_set words 1 (start + 2 ^ 32)) (and_from (nat_lt 0 len) (nat_lt head start) some below)))
              (taken (ltb-true 0 len some) (ltb-true head start below))
          by (inl some) (inr past) =
              no_room (and_right (nat_lt 0 len) (nat_lt head start) past) (inr (ltb-false head start past))
          by (inr none) _ = let zero : len ≤ 0 = ltb-false 0 len none in no_room (and_left (nat_lt 0 len) (nat_lt head start) none) (inl (omega (arith, zero)))

    moved-some : Runs (moved_by (Some start) words (external_base s) (limit_of s External) number i)
    moved-some = by (cases_Bool (nat_le start i && nat_lt i (limit_of s External) && is_cell_word (entry i)))
      where
        by : (nat_le start i && nat_lt i (limit_of s External) && is_cell_word (entry i) ≡ true) ⊎ (nat_le start i && nat_lt i (limit_of s External) && is_cell_word (entry i) ≡ false) →
            Runs (moved_by (Some start) words (external_base s) (limit_of s External) number i)
        by (inl holds) =
            subst Runs (sym (cond-true (nat_le start i && nat_lt i (limit_of s External) && is_cell_word (entry i)) (entered words (external_base s) start number) words holds)) (entered-run (in-area holds))
        by (inr none) =
            subst Runs (sym (cond-false (nat_le start i && nat_lt i (limit_of s External) && is_cell_word (entry i)) (entered words (external_base s) start number) words none)) (moved-not none)

  by-start : (found : Option ℕ) → moves_from c ≡ found → Runs (moved_by found words (external_base s) (limit_of s External) number i)
  by-start None moves = moved-none moves
  by-start (Some start) moves = moved-some start moves

  pub moved-run : (z : Sizes) → s.sizes ≡ z → IsMoveRun linked s o number w fields (moved_out words (32 + 8 * z.objects) (z.seg * z.ext) number (index_of w))
  moved-run z same =
      subst (λ (y : Sizes). Runs (moved_out words (32 + 8 * y.objects) (y.seg * y.ext) number i)) same
      (subst (λ (found : Option ℕ). Runs (moved_by found words (external_base s) (limit_of s External) number i)) (sym (moving-is s c words s.sizes shown)) (by-start (moves_from c) refl))
