-- Words that were resolved, swept in both spaces and tidied show the finished table.
use Rattle.std.proofs.Common.{◌≡◌, ◌≢◌, ◌+◌, ◌*◌, ◌/◌, ◌^◌, ◌<◌, ◌≤◌, ℕ, zero, suc, Bool, true, false, not, List, slice_index, Option, Some, None, refl, sym, ap, ◌∙◌, inl, inr, arith, le-ltb}
use Rattle.std.specs.Prelude.{is_some, unwrap_or, nat_lt, nat_le, ◌&&◌}
use Rattle.std.proofs.lemmas.Bool.{cases_lt, and_left, and_parts, or_right, le-leb, leb-true}
use Rattle.plain_table.specs.declared.events.Cell.{Cell}
use Rattle.plain_table.specs.declared.events.Space.{Space}
use Rattle.plain_table.specs.declared.events.Space.TheVariants.{External, Trusted}
use Rattle.plain_table.specs.declared.events.Field.{Field}
use Rattle.plain_table.specs.declared.events.Field.TheVariants as field
use Rattle.plain_table.specs.declared.reports.SweepReport.{SweepReport}
use Rattle.plain_table.specs.Places.{object_of}
use Rattle.plain_table.specs.Area.{count_below}
use Rattle.plain_table.specs.Cycle.{Cycle}
use Rattle.plain_table.specs.Table.{Table, limit_of}
use Rattle.plain_table.specs.Finish.{swept, rewritten, finished}
use Rattle.plain_table.specs.Words.{field_place}
use Rattle.plain_table.specs.Shows.{SpaceShows, Shows}
use Rattle.plain_table.specs.Sound.{IsSound}
use Rattle.plain_table.specs.Sweeps.{cells_in, IsSweep, compaction_by}
use Rattle.plain_table.proofs.WordPlaces.{field_place-below, field_place-from, header-apart-field}
use Rattle.plain_table.proofs.FreeLists.{count_below-same}
use Rattle.sweeper.specs.Small.{AreSmall}
use Rattle.word_laws.specs.Kinds.{is_marked_word, is_cell_word}
use Rattle.sweeper.specs.Pass.{Tally, stays, freed_after, used_after, entries_from, one_if}
use Rattle.sweeper.specs.Ready.{IsReady, IsSpaceAfter, IsSpaceSwept}
use Rattle.sweeper.specs.Moves.{external_base}
use Rattle.sweeper.specs.Whole.{IsResolved, IsTidied}
use Rattle.plain_table.proofs.AreaStarts.{greatest_below-same}
use Rattle.sweeper.proofs.AfterPass.{SpaceShows-swept, stays-swept, used-swept}
use Rattle.sweeper.proofs.SpaceSweeps.{IsSpaceAfter-kept}
use Rattle.word_laws.proofs.EntryKinds.{cell-kind-at, no_cell-kind-at}
use Rattle.sweeper.proofs.Still.{IsReady-still}

-- readiness reads the words below `from` alone
pub IsReady-same : (s : Table) (c : Cycle) (p : Space) (entry other : ℕ → ℕ) (from : ℕ) → 1 ≤ from → ((i : ℕ) → i < from → other i ≡ entry i) → IsReady s c p entry from → IsReady s c p other from
IsReady-same s c p entry other from some same ready = record {
  cells = λ i cell is. let there = ready.cells i cell is in (there.0, same i there.0 ∙ there.1);
  others = λ i none. elim (cases_lt i from) [
    | inl less ↦ ap (λ w. nat_lt i from && is_marked_word w) (same i less) ∙ ready.others i none
    | inr past ↦ and_left (nat_lt i from) (is_marked_word (other i)) (le-ltb i from past)
  ];
  null = same 0 some ∙ ready.null;
}

-- cells that stay and cells that are freed are all cells
marked-cell : (w : ℕ) → is_marked_word w ≡ true → is_cell_word w ≡ true
marked-cell w is = let high : 2 ^ 62 ≤ w = leb-true (2 ^ 62) w is in or_right (nat_le (2 ^ 48) w && nat_lt w (2 ^ 56)) (nat_le (2 ^ 59) w) (le-leb (2 ^ 59) w (omega (arith, high)))

split_one : (stay cell : Bool) → (stay ≡ true → cell ≡ true) → one_if stay + one_if (cell && not stay) ≡ one_if cell
split_one true true all = refl
split_one true false all = absurd (cc (all refl))
split_one false true all = refl
split_one false false all = refl

pub count-split : (entry : ℕ → ℕ) (from n : ℕ) → count_below (stays entry from) n + count_below (freed_after entry from) n ≡ count_below (λ i. is_cell_word (entry i)) n
count-split entry from zero = omega arith
count-split entry from (suc n) =
    let here = split_one (stays entry from n) (is_cell_word (entry n)) (λ is. marked-cell (entry n) (and_parts (nat_lt n from) (is_marked_word (entry n)) is).1) in
    omega (arith, count-split entry from n, here)

module _ (s : Table) (c : Cycle) (h : IsSound s) (is : s.cycle ≡ Some c) (small : AreSmall s) (p : Space) (entry : ℕ → ℕ) (freelist committed : ℕ) (shows : SpaceShows s p entry freelist committed) where
  pub cells-counted : count_below (λ i. is_cell_word (entry i)) (limit_of s p) ≡ cells_in s p
  cells-counted = count_below-same (λ i. is_some (s.cells p i)) (λ i. is_cell_word (entry i)) (limit_of s p) (λ i below. by i below (s.cells p i) refl)
    where
      by : (i : ℕ) → i < limit_of s p → (found : Option Cell) → s.cells p i ≡ found → is_cell_word (entry i) ≡ is_some (s.cells p i)
      by i below None stands = (no_cell-kind-at s c h is small p entry freelist committed shows i below stands).is_cell ∙ sym (ap is_some stands)
      by i below (Some cell) stands = (cell-kind-at s c h is small p entry freelist committed shows i cell stands).is_cell ∙ sym (ap is_some stands)

-- after the sweep of the external space the trusted one is as it was, and ready for its own
module _ (s : Table) (c : Cycle) (h : IsSound s) (is : s.cycle ≡ Some c) (small : AreSmall s) (w0 w1 w2 : List ℕ) (from segs : ℕ) (tally : Tally) (shows : Shows w0 s)
    (resolved : IsResolved s c w0 w1 from) (external : IsSpaceSwept w1 w2 (external_base s) (limit_of s External) from s.sizes.seg 0 segs tally) where
  pub trusted-kept : (k : ℕ) → k < limit_of s Trusted → slice_index w2 (external_base s + limit_of s External + k) ≡ slice_index w0 (external_base s + limit_of s External + k)
  trusted-kept k below =
      external.rest (external_base s + limit_of s External + k) (λ eq. omega (arith, eq)) (inr (omega arith))
      ∙ resolved.rest (external_base s + limit_of s External + k) (inr (omega arith)) (λ n few eq. omega (arith, eq, field_place-below (field.External n) s.sizes.objects few))

  pub trusted-ready : IsReady s c Trusted (entries_from w2 (external_base s + limit_of s External)) (limit_of s Trusted)
  trusted-ready =
      IsReady-same s c Trusted (entries_from w0 (external_base s + limit_of s External)) (entries_from w2 (external_base s + limit_of s External)) (limit_of s Trusted) (small.some Trusted) trusted-kept
      (IsReady-still s c h is small Trusted (entries_from w0 (external_base s + limit_of s External)) (slice_index w0 2) shows.trusted.0 shows.trusted.1 (λ eq. absurd (cc)))

module _ (s : Table) (c : Cycle) (h : IsSound s) (is : s.cycle ≡ Some c) (small : AreSmall s)
    (w0 w1 w2 w3 w4 : List ℕ) (from ext_segs tru_segs : ℕ) (ext tru : Tally)
    (shows : Shows w0 s)
    (resolved : IsResolved s c w0 w1 from)
    (external : IsSpaceSwept w1 w2 (external_base s) (limit_of s External) from s.sizes.seg 0 ext_segs ext)
    (trusted : IsSpaceSwept w2 w3 (external_base s + limit_of s External) (limit_of s Trusted) (limit_of s Trusted) s.sizes.seg 2 tru_segs tru)
    (tidied : IsTidied w3 w4 s.sizes.objects) where
  abbrev tru_base : ℕ
  tru_base = external_base s + limit_of s External

  -- a word before the entries that no stage writes
  low-kept : (place : ℕ) → place < external_base s → place ≢ 0 → place ≢ 1 → place ≢ 2 → place ≢ 4 → ((o : ℕ) → o < s.sizes.objects → place ≢ 32 + 8 * o) → slice_index w4 place ≡ slice_index w1 place
  low-kept place low off_0 off_1 off_2 off_4 no_header =
      tidied.rest place off_1 off_4 no_header ∙ trusted.rest place off_2 (inl (omega (arith, low))) ∙ external.rest place off_0 (inl low)

  fixed : (place : ℕ) → place < external_base s → place ≢ 0 → place ≢ 1 → place ≢ 2 → place ≢ 4 → ((o : ℕ) → o < s.sizes.objects → place ≢ 32 + 8 * o) →
      ((n : ℕ) → n / 2 < s.sizes.objects → place ≢ field_place (field.External n)) → slice_index w4 place ≡ slice_index w0 place
  fixed place low off_0 off_1 off_2 off_4 no_header no_field = low-kept place low off_0 off_1 off_2 off_4 no_header ∙ resolved.rest place (inl low) no_field

  -- the words below the headers
  early : (place : ℕ) → place < 32 → place ≢ 0 → place ≢ 1 → place ≢ 2 → place ≢ 4 → slice_index w4 place ≡ slice_index w0 place
  early place low off_0 off_1 off_2 off_4 =
      fixed place (omega (arith, low)) off_0 off_1 off_2 off_4 (λ o few eq. omega (arith, eq, low)) (λ n few eq. omega (arith, eq, low, field_place-from (field.External n)))

  tru_entry : (k : ℕ) → k < limit_of s Trusted → slice_index w2 (tru_base + k) ≡ slice_index w0 (tru_base + k)
  tru_entry = trusted-kept s c h is small w0 w1 w2 from ext_segs ext shows resolved external

  ready-trusted : IsReady s c Trusted (entries_from w2 tru_base) (limit_of s Trusted)
  ready-trusted = trusted-ready s c h is small w0 w1 w2 from ext_segs ext shows resolved external

  entry-kept : (place : ℕ) → external_base s ≤ place → slice_index w4 place ≡ slice_index w3 place
  entry-kept place from_base = tidied.rest place (λ eq. omega (arith, eq, from_base)) (λ eq. omega (arith, eq, from_base)) (λ o few eq. omega (arith, eq, from_base, few))

  no_header : (place : ℕ) → place < 32 → (o : ℕ) → o < s.sizes.objects → place ≢ 32 + 8 * o
  no_header place low o few = λ eq. omega (arith, eq, low)

  after-external : IsSpaceAfter w1 w4 (external_base s) (limit_of s External) from s.sizes.seg 0 ext_segs ext
  after-external =
      IsSpaceAfter-kept w1 w2 w4 (external_base s) (limit_of s External) from s.sizes.seg 0 ext_segs ext (small.some External)
      (tidied.rest 0 (λ eq. omega (arith, eq)) (λ eq. omega (arith, eq)) (no_header 0 (omega arith)) ∙ trusted.rest 0 (λ eq. omega (arith, eq)) (inl (omega arith)))
      (λ k below. entry-kept (external_base s + k) (omega arith) ∙ trusted.rest (external_base s + k) (λ eq. omega (arith, eq)) (inl (omega (arith, below))))
      external.after

  after-trusted : IsSpaceAfter w2 w4 tru_base (limit_of s Trusted) (limit_of s Trusted) s.sizes.seg 2 tru_segs tru
  after-trusted =
      IsSpaceAfter-kept w2 w3 w4 tru_base (limit_of s Trusted) (limit_of s Trusted) s.sizes.seg 2 tru_segs tru (small.some Trusted)
      (tidied.rest 2 (λ eq. omega (arith, eq)) (λ eq. omega (arith, eq)) (no_header 2 (omega arith)))
      (λ k below. entry-kept (tru_base + k) (omega arith))
      trusted.after

  field-kept : (f : Field) → object_of f < s.sizes.objects → slice_index w4 (field_place f) ≡ slice_index w1 (field_place f)
  field-kept f few =
      let low = field_place-below f s.sizes.objects few in
      let high = field_place-from f in
      low-kept (field_place f) low (λ eq. omega (arith, eq, high)) (λ eq. omega (arith, eq, high)) (λ eq. omega (arith, eq, high)) (λ eq. omega (arith, eq, high)) (λ o less eq. header-apart-field o f (sym eq))

  fields-shown : (f : Field) → object_of f < s.sizes.objects → slice_index w4 (field_place f) ≡ rewritten c s.words f
  fields-shown (field.External n) few = field-kept (field.External n) few ∙ resolved.fields n few
  fields-shown (field.Trusted n) few =
      field-kept (field.Trusted n) few
      ∙ resolved.rest (field_place (field.Trusted n)) (inl (field_place-below (field.Trusted n) s.sizes.objects few)) (λ k less eq. omega (arith, eq))
      ∙ shows.fields (field.Trusted n) few

  pub Shows-finished : Shows w4 (finished s c)
  Shows-finished = record {
    whole = tidied.long ∙ trusted.long ∙ external.long ∙ resolved.long ∙ shows.whole;
    area = tidied.area;
    count = early 3 (omega arith) (λ eq. omega (arith, eq)) (λ eq. omega (arith, eq)) (λ eq. omega (arith, eq)) (λ eq. omega (arith, eq)) ∙ shows.count;
    phase = tidied.phase;
    spare = λ i low high. early i (omega (arith, high)) (λ eq. omega (arith, eq, low)) (λ eq. omega (arith, eq, low)) (λ eq. omega (arith, eq, low)) (λ eq. omega (arith, eq, low)) ∙ shows.spare i low high;
    globals = λ g few. early (16 + g) (omega (arith, few)) (λ eq. omega (arith, eq)) (λ eq. omega (arith, eq)) (λ eq. omega (arith, eq)) (λ eq. omega (arith, eq)) ∙ shows.globals g few;
    headers = tidied.headers;
    references = λ o k less few.
        fixed (33 + 8 * o + k) (omega (arith, less, few)) (λ eq. omega (arith, eq)) (λ eq. omega (arith, eq)) (λ eq. omega (arith, eq)) (λ eq. omega (arith, eq)) (λ m within eq. omega (arith, eq, few))
        (λ n within eq. omega (arith, eq, few)) ∙ shows.references o k less few;
    fields = fields-shown;
    external = (ext_segs * s.sizes.seg, SpaceShows-swept s c External w1 w4 (external_base s) from 0 ext_segs ext resolved.ready small.seg (small.some External) after-external);
    trusted = (tru_segs * s.sizes.seg, SpaceShows-swept s c Trusted w2 w4 tru_base (limit_of s Trusted) 2 tru_segs tru ready-trusted small.seg (small.some Trusted) after-trusted);
  }

  -- the report
  kept-cells : (p : Space) (entry : ℕ → ℕ) (from : ℕ) → IsReady s c p entry from → count_below (stays entry from) (limit_of s p) ≡ cells_in (finished s c) p
  kept-cells p entry from ready =
      count_below-same (λ i. is_some (swept s c p i)) (stays entry from) (limit_of s p) (λ i below. stays-swept s c p entry from ready i) ∙ limit_same p
    where
      limit_same : (p : Space) → count_below (λ i. is_some (swept s c p i)) (limit_of s p) ≡ cells_in (finished s c) p
      limit_same External = refl
      limit_same Trusted = refl

  freed-cells : (p : Space) (entry : ℕ → ℕ) (from kept freed : ℕ) → kept ≡ count_below (stays entry from) (limit_of s p) → freed ≡ count_below (freed_after entry from) (limit_of s p) →
      count_below (λ i. is_cell_word (entry i)) (limit_of s p) ≡ cells_in s p → kept + freed ≡ cells_in s p
  freed-cells p entry from kept freed is_kept is_freed all = omega (arith, is_kept, is_freed, all, count-split entry from (limit_of s p))

  pub IsSweep-finished : (report : SweepReport) → report.kept ≡ ext.kept → report.freed ≡ ext.freed → report.moved ≡ ext.moved → report.segs ≡ ext_segs →
      report.trusted ≡ tru.kept → report.tfreed ≡ tru.freed → report.compaction ≡ compaction_by c.start c.aborted → IsSweep s c (finished s c) report
  IsSweep-finished report kept freed moved segs trusted_kept trusted_freed compaction = record {
    kept = kept ∙ external.after.stayed ∙ kept-cells External (entries_from w1 (external_base s)) from resolved.ready;
    freed = freed-cells External (entries_from w1 (external_base s)) from report.kept report.freed (kept ∙ external.after.stayed) (freed ∙ external.after.gone) resolved.many;
    moved = moved ∙ external.after.forwarded ∙ resolved.moved;
    segs = segs ∙ external.after.segments
        ∙ ap (λ found. 1 + unwrap_or found 0 / s.sizes.seg) (greatest_below-same ((finished s c).used External) (used_after (entries_from w1 (external_base s)) from) (limit_of s External) (used-swept s c External (entries_from w1 (external_base s)) from resolved.ready));
    trusted = trusted_kept ∙ trusted.after.stayed ∙ kept-cells Trusted (entries_from w2 tru_base) (limit_of s Trusted) ready-trusted;
    tfreed = freed-cells Trusted (entries_from w2 tru_base) (limit_of s Trusted) report.trusted report.tfreed (trusted_kept ∙ trusted.after.stayed) (trusted_freed ∙ trusted.after.gone)
        (count_below-same (λ i. is_cell_word (entries_from w0 tru_base i)) (λ i. is_cell_word (entries_from w2 tru_base i)) (limit_of s Trusted) (λ k below. ap is_cell_word (tru_entry k below))
        ∙ cells-counted s c h is small Trusted (entries_from w0 tru_base) (slice_index w0 2) shows.trusted.0 shows.trusted.1);
    compaction = compaction;
  }
