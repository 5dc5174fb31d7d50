-- The words are resolved where nothing moves, and after the moves.
use Rattle.std.proofs.Common.{◌≡◌, ◌+◌, ◌*◌, ◌^◌, ◌<◌, ◌≤◌, ℕ, Bool, true, false, List, length, slice_index, Option, Some, None, IsTrue, refl, sym, ap, ◌∙◌, inl, inr, arith}
use Rattle.std.specs.Prelude.{is_some, unwrap_or, nat_le, ◌&&◌, ◌||◌, ◌==◌, if◌then◌else◌}
use Rattle.std.specs.Option.{option_map_or}
use Rattle.std.proofs.lemmas.Bool.{cases_lt, and_left, and_right, and_from, lt-leb, le-leb, cond-true, cond-false, or_left, or_right, or_from, ne_eqb, eq-eqb}
use Rattle.std.proofs.lemmas.Option.{none-some}
use Rattle.plain_table.specs.declared.events.Cell.{Cell}
use Rattle.plain_table.specs.declared.events.Space.TheVariants.{External, Trusted}
use Rattle.plain_table.specs.declared.events.Field.TheVariants as field
use Rattle.plain_table.specs.declared.reports.Compaction.TheVariants.{NoArea, Done, Aborted}
use Rattle.plain_table.specs.Index.{index_of, word_of}
use Rattle.plain_table.specs.Area.{count_below}
use Rattle.plain_table.specs.Cycle.{Cycle, is_from, moves_from}
use Rattle.plain_table.specs.Table.{Table, Sizes, limit_of}
use Rattle.plain_table.specs.Finish.{target, rewritten}
use Rattle.plain_table.specs.Words.{area_word}
use Rattle.plain_table.specs.Shows.{entry_at}
use Rattle.plain_table.specs.Sound.{entries_in}
use Rattle.plain_table.specs.Sweeps.{compaction_by, cells_in}
use Rattle.plain_table.proofs.Options.{IsSomeAnd-is}
use Rattle.plain_table.proofs.CycleParts.{CycleSound-is}
use Rattle.plain_table.proofs.FreeLists.{count_below-same}
use Rattle.table_laws.proofs.FinishMoves.{target-outside}
use Rattle.word_laws.specs.Kinds.{is_evacuation_word, is_cell_word}
use Rattle.sweeper.specs.Pass.{moved_after, entries_from}
use Rattle.sweeper.specs.Moves.{external_base, IsMovedAt, IsMoving}
use Rattle.sweeper.specs.Whole.{IsShown, IsResolved, moving_of, compaction_of}
use Rattle.word_laws.proofs.WordKinds.{evacuation-kind}
use Rattle.word_laws.proofs.EntryKinds.{cell-kind-at, no_cell-kind-at}
use Rattle.sweeper.proofs.Still.{IsReady-still}
use Rattle.sweeper.proofs.MoveSteps.{target-start, moves_from-start}
use Rattle.sweeper.proofs.Moved.{start-below, start-within, target-later, IsReady-moved, fields-moved}
use Rattle.sweeper.proofs.Finished.{cells-counted}

-- the area word, by the start and the abort
area_means : (start : Option ℕ) (aborted : Bool) (word : ℕ) → word ≡ unwrap_or start 0 + (if aborted then 2 ^ 32 else 0) →
    ((n : ℕ) → start ≡ Some n → (1 ≤ n) × (n < 2 ^ 32)) → (aborted ≡ true → IsTrue (is_some start)) →
    (moving_of word ≡ (if aborted then None else start)) × (compaction_of word ≡ compaction_by start aborted)
area_means None true word is few aborts = absurd (cc (aborts refl))
area_means None false word is few aborts =
    let zero_word : word ≡ 0 = omega (arith, is) in (
      cond-true ((word == 0) || nat_le (2 ^ 32) word) None (Some word) (or_left (word == 0) (nat_le (2 ^ 32) word) (eq-eqb word 0 zero_word)),
      cond-true (word == 0) NoArea (if nat_le (2 ^ 32) word then Aborted else Done) (eq-eqb word 0 zero_word),
    )
area_means (Some n) true word is few aborts =
    let small = few n refl in
    let high : 2 ^ 32 ≤ word = omega (arith, is) in (
      cond-true ((word == 0) || nat_le (2 ^ 32) word) None (Some word) (or_right (word == 0) (nat_le (2 ^ 32) word) (le-leb (2 ^ 32) word high)),
      cond-false (word == 0) NoArea (if nat_le (2 ^ 32) word then Aborted else Done) (ne_eqb word 0 (λ e. omega (arith, e, high)))
          ∙ cond-true (nat_le (2 ^ 32) word) Aborted Done (le-leb (2 ^ 32) word high),
    )
area_means (Some n) false word is few aborts =
    let small = few n refl in
    let same : word ≡ n = omega (arith, is) in (
      cond-false ((word == 0) || nat_le (2 ^ 32) word) None (Some word)
          (or_from (word == 0) (nat_le (2 ^ 32) word) (ne_eqb word 0 (λ e. omega (arith, e, same, small.0))) (lt-leb (2 ^ 32) word (omega (arith, same, small.1))))
          ∙ ap Some same,
      cond-false (word == 0) NoArea (if nat_le (2 ^ 32) word then Aborted else Done) (ne_eqb word 0 (λ e. omega (arith, e, same, small.0)))
          ∙ cond-false (nat_le (2 ^ 32) word) Aborted Done (lt-leb (2 ^ 32) word (omega (arith, same, small.1))),
    )

module _ (s : Table) (c : Cycle) (words : List ℕ) (sizes : Sizes) (h : IsShown s c words sizes) where
  abbrev base : ℕ
  base = external_base s

  -- what the area word area_means
  area_is : slice_index words 1 ≡ unwrap_or c.start 0 + (if c.aborted then 2 ^ 32 else 0)
  area_is = h.shows.area ∙ ap area_word h.cycle

  start-small : (start : ℕ) → c.start ≡ Some start → (1 ≤ start) × (start < 2 ^ 32)
  start-small start is =
      let area = (CycleSound-is s c h.sound h.cycle).area.segment start is in
      let below = start-within s c h.sound h.cycle start is in
      (omega (arith, area.1, h.small.seg), omega (arith, below, h.small.few External))

  area-means : (moving_of (slice_index words 1) ≡ moves_from c) × (compaction_of (slice_index words 1) ≡ compaction_by c.start c.aborted)
  area-means = area_means c.start c.aborted (slice_index words 1) area_is start-small (λ aborted. (CycleSound-is s c h.sound h.cycle).area.aborts aborted)

  pub moving-is : moving_of (slice_index words 1) ≡ moves_from c
  moving-is = area-means.0

  pub compaction-is : compaction_of (slice_index words 1) ≡ compaction_by c.start c.aborted
  compaction-is = area-means.1

  pub words-whole : external_base s + limit_of s External + limit_of s Trusted ≡ length words
  words-whole = sym h.shows.whole

  pub IsMoving-shown : (base limit start : ℕ) → base ≡ 32 + 8 * sizes.objects → limit ≡ sizes.seg * sizes.ext → moving_of (slice_index words 1) ≡ Some start →
      IsMoving s c words base limit start
  IsMoving-shown base limit start is_base is_limit moving = record {
    sound = h.sound;
    cycle = h.cycle;
    small = h.small;
    at_base = is_base ∙ ap (λ (z : Sizes). 32 + 8 * z.objects) (sym h.same);
    at_limit = is_limit ∙ ap (λ (z : Sizes). z.seg * z.ext) (sym h.same);
    moves = sym moving-is ∙ moving;
    whole = omega (arith, words-whole);
    space = (slice_index words 0, h.shows.external.0, h.shows.external.1);
    fields = λ n few. h.shows.fields (field.External n) few;
  }

  external-counted : count_below (λ i. is_cell_word (slice_index words (external_base s + i))) (limit_of s External) ≡ cells_in s External
  external-counted = cells-counted s c h.sound h.cycle h.small External (λ i. slice_index words (external_base s + i)) (slice_index words 0) h.shows.external.0 h.shows.external.1

  pub IsResolved-still : moves_from c ≡ None → IsResolved s c words words (limit_of s External)
  IsResolved-still still = record {
    long = refl;
    ready = IsReady-still s c h.sound h.cycle h.small External (λ i. slice_index words (external_base s + i)) (slice_index words 0) h.shows.external.0 h.shows.external.1 (λ same. still);
    fields = λ n few. h.shows.fields (field.External n) few ∙ sym (kept n);
    rest = λ place out no_field. refl;
    many = external-counted;
    moved = count_below-same (λ i. is_some (target c s.words i)) (moved_after (entries_from words (external_base s)) (limit_of s External)) (limit_of s External)
        (λ i below. and_left (nat_le (limit_of s External) i) (is_evacuation_word (entries_from words (external_base s) i)) (lt-leb (limit_of s External) i below) ∙ sym (ap is_some (no_target i)));
  }
    where
      no_target : (i : ℕ) → target c s.words i ≡ None
      no_target i = target-outside c s.words i (ap (λ o. is_from o i) still)

      choose : (seen : Bool) (to : Option ℕ) (w : ℕ) → to ≡ None → (if seen then option_map_or word_of to w else w) ≡ w
      choose true to w none = ap (λ o. option_map_or word_of o w) none
      choose false to w none = refl

      kept : (n : ℕ) → rewritten c s.words (field.External n) ≡ s.words (field.External n)
      kept n = choose (c.visited n) (target c s.words (index_of (s.words (field.External n)))) (s.words (field.External n)) (no_target (index_of (s.words (field.External n))))

  pub IsResolved-moved : (start : ℕ) (now : List ℕ) → moves_from c ≡ Some start → IsMovedAt s c start words now 1 → IsResolved s c words now start
  IsResolved-moved start now moves moved = record {
    long = moved.long;
    ready = IsReady-moved s c h.sound h.cycle h.small start moves words now whole (slice_index words 0) h.shows.external.0 h.shows.external.1 moved;
    fields = fields-moved s c h.sound h.cycle h.small start moves words now whole (slice_index words 0) h.shows.external.0 h.shows.external.1 moved;
    rest = moved.rest;
    many = moved.many ∙ external-counted;
    moved = count_below-same (λ i. is_some (target c s.words i)) (moved_after (entries_from now (external_base s)) start) (limit_of s External) (λ i below. by i below (target c s.words i) refl);
  }
    where
      whole : external_base s + limit_of s External ≤ length words
      whole = omega (arith, words-whole)

      entry : ℕ → ℕ
      entry i = slice_index now (external_base s + i)

      limits : (i d : ℕ) → target c s.words i ≡ Some d → (d < start) × (start ≤ i)
      limits = target-start s c h.sound h.cycle h.small start moves words whole

      by : (i : ℕ) → i < limit_of s External → (found : Option ℕ) → target c s.words i ≡ found → (nat_le start i && is_evacuation_word (entry i)) ≡ is_some (target c s.words i)
      by i below (Some d) to =
          and_from (nat_le start i) (is_evacuation_word (entry i)) (le-leb start i (limits i d to).1)
          (ap is_evacuation_word (moved.forwarded i d (target-later s c h.sound h.cycle i d to) to)
          ∙ (evacuation-kind d (omega (arith, (limits i d to).0, start-below s c h.sound h.cycle start moves, h.small.few External))).is_evacuation)
          ∙ sym (ap is_some to)
      by i below None none = elim (cases_lt i start) [
        | inl less ↦ and_left (nat_le start i) (is_evacuation_word (entry i)) (lt-leb start i less) ∙ sym (ap is_some none)
        | inr from ↦
            and_right (nat_le start i) (is_evacuation_word (entry i))
            (ap is_evacuation_word (moved.standing i from below (λ d more to. none-some d (sym none ∙ to))) ∙ quiet from (s.cells External i) refl)
            ∙ sym (ap is_some none)
      ]
        where
          no_entry : start ≤ i → (found : Option ℕ) → c.evac i ≡ found → entry_at s External i ≡ None
          no_entry from None there = ap (λ o. entries_in o i) h.cycle ∙ there
          no_entry from (Some k) there =
              let area = (CycleSound-is s c h.sound h.cycle).area.entries i k there in
              let under : i < start = IsSomeAnd-is c.start (λ first. i < first) start (moves_from-start c start moves) area.0 in
              absurd (omega (arith, under, from))

          quiet : start ≤ i → (found : Option Cell) → s.cells External i ≡ found → is_evacuation_word (slice_index words (external_base s + i)) ≡ false
          quiet from None stands =
              (no_cell-kind-at s c h.sound h.cycle h.small External (λ i. slice_index words (external_base s + i)) (slice_index words 0) h.shows.external.0 h.shows.external.1 i below stands).is_evacuation
              ∙ ap is_some (no_entry from (c.evac i) refl)
          quiet from (Some cell) stands =
              (cell-kind-at s c h.sound h.cycle h.small External (λ i. slice_index words (external_base s + i)) (slice_index words 0) h.shows.external.0 h.shows.external.1 i cell stands).is_evacuation
