-- An abort of the compaction, once the least free index lies in the evacuation area: no index below the area is left free.
use Rattle.std.proofs.Common.{◌≡◌, ℕ, ◌+◌, ◌-◌, ◌%◌, ◌^◌, ◌≤◌, ◌==◌, Bool, true, false, Option, Some, None, unwrap_or, refl, sym, ap, subst, ◌∙◌, inl, inr, arith, le-ltb, get_or-set_other, true≢false}
use Rattle.std.specs.Prelude.{if◌then◌else◌, ◌&&◌, not, nat_le, IfSome, IsTrue, slice_index, slice_set}
use Rattle.std.proofs.lemmas.Bool.{both_ways, cases_lt, le-leb, leb-true}
use Rattle.std.proofs.lemmas.Option.{none-some}
use Rattle.plain_table.specs.declared.events.Act.TheVariants.{Abort}
use Rattle.plain_table.specs.declared.events.Space.TheVariants.{External}
use Rattle.plain_table.specs.declared.reports.Reply.TheVariants as reply
use Rattle.plain_table.specs.Cycle.{Cycle, aborted_in, is_from, is_in_area, start_in}
use Rattle.plain_table.specs.Table.{Table, least_free, limit_of}
use Rattle.plain_table.specs.Words.{area_place, area_word, header_place}
use Rattle.plain_table.specs.Rows.{free_below, only_below, with_taken}
use Rattle.plain_table.specs.History.{IsLegal}
use Rattle.plain_table.specs.Shapes.{event}
use Rattle.plain_table.specs.Shows.{Image, Shows}
use Rattle.plain_table.proofs.FreeLists.{least_from-before}
use Rattle.plain_table.proofs.FreeReads.{least_free-some}
use Rattle.plain_table.proofs.Options.{IsSomeAnd-by}
use Rattle.plain_table.proofs.PlaceReads.{put_entry-grows}
use Rattle.word_laws.specs.Small.{AreSmall}
use Rattle.word_laws.proofs.AreaReads.{AreaWordsTell-shown}
use Rattle.word_laws.proofs.CountWords.{AreaWordsFollow-row}
use Rattle.mutator_calls.specs.Calls.{Sees}
use Rattle.mutator_calls.specs.Inits.{is_above}
use Rattle.mutator_calls.proofs.Seen.{Sees-words}

-- no index below a start is free where the least free one is not below it
only_below-past : (start : ℕ) (found : Option ℕ) → ((j : ℕ) → found ≡ Some j → start ≤ j) → only_below start found ≡ None
only_below-past start None past = refl
only_below-past start (Some j) past = ap (λ (test : Bool). if test then Some j else None) (le-ltb j start (past j refl))

-- nor where it was not before it was taken
pub free_below-taken : (s : Table) (i start : ℕ) → least_free s External ≡ Some i → start ≤ i → free_below (with_taken s 0 External (Some i)) start ≡ None
free_below-taken s i start found past = only_below-past start (least_free (with_taken s 0 External (Some i)) External) later
  where
    later : (j : ℕ) → least_free (with_taken s 0 External (Some i)) External ≡ Some j → start ≤ j
    later j is = elim (cases_lt j i) [
      | inl less ↦
          let free = least_free-some (with_taken s 0 External (Some i)) External j is in
          let some = free.1 in
          let used = least_from-before (s.used External) 1 (limit_of s External - 1) i found j (omega (arith, some)) less in
          absurd (both_ways ((with_taken s 0 External (Some i)).used External j) free.0 (put_entry-grows s.used External i External j used))
      | inr more ↦ omega (arith, more, past)
    ]

-- the area word of an aborted cycle
area_word-aborted : (cycle : Option Cycle) (start : ℕ) → start_in cycle ≡ Some start → area_word (aborted_in cycle) ≡ start + 2 ^ 32
area_word-aborted None start begins = absurd (none-some start begins)
area_word-aborted (Some c) start begins = ap (λ o. unwrap_or o 0 + 2 ^ 32) begins

module _ (image : Image) (s : Table) (h : Sees image s) (start : ℕ) (begins : start_in s.cycle ≡ Some start) (none : free_below s start ≡ None) where
  pub IsLegal-abort : IsLegal s (event 0 Abort reply.Ok)
  IsLegal-abort = (IsSomeAnd-by (start_in s.cycle) start (λ first. free_below s first ≡ None) begins none, refl)

  pub Sees-abort : Sees (record image { words = slice_set image.words area_place (start + 2 ^ 32) }) (record s { cycle = aborted_in s.cycle })
  Sees-abort =
      Sees-words image s (event 0 Abort reply.Ok) h IsLegal-abort tt (slice_set image.words area_place (start + 2 ^ 32))
      (subst (λ w. Shows (slice_set image.words area_place w) (record s { cycle = aborted_in s.cycle })) (area_word-aborted s.cycle start begins)
      (AreaWordsFollow-row image.words s (event 0 Abort reply.Ok) h.shows.words IsLegal-abort refl))
      (λ o below. get_or-set_other image.words area_place (header_place o) (start + 2 ^ 32) 0 (λ same. omega (arith, same)))
      refl refl refl

-- what the area word tells of an index
is_from-area : (none : Bool) (start i : ℕ) → is_from (if none then None else Some start) i ≡ (not none && nat_le start i)
is_from-area true start i = refl
is_from-area false start i = refl

pub is_above-shown : (image : Image) (s : Table) → Sees image s → AreSmall s.sizes → (i : ℕ) → is_in_area s.cycle i ≡ is_above (slice_index image.words area_place) i
is_above-shown image s h small i =
    let area = slice_index image.words area_place in
    ap (λ o. is_from o i) (AreaWordsTell-shown image.words s h.sound small h.shows.words).start
    ∙ is_from-area (area % 2 ^ 32 == 0) (area % 2 ^ 32) i

-- the start that an index lies above
pub start-above : (start : Option ℕ) (word i : ℕ) → start ≡ (if word % 2 ^ 32 == 0 then None else Some (word % 2 ^ 32)) → is_from start i ≡ true →
    (start ≡ Some (word % 2 ^ 32)) × (word % 2 ^ 32 ≤ i)
start-above start word i is above = by (word % 2 ^ 32 == 0) is
  where
    by : (none : Bool) → start ≡ (if none then None else Some (word % 2 ^ 32)) → (start ≡ Some (word % 2 ^ 32)) × (word % 2 ^ 32 ≤ i)
    by true none = absurd (true≢false (sym above ∙ ap (λ o. is_from o i) none))
    by false some = (some, leb-true (word % 2 ^ 32) i (sym (ap (λ o. is_from o i) some) ∙ above))

-- an index may be filled outside the area, and after an abort
pub IfSome-outside : (cycle : Option Cycle) (i : ℕ) → is_in_area cycle i ≡ false →
    IfSome cycle (λ c. IfSome c.start (λ start. start ≤ i → IsTrue c.aborted))
IfSome-outside None i outside = tt
IfSome-outside (Some c) i outside = by c.start outside
  where
    by : (found : Option ℕ) → is_from found i ≡ false → IfSome found (λ start. start ≤ i → IsTrue c.aborted)
    by None out = tt
    by (Some start) out = λ within. absurd (both_ways (nat_le start i) out (le-leb start i within))

pub IfSome-aborted : (cycle : Option Cycle) (i : ℕ) → IfSome (aborted_in cycle) (λ c. IfSome c.start (λ start. start ≤ i → IsTrue c.aborted))
IfSome-aborted None i = tt
IfSome-aborted (Some c) i = by c.start
  where
    by : (found : Option ℕ) → IfSome found (λ start. start ≤ i → IsTrue true)
    by None = tt
    by (Some start) = λ within. refl
