-- Steadiness of the cycle: after an event other than its start and finish it is under way where it was, and its marks,
-- entries, births, scans, touched words and an abort stay.
use Rattle.std.proofs.Common.{◌≡◌, ℕ, Option, Some, None, option_map, ◌∙◌, subst, inl, inr}
use Rattle.std.specs.Prelude.{nat_lt, ◌==◌}
use Rattle.plain_table.specs.declared.events.Act.{Act}
use Rattle.plain_table.specs.declared.events.Act.TheVariants.{New, Link, Take, Below, Abort, Put, Bind, Set, Swap, Forge, Publish, Mark, Evac, Scan, Start, Finish}
use Rattle.plain_table.specs.declared.events.Space.{Space}
use Rattle.plain_table.specs.declared.events.Space.TheVariants.{External, Trusted}
use Rattle.plain_table.specs.declared.events.Field.{Field}
use Rattle.plain_table.specs.declared.events.Field.TheVariants as field
use Rattle.plain_table.specs.declared.events.Spot.TheVariants.{Global, Ref}
use Rattle.plain_table.specs.declared.reports.Reply.{Reply}
use Rattle.plain_table.specs.Index.{index_of}
use Rattle.plain_table.specs.Places.{put_at}
use Rattle.plain_table.specs.Cycle.{Cycle, with_mark, with_birth, with_scan, with_word, with_abort, evacuated_in}
use Rattle.plain_table.specs.Table.{Table, least_free}
use Rattle.plain_table.specs.Rows.{row, free_below, with_object, with_bound, with_unbound}
use Rattle.plain_table.specs.History.{IsLegal}
use Rattle.plain_table.specs.Sound.{IsSound, entries_in}
use Rattle.table_laws.specs.Steady.{IsDuringPhase, CycleSteady, CyclesSteady}
use Rattle.plain_table.proofs.PlaceReads.{read_at, put_at-grows, put_entry-grows, put_field-grows}
use Rattle.plain_table.proofs.Branches.{if_either, with_taken_either}

CycleSteady-same : (c : Cycle) → CycleSteady c c
CycleSteady-same c = search

-- each change of a cycle leaves it steady
CycleSteady-mark : (p : Space) (i : ℕ) (c : Cycle) → CycleSteady c (with_mark p i c)
CycleSteady-mark p i c = search put_entry-grows

CycleSteady-birth : (o : ℕ) (c : Cycle) → CycleSteady c (with_birth o c)
CycleSteady-birth o c = search put_at-grows

CycleSteady-scan : (o : ℕ) (c : Cycle) → CycleSteady c (with_scan o c)
CycleSteady-scan o c = search put_at-grows

pub CycleSteady-word : (f : Field) (w : ℕ) (c : Cycle) → CycleSteady c (with_word f w c)
CycleSteady-word f w c = search (put_field-grows c.came f w)

CycleSteady-abort : (c : Cycle) → CycleSteady c (with_abort c)
CycleSteady-abort c = search

pub CyclesSteady-same : (o : Option Cycle) → CyclesSteady o o
CyclesSteady-same None = tt
CyclesSteady-same (Some c) = CycleSteady-same c

pub CyclesSteady-changed : (o : Option Cycle) {change : Cycle → Cycle} → ((c : Cycle) → CycleSteady c (change c)) → CyclesSteady o (option_map change o)
CyclesSteady-changed None steady = tt
CyclesSteady-changed (Some c) steady = steady c

-- an evacuation entry comes only to an index that had none
CyclesSteady-evacuated : (o : Option Cycle) (i number : ℕ) → entries_in o i ≡ None → CyclesSteady o (evacuated_in o i number)
CyclesSteady-evacuated None i number empty = tt
CyclesSteady-evacuated (Some c) i number empty = search (put_at-grows, entries)
  where
    entries : (j m : ℕ) → c.evac j ≡ Some m → put_at c.evac i (Some number) j ≡ Some m
    entries j m h = elim (read_at (Some number) c.evac i j) [
      | inl r ↦ absurd (let clash : c.evac j ≡ None = subst (λ x. c.evac x ≡ None) r.0 empty in cc)
      | inr r ↦ r.1 ∙ h
    ]

pub CyclesSteady-row : (s : Table) (b : ℕ) (a : Act) (said : Reply) → IsSound s → IsLegal s (record { by = b; act = a; said = said }) → IsDuringPhase a →
    CyclesSteady s.cycle (row s b a).next.cycle
CyclesSteady-row s b (New var) said h k during =
    if_either (λ t. CyclesSteady s.cycle t.cycle) (nat_lt s.count s.sizes.objects) (with_object s b var) s
    (CyclesSteady-changed s.cycle (CycleSteady-birth s.count)) (CyclesSteady-same s.cycle)
CyclesSteady-row s b (Link (Global g) var) said h k during = CyclesSteady-same s.cycle
CyclesSteady-row s b (Link (Ref object n) var) said h k during = CyclesSteady-same s.cycle
CyclesSteady-row s b (Take p) said h k during =
    with_taken_either (λ t. CyclesSteady s.cycle t.cycle) s b p (least_free s p) (CyclesSteady-same s.cycle) (λ i. CyclesSteady-same s.cycle)
CyclesSteady-row s b (Below start) said h k during =
    with_taken_either (λ t. CyclesSteady s.cycle t.cycle) s b External (free_below s start) (CyclesSteady-same s.cycle)
    (λ i. CyclesSteady-same s.cycle)
CyclesSteady-row s b Abort said h k during = CyclesSteady-changed s.cycle CycleSteady-abort
CyclesSteady-row s b (Put p i tag value) said h k during = CyclesSteady-changed s.cycle (CycleSteady-mark p i)
CyclesSteady-row s b (Bind f w) said h k during =
    if_either (λ t. CyclesSteady s.cycle t.cycle) (s.words f == 0) (with_bound s b f w) (with_unbound s b f w)
    (CyclesSteady-changed s.cycle (CycleSteady-word f w)) (CyclesSteady-same s.cycle)
CyclesSteady-row s b (Set w first last value) said h k during = CyclesSteady-changed s.cycle (CycleSteady-mark External (index_of w))
CyclesSteady-row s b (Swap w first last value) said h k during = CyclesSteady-changed s.cycle (CycleSteady-mark External (index_of w))
CyclesSteady-row s b (Forge number w) said h k during = CyclesSteady-changed s.cycle (CycleSteady-word (field.External number) w)
CyclesSteady-row s b (Publish i) said h k during = CyclesSteady-changed s.cycle (CycleSteady-mark Trusted i)
CyclesSteady-row s b (Mark p i) said h k during = CyclesSteady-changed s.cycle (CycleSteady-mark p i)
CyclesSteady-row s b (Evac i number) said h k during =
    CyclesSteady-evacuated s.cycle i number (h.used.claim_or_entry b i k.0.0)
CyclesSteady-row s b (Scan o) said h k during = CyclesSteady-changed s.cycle (CycleSteady-scan o)
CyclesSteady-row s b (Start policy) said h k during = absurd during
CyclesSteady-row s b Finish said h k during = absurd during
CyclesSteady-row s b _ said h k during = CyclesSteady-same s.cycle
