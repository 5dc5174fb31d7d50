-- The steps of the laws of the marking invariant: a step with no event, and each event but the start of a cycle.
use Rattle.std.proofs.Common.{◌≡◌, ◌≢◌, ℕ, ◌==◌, Bool, true, false, nat_lt, Option, Some, None, option_map, refl, arith}
use Rattle.std.specs.Prelude.{if◌then◌else◌}
use Rattle.plain_table.specs.declared.events.Act.{Act}
use Rattle.plain_table.specs.declared.events.Act.TheVariants.{New, Drop, Get, Link, Take, Below, Abort, Put, Bind, Name, Look, Set, Swap, Forge, Publish, Mark, Evac, Scan, Start, Finish}
use Rattle.plain_table.specs.declared.events.Event.{Event}
use Rattle.plain_table.specs.declared.events.Space.{Space}
use Rattle.plain_table.specs.declared.events.Space.TheVariants.{External, Trusted}
use Rattle.plain_table.specs.declared.events.Field.{Field}
use Rattle.plain_table.specs.declared.events.Field.TheVariants as field
use Rattle.plain_table.specs.declared.events.Spot.TheVariants.{Global, Ref}
use Rattle.plain_table.specs.declared.scripts.Policy.{Policy}
use Rattle.plain_table.specs.Index.{index_of}
use Rattle.plain_table.specs.Cycle.{Cycle, IsOld, with_mark, with_birth, with_scan, with_word, with_entry, with_abort}
use Rattle.plain_table.specs.Table.{Table, least_free}
use Rattle.plain_table.specs.Rows.{row, free_below, with_object, with_taken, with_bound, with_unbound, finished_in}
use Rattle.plain_table.specs.History.{next}
use Rattle.plain_table.specs.Sound.{IsSound}
use Rattle.word_laws.specs.CoverLaws.{StaysOld, HasReferencesWithin, IsStep}

-- the references of a sound table are to objects within the limit
pub HasReferencesWithin-sound : (s : Table) → IsSound s → HasReferencesWithin s
HasReferencesWithin-sound s sound o k q holds = omega (arith, (sound.objects.references o k q holds).2, sound.objects.few)

-- a cycle that stays, or changes and keeps what was old
pub StaysOld-same : (cycle : Option Cycle) → StaysOld cycle cycle
StaysOld-same None = tt
StaysOld-same (Some c) = λ o old. old

StaysOld-changed : (change : Cycle → Cycle) (cycle : Option Cycle) → ((c : Cycle) (o : ℕ) → IsOld c o → IsOld (change c) o) →
    StaysOld cycle (option_map change cycle)
StaysOld-changed change None old = tt
StaysOld-changed change (Some c) old = old c

pub IsStep-same : (s : Table) → IsSound s → IsStep s s
IsStep-same s sound = record { within = HasReferencesWithin-sound s sound; sizes = refl; old = StaysOld-same s.cycle }

module _ (s : Table) (within : HasReferencesWithin s) where
  -- a table with the same cycle, and one with a changed one
  stays : IsStep s s
  stays = record { within = within; sizes = refl; old = StaysOld-same s.cycle }

  IsStep-object : (b var : ℕ) (room : Bool) → IsStep s (if room then with_object s b var else s)
  IsStep-object b var true = record { within = within; sizes = refl; old = StaysOld-changed (with_birth s.count) s.cycle (λ c o old. old) }
  IsStep-object b var false = stays

  IsStep-taken : (b : ℕ) (p : Space) (found : Option ℕ) → IsStep s (with_taken s b p found)
  IsStep-taken b p None = stays
  IsStep-taken b p (Some i) = record { within = within; sizes = refl; old = StaysOld-same s.cycle }

  IsStep-bound : (b : ℕ) (f : Field) (w : ℕ) (empty : Bool) → IsStep s (if empty then with_bound s b f w else with_unbound s b f w)
  IsStep-bound b f w true = record { within = within; sizes = refl; old = StaysOld-changed (with_word f w) s.cycle (λ c o old. old) }
  IsStep-bound b f w false = record { within = within; sizes = refl; old = StaysOld-same s.cycle }

  IsStep-finished : (cycle : Option Cycle) → s.cycle ≡ cycle → IsStep s (finished_in s cycle)
  IsStep-finished None is = stays
  IsStep-finished (Some c) is = record { within = within; sizes = refl; old = tt }

  IsStep-row : (b : ℕ) (a : Act) → ((policy : Policy) → a ≢ Start policy) → IsStep s (row s b a).next
  IsStep-row b (New var) apart = IsStep-object b var (nat_lt s.count s.sizes.objects)
  IsStep-row b (Link (Global g) var) apart = record { within = within; sizes = refl; old = StaysOld-same s.cycle }
  IsStep-row b (Link (Ref o k) var) apart = record { within = within; sizes = refl; old = StaysOld-same s.cycle }
  IsStep-row b (Take p) apart = IsStep-taken b p (least_free s p)
  IsStep-row b (Below start) apart = IsStep-taken b External (free_below s start)
  IsStep-row b Abort apart = record { within = within; sizes = refl; old = StaysOld-changed with_abort s.cycle (λ c o old. old) }
  IsStep-row b (Put p i tag value) apart = record { within = within; sizes = refl; old = StaysOld-changed (with_mark p i) s.cycle (λ c o old. old) }
  IsStep-row b (Bind f w) apart = IsStep-bound b f w (s.words f == 0)
  IsStep-row b (Name f) apart = stays
  IsStep-row b (Look p w first last) apart = stays
  IsStep-row b (Drop var) apart = record { within = within; sizes = refl; old = StaysOld-same s.cycle }
  IsStep-row b (Get var spot) apart = record { within = within; sizes = refl; old = StaysOld-same s.cycle }
  IsStep-row b (Set w first last value) apart = record { within = within; sizes = refl; old = StaysOld-changed (with_mark External (index_of w)) s.cycle (λ c o old. old) }
  IsStep-row b (Swap w first last value) apart = record { within = within; sizes = refl; old = StaysOld-changed (with_mark External (index_of w)) s.cycle (λ c o old. old) }
  IsStep-row b (Forge number w) apart = record { within = within; sizes = refl; old = StaysOld-changed (with_word (field.External number) w) s.cycle (λ c o old. old) }
  IsStep-row b (Publish i) apart = record { within = within; sizes = refl; old = StaysOld-changed (with_mark Trusted i) s.cycle (λ c o old. old) }
  IsStep-row b (Mark p i) apart = record { within = within; sizes = refl; old = StaysOld-changed (with_mark p i) s.cycle (λ c o old. old) }
  IsStep-row b (Evac i number) apart = record { within = within; sizes = refl; old = StaysOld-changed (with_entry i number) s.cycle (λ c o old. old) }
  IsStep-row b (Scan o) apart = record { within = within; sizes = refl; old = StaysOld-changed (with_scan o) s.cycle (λ c m old. old) }
  IsStep-row b (Start policy) apart = absurd (apart policy refl)
  IsStep-row b Finish apart = IsStep-finished s.cycle refl

pub IsStep-next : (s : Table) (e : Event) → IsSound s → ((policy : Policy) → e.act ≢ Start policy) → IsStep s (next s e)
IsStep-next s e sound apart = IsStep-row s (HasReferencesWithin-sound s sound) e.by e.act apart
