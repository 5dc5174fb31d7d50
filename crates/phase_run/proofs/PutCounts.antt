-- How many external cells a phase puts: those that the calls of its mutators put, by their replies; markers put none.
use Rattle.std.proofs.Common.{◌≡◌, ◌≢◌, ◌⊎◌, ℕ, zero, suc, ◌+◌, ◌<◌, ◌≤◌, Bool, List, [], ◌∷◌, length, if◌then◌else◌, refl, sym, ap, subst, ◌∙◌, inl, inr, arith, ne_eqb}
use Rattle.std.specs.Prelude.{slice_index_or}
use Rattle.std.specs.List.{All, AllByRecursion}
use Rattle.std.proofs.lemmas.Bool.{cases_lt}
use Rattle.std.proofs.lemmas.List.Elements.{recursion_from_All}
use Rattle.plain_table.specs.declared.scripts.Limits.{Limits}
use Rattle.plain_table.specs.declared.scripts.Op.{Op}
use Rattle.plain_table.specs.declared.events.Event.{Event}
use Rattle.plain_table.specs.declared.reports.Reply.{Reply}
use Rattle.plain_table.specs.Belongs.{IsMarker, events_by, is_external_put}
use Rattle.plain_table.specs.Table.{Table}
use Rattle.plain_table.specs.History.{IsLegalHistory}
use Rattle.plain_table.specs.Scans.{IsReadConcurrently, Rest, Scans}
use Rattle.plain_table.specs.Shapes.{MakesCalls, with_ticket}
use Rattle.call_base.specs.ScanParts.{any_object}
use Rattle.entry_base.specs.Lists.{Each}
use Rattle.phase_calls.specs.Calls.{puts_of}
use Rattle.phase_calls.proofs.CallRows.{MakesCalls-puts}
use Rattle.phase_calls.proofs.HistoryEvents.{BindsSay-legal, Each-events_by, count_by-numbers, sum_below}
use Rattle.phase_calls.proofs.ShapeEvents.{BindsSay}
use Rattle.phase_run.specs.Meets.{puts_in}
use Rattle.phase_run.specs.Run.{puts_of_all}
use Rattle.phase_run.proofs.MeetRuns.{scans_quiet}

-- sums over numbers, from the first one on
sum_below-first : (f : ℕ → ℕ) (n : ℕ) → sum_below f (suc n) ≡ f 0 + sum_below (λ b. f (suc b)) n
sum_below-first f zero = omega arith
sum_below-first f (suc n) = let rest = sum_below-first f n in omega (arith, rest)

sum_below-none : (f : ℕ → ℕ) (n : ℕ) → ((b : ℕ) → f b ≡ 0) → sum_below f n ≡ 0
sum_below-none f zero none = refl
sum_below-none f (suc n) none = let rest = sum_below-none f n none in let here = none n in omega (arith, rest, here)

puts_of_all-sum : (calls : List (List Op)) (replies : List (List Reply)) (f : ℕ → ℕ) (n : ℕ) → length calls ≤ n → length replies ≡ length calls →
    ((b : ℕ) → b < length calls → f b ≡ puts_of (slice_index_or calls b []) (slice_index_or replies b [])) → ((b : ℕ) → length calls ≤ b → f b ≡ 0) →
    puts_of_all calls replies ≡ sum_below f n
puts_of_all-sum [] [] f n few same puts none = sym (sum_below-none f n (λ b. none b (omega arith)))
puts_of_all-sum [] (r ∷ replies) f n few same puts none = absurd (omega (arith, same))
puts_of_all-sum (c ∷ calls) [] f n few same puts none = absurd (omega (arith, same))
puts_of_all-sum (c ∷ calls) (r ∷ replies) f zero few same puts none = absurd (omega (arith, few))
puts_of_all-sum (c ∷ calls) (r ∷ replies) f (suc n) few same puts none =
    let first = puts 0 (omega arith) in
    let rest = puts_of_all-sum calls replies (λ b. f (suc b)) n (omega (arith, few)) (omega (arith, same))
    (λ b less. puts (suc b) (omega (arith, less))) (λ b past. none (suc b) (omega (arith, past))) in
    let all = sum_below-first f n in
    omega (arith, first, rest, all)

-- a number that makes no event
events_by-none : (b : ℕ) (es : List Event) → Each (λ (e : Event). e.by ≢ b) es → events_by b es ≡ []
events_by-none b [] none = refl
events_by-none b (e ∷ es) none = ap (λ (own : Bool). if own then e ∷ events_by b es else events_by b es) (ne_eqb e.by b none.0) ∙ events_by-none b es none.1

each_of : (P Q : Event → Type 0) (es : List Event) → ((e : Event) → P e → Q e) → All P es → Each Q es
each_of P Q es each all = by es (recursion_from_All P es all)
  where
    by : (es : List Event) → AllByRecursion P es → Each Q es
    by [] all = tt
    by (e ∷ es) all = (each e all.0, by es all.1)

module _ (limits : Limits) (calls : List (List Op)) (replies : List (List Reply)) (s : Table) (es : List Event) (mutators : limits.mutators ≤ 8) (markers : limits.markers ≤ 4)
    (called : length calls ≡ limits.mutators) (said : length replies ≡ limits.mutators) (legal : IsLegalHistory s es)
    (made : (b : ℕ) → b < limits.mutators → MakesCalls b s.cycle (s.vars b) (with_ticket (s.ticket b)) (slice_index_or calls b []) (slice_index_or replies b []) (events_by b es))
    (scans : (b : ℕ) → IsMarker limits b → Scans any_object IsReadConcurrently b Rest s es Rest)
    (numbers : All (λ (e : Event). (e.by < limits.mutators) ⊎ IsMarker limits e.by) es) where
  twelve : (e : Event) → (e.by < limits.mutators) ⊎ IsMarker limits e.by → e.by < 12
  twelve e (inl mutator) = omega (arith, mutator, mutators)
  twelve e (inr marker) = let most = marker.1 in omega (arith, most, markers)

  apart : (b : ℕ) → limits.mutators ≤ b → (IsMarker limits b → ⊥) → (e : Event) → (e.by < limits.mutators) ⊎ IsMarker limits e.by → e.by ≢ b
  apart b past none e (inl mutator) is = omega (arith, past, mutator, is)
  apart b past none e (inr marker) is = none (subst (IsMarker limits) is marker)

  others_put-none : (b : ℕ) → limits.mutators ≤ b → puts_in (events_by b es) ≡ 0
  others_put-none b past = elim (cases_lt b 8) [
    | inl low ↦ quiet (λ marker. let from = marker.0 in omega (arith, low, from))
    | inr high ↦ elim (cases_lt b (8 + limits.markers)) [
      | inl less ↦ scans_quiet any_object IsReadConcurrently b Rest Rest s es (scans b (high, less))
      | inr above ↦ quiet (λ marker. let to = marker.1 in omega (arith, above, to))
    ]
  ]
    where
      quiet : (IsMarker limits b → ⊥) → puts_in (events_by b es) ≡ 0
      quiet none = ap puts_in (events_by-none b es (each_of _ (λ (e : Event). e.by ≢ b) es (apart b past none) numbers))

  pub puts_of_all-phase : puts_of_all calls replies ≡ puts_in es
  puts_of_all-phase =
      puts_of_all-sum calls replies (λ b. puts_in (events_by b es)) 12 (omega (arith, called, mutators)) (said ∙ sym called)
      (λ b less. MakesCalls-puts b s.cycle (s.vars b) (with_ticket (s.ticket b)) (slice_index_or calls b []) (slice_index_or replies b []) (events_by b es)
      (Each-events_by BindsSay b es (BindsSay-legal s es legal)) (made b (omega (arith, less, called))))
      (λ b past. others_put-none b (omega (arith, past, called)))
      ∙ sym (count_by-numbers (λ (e : Event). is_external_put e.act) 12 es (each_of _ (λ (e : Event). e.by < 12) es twelve numbers))
