-- A whole phase, as the session knows it that took all workers in.
use Rattle.std.proofs.Common.{◌≡◌, ◌⊎◌, ℕ, zero, suc, ◌+◌, ◌-◌, ◌<◌, ◌≤◌, false, List, [], ◌++◌, length, get_or, refl, sym, ap, subst, ◌∙◌, inl, inr, arith}
use Rattle.std.specs.List.{All, Contains, count_by}
use Rattle.std.proofs.lemmas.Bool.{cases_lt}
use Rattle.plain_table.specs.declared.scripts.Limits.{Limits}
use Rattle.plain_table.specs.declared.scripts.Op.{Op}
use Rattle.plain_table.specs.declared.events.Act.{Act}
use Rattle.plain_table.specs.declared.events.Act.TheVariants.{Scan}
use Rattle.plain_table.specs.declared.events.Event.{Event}
use Rattle.plain_table.specs.declared.reports.Reply.{Reply}
use Rattle.plain_table.specs.Belongs.{IsMarker, IsScannedIn, events_by}
use Rattle.plain_table.specs.Scans.{IsReadConcurrently, Rest, Scans}
use Rattle.plain_table.specs.Shapes.{MakesCalls, with_ticket}
use Rattle.plain_table.specs.Sweeps.{linked_after}
use Rattle.plain_table.specs.Table.{Table}
use Rattle.entry_base.specs.declared.view.Fact.TheVariants as fact
use Rattle.entry_base.specs.declared.view.Opening.{Opening}
use Rattle.entry_base.specs.declared.view.View.{View}
use Rattle.entry_base.specs.Histories.{IsPhaseHistory}
use Rattle.entry_base.specs.Lists.{Each, Has, StartsWith, count_in, total}
use Rattle.entry_base.specs.Numbers.{HasNumber, IsPhaseEvent}
use Rattle.entry_base.specs.Openings.{IsBase, phase_of}
use Rattle.entry_base.proofs.Sums.{each_has, each_last, each_map, has_count, total_append}
use Rattle.call_base.specs.ScanParts.{any_object}
use Rattle.call_base.proofs.ScanParts.{Scans-others}
use Rattle.phase_calls.specs.Calls.{linked_by}
use Rattle.phase_calls.proofs.CallRows.{MakesCalls-acts}
use Rattle.phase_calls.proofs.HistoryEvents.{count_by-numbers, sum_below}
use Rattle.phase_calls.proofs.LinkedObjects.{Contains-has, Has-contains, IsLinkless-by_scans, linked_after-has, linked_after-members, linked_by-none}
use Rattle.phase_calls.proofs.ShapeEvents.{IsCallAct, count_by-calls}
use Rattle.phases.specs.Phases.{is_scan}
use Rattle.phases.specs.Sessions.{TookIn}
use Rattle.phases.specs.Workers.{Worked}
use Rattle.phases.proofs.Lists.{All-each, Any-has, Each-at, Each-first, Each-has, Has-events, count-has, events_by-absent, events_by-none, total-at, total-none, total-some}
use Rattle.phases.proofs.Played.{Played}

-- the views of the markers after they ran: their numbers begin at 8, they hold nothing and cut nothing off, their events are scans,
-- and each object that was to scan is scanned by one of them
pub record MarkersWorked (key : Opening) (count : ℕ) (owed : List ℕ) (ms : List View) (scans : ℕ) : Type 0 where
  pub lists : length ms ≡ count
  pub number : (i : ℕ) (d : View) → i < count → HasNumber (get_or ms i d) (8 + i)
  pub hands : (i : ℕ) (d : View) → i < count → (o : ℕ) → count_in o (get_or ms i d).hands ≡ 0
  pub cut : (i : ℕ) (d : View) → i < count → (get_or ms i d).cut ≡ []
  pub scans_made : (i : ℕ) (d : View) → i < count → (s : Table) → IsBase key s → (h : List Event) → StartsWith h (get_or ms i d).seen →
      events_by (8 + i) h ≡ events_by (8 + i) (get_or ms i d).seen → Scans any_object IsReadConcurrently (8 + i) Rest s h Rest
  pub marked : 1 ≤ count → (o : ℕ) → Has owed o →
      (i : ℕ) × (i < count) × ((d : View) → (e : Event) × Has (events_by (8 + i) (get_or ms i d).seen) e × (e.act ≡ Scan o))
  pub counted : (d : View) → scans ≡ sum_below (λ i. count_by (λ (e : Event). is_scan e.act) (events_by (8 + i) (get_or ms i d).seen)) count

-- where there is none
pub MarkersWorked-none : (key : Opening) (owed : List ℕ) → MarkersWorked key 0 owed [] 0
MarkersWorked-none key owed = record {
  lists = refl;
  number = λ i d low. absurd (omega (arith, low));
  hands = λ i d low. absurd (omega (arith, low));
  cut = λ i d low. absurd (omega (arith, low));
  scans_made = λ i d low. absurd (omega (arith, low));
  marked = λ some. absurd (omega (arith, some));
  counted = λ d. refl;
}

-- sums over numbers: none at the first ones, and none at the last ones
sum_below-zero : (g : ℕ → ℕ) (n : ℕ) → ((b : ℕ) → b < n → g b ≡ 0) → sum_below g n ≡ 0
sum_below-zero g zero none = refl
sum_below-zero g (suc n) none = let a = none n (omega arith) in let r = sum_below-zero g n (λ b low. none b (omega (arith, low))) in omega arith

sum_below-from : (g : ℕ → ℕ) (from n : ℕ) → ((b : ℕ) → b < from → g b ≡ 0) → sum_below g (from + n) ≡ sum_below (λ i. g (from + i)) n
sum_below-from g from zero none = ap (sum_below g) (let z : from + 0 ≡ from = omega arith in z) ∙ sum_below-zero g from none
sum_below-from g from (suc n) none =
    let r = sum_below-from g from n none in
    let s : sum_below g (from + suc n) ≡ sum_below g (suc (from + n)) = ap (sum_below g) (let z : from + suc n ≡ suc (from + n) = omega arith in z) in
    omega (arith, r, s)

sum_below-until : (h : ℕ → ℕ) (count n : ℕ) → count ≤ n → ((i : ℕ) → count ≤ i → i < n → h i ≡ 0) → sum_below h n ≡ sum_below h count
sum_below-until h count zero low none = ap (sum_below h) (let z : 0 ≡ count = omega (arith, low) in z)
sum_below-until h count (suc n) low none = elim (cases_lt n count) [
  | inl all ↦ ap (sum_below h) (let z : suc n ≡ count = omega (arith, low, all) in z)
  | inr more ↦
      let r = sum_below-until h count n more (λ i from below. none i from (omega (arith, below))) in
      let a = none n more (omega arith) in
      omega arith
]

sum_below-alike : (g h : ℕ → ℕ) (n : ℕ) → ((i : ℕ) → i < n → g i ≡ h i) → sum_below g n ≡ sum_below h n
sum_below-alike g h zero same = refl
sum_below-alike g h (suc n) same = let a = same n (omega arith) in let r = sum_below-alike g h n (λ i low. same i (omega (arith, low))) in omega arith

-- no call is a scan
is_scan-call : (a : Act) → IsCallAct a → is_scan a ≡ false
is_scan-call (Scan o) of_call = absurd of_call
is_scan-call _ of_call = refl

module _ (limits : Limits) (few : limits.mutators ≤ 8) (key : Opening) (calls : List (List Op)) (replies : List (List Reply)) (count scans : ℕ) (owed : List ℕ)
    (some : (limits.markers ≤ 4) × (count ≤ limits.markers)) (all_markers : 1 ≤ limits.markers → (o : ℕ) → Has owed o → count ≡ limits.markers)
    (f : View) (opened : f.opening ≡ key) (nothing : f.seen ≡ [])
    (rest : (n : ℕ) → n ≤ 12 → limits.mutators ≤ n → (n < 8) ⊎ (8 + count ≤ n) → HasNumber f n)
    (empty : 1 ≤ count → (o : ℕ) → count_in o f.hands ≡ 0) (full : count ≡ 0 → (o : ℕ) → count_in o f.hands ≡ count_in o owed)
    (cuts : (o : ℕ) → 1 ≤ count_in o f.cut → (1 ≤ count) × Has owed o)
    (us ms : List View) (long : length us ≡ limits.mutators) (as_many : length replies ≡ limits.mutators)
    (played : (i : ℕ) (d : View) → i < limits.mutators → Played key i (get_or calls i []) (get_or replies i []) (get_or us i d))
    (marks : MarkersWorked key count owed ms scans) (w : View) (took : TookIn f (us ++ ms) w) (lawful : IsPhaseHistory w.opening w.seen) where
  -- the events of each number
  mutator_events : (b : ℕ) → b < limits.mutators → events_by b w.seen ≡ events_by b (get_or us b f).seen
  mutator_events b low = Each-at _ us (Each-first _ us ms took.theirs) b f (omega (arith, low, long)) b (played b f low).number

  marker_events : (i : ℕ) → i < count → events_by (8 + i) w.seen ≡ events_by (8 + i) (get_or ms i f).seen
  marker_events i low = Each-at _ ms (each_last _ us ms took.theirs) i f (let l = marks.lists in omega (arith, low, l)) (8 + i) (marks.number i f low)

  no_events : (n : ℕ) → HasNumber f n → events_by n w.seen ≡ []
  no_events n has = took.mine n has ∙ ap (events_by n) nothing

  -- a number is a mutator's, a marker's or the first session's
  whose : (n : ℕ) → n ≤ 12 → (n < limits.mutators) ⊎ ((8 ≤ n) × (n < 8 + count)) ⊎ HasNumber f n
  whose n low = elim (cases_lt n limits.mutators) [
    | inl mutator ↦ inl mutator
    | inr past ↦ elim (cases_lt n 8) [
      | inl below ↦ inr (inr (rest n low past (inl below)))
      | inr from ↦ elim (cases_lt n (8 + count)) [
        | inl marker ↦ inr (inl (from, marker))
        | inr beyond ↦ inr (inr (rest n low past (inr beyond)))
      ]
    ]
  ]

  low_events : Each IsPhaseEvent w.seen
  low_events = lawful.events

  by_whom : (e : Event) → Has w.seen e → (e.by < limits.mutators) ⊎ ((8 ≤ e.by) × (e.by < 8 + count))
  by_whom e has = elim (whose e.by (each_has IsPhaseEvent w.seen e low_events has).0) [
    | inl mutator ↦ inl mutator
    | inr other ↦ elim other [
      | inl marker ↦ inr marker
      | inr idle ↦ absurd (events_by-none e.by w.seen (no_events e.by idle) e has refl)
    ]
  ]

  all_numbers : (n : ℕ) → n ≤ 12 → HasNumber w n
  all_numbers n low =
      let c = took.numbers n in
      let t = total_append (λ (u : View). count_in n u.numbers) us ms in
      elim (whose n low) [
        | inl mutator ↦
            let at = total-at (λ (u : View). count_in n u.numbers) us n f (omega (arith, mutator, long)) in
            let has = (played n f mutator).number in
            omega arith
        | inr other ↦ elim other [
          | inl marker ↦
              let i : ℕ = n - 8 in
              let same : 8 + i ≡ n = omega (arith, marker.0) in
              let within : i < count = omega (arith, marker.0, marker.1) in
              let l = marks.lists in
              let at = total-at (λ (u : View). count_in n u.numbers) ms i f (omega (arith, within, l)) in
              let has : 1 ≤ count_in n (get_or ms i f).numbers = subst (λ m. 1 ≤ count_in m (get_or ms i f).numbers) same (marks.number i f within) in
              omega (arith, at, has, c, t)
          | inr idle ↦ omega arith
        ]
      ]

  calls_made : (s : Table) → IsBase key s → (b : ℕ) → b < limits.mutators →
      MakesCalls b s.cycle (s.vars b) (with_ticket (s.ticket b)) (get_or calls b []) (get_or replies b []) (events_by b w.seen)
  calls_made s base b low =
      subst (MakesCalls b s.cycle (s.vars b) (with_ticket (s.ticket b)) (get_or calls b []) (get_or replies b [])) (sym (mutator_events b low)) ((played b f low).made s base)

  scans_made : (s : Table) → IsBase key s → (b : ℕ) → IsMarker limits b → Scans any_object IsReadConcurrently b Rest s w.seen Rest
  scans_made s base b (from, below) = elim (cases_lt b (8 + count)) [
    | inl runs ↦
        let i : ℕ = b - 8 in
        let same : 8 + i ≡ b = omega (arith, from) in
        let within : i < count = omega (arith, from, runs) in
        let l = marks.lists in
        subst (λ n. Scans any_object IsReadConcurrently n Rest s w.seen Rest) same
        (marks.scans_made i f within s base w.seen (Each-at _ ms (each_last _ us ms took.begins) i f (omega (arith, within, l))) (marker_events i within))
    | inr idle ↦ Scans-others b Rest s w.seen (no_events b (rest b (let m = some.0 in omega (arith, below, m)) (omega (arith, from, few)) (inr idle)))
  ]

  abbrev IsWorkers : Event → Type 0
  IsWorkers e = (e.by < limits.mutators) ⊎ IsMarker limits e.by

  workers : (e : Event) → Has w.seen e → IsWorkers e
  workers e has = elim (by_whom e has) [
    | inl mutator ↦ inl mutator
    | inr marker ↦ inr (marker.0, (let m = some.1 in let n = marker.1 in omega (arith, m, n)))
  ]

  numbers : All IsWorkers w.seen
  numbers = All-each IsWorkers w.seen (Each-has IsWorkers w.seen workers)

  -- scans are counted number by number
  abbrev scans_by : ℕ → ℕ
  scans_by b = count_by (λ (e : Event). is_scan e.act) (events_by b w.seen)

  none_by : (b : ℕ) → events_by b w.seen ≡ [] → scans_by b ≡ 0
  none_by b none = ap (count_by (λ (e : Event). is_scan e.act)) none

  counted : (s : Table) → IsBase key s → scans ≡ count_by (λ (e : Event). is_scan e.act) w.seen
  counted s base =
      let whole = count_by-numbers (λ (e : Event). is_scan e.act) 13 w.seen (each_map _ _ w.seen (λ e is. let low = is.0 in omega (arith, low)) low_events) in
      let split = sum_below-from scans_by 8 5 (λ b low. elim (cases_lt b limits.mutators) [
        | inl mutator ↦ count_by-calls is_scan is_scan-call (events_by b w.seen) (MakesCalls-acts b s.cycle (s.vars b) (with_ticket (s.ticket b)) (get_or calls b []) (get_or replies b []) (events_by b w.seen) (calls_made s base b mutator))
        | inr past ↦ none_by b (no_events b (rest b (omega (arith, low)) past (inl low)))
      ]) in
      let ends = sum_below-until (λ i. scans_by (8 + i)) count 5 (let m = some in omega (arith, m.0, m.1)) (λ i from low. none_by (8 + i) (no_events (8 + i) (rest (8 + i) (omega (arith, low)) (omega (arith, few)) (inr (omega (arith, from)))))) in
      let alike = sum_below-alike (λ i. scans_by (8 + i)) (λ i. count_by (λ (e : Event). is_scan e.act) (events_by (8 + i) (get_or ms i f).seen)) count
      (λ i low. ap (count_by (λ (e : Event). is_scan e.act)) (marker_events i low)) in
      marks.counted f ∙ sym alike ∙ sym ends ∙ sym split ∙ sym whole

  marked : 1 ≤ limits.markers → (o : ℕ) → Has owed o → IsScannedIn limits w.seen o
  marked markers o has =
      let as_all = all_markers markers o has in
      let (i, low, found) = marks.marked (omega (arith, markers, as_all)) o has in
      let (e, at, is) = found f in
      let there = Has-events (8 + i) w.seen e (subst (λ (es : List Event). Has es e) (sym (marker_events i low)) at) in
      let by = there.1 in
      Any-has _ w.seen e there.0 ((omega (arith, by), omega (arith, by, low, as_all)), is)

  -- the hands
  hands_all : (o : ℕ) → count_in o w.hands ≡ count_in o f.hands + total (λ (u : View). count_in o u.hands) us
  hands_all o =
      let h = took.hands o in
      let t = total_append (λ (u : View). count_in o u.hands) us ms in
      let l = marks.lists in
      let none = total-none (λ (u : View). count_in o u.hands) ms (λ i d low. marks.hands i d (omega (arith, low, l)) o) in
      omega arith

  linked_here : (s : Table) → IsBase key s → (b o : ℕ) → Has (linked_by (s.vars b) (events_by b w.seen)) o → Has (linked_after s [] w.seen) o
  linked_here s base b o has = linked_after-has s [] w.seen b o base.sound (lawful.legal s (subst (λ k. IsBase k s) (sym (took.opening ∙ opened)) base)) (each_map _ _ w.seen (λ e is. is.1) low_events) has

  held : (s : Table) → IsBase key s → (o : ℕ) → Has w.hands o → Contains (linked_after s [] w.seen) o ⊎ ((limits.markers ≡ 0) × Has owed o)
  held s base o has =
      let h = hands_all o in
      let c = count-has o w.hands has in
      elim (cases_lt 0 (count_in o f.hands)) [
        | inl first ↦ elim (cases_lt 0 count) [
          | inl runs ↦ absurd (let e = empty runs o in omega (arith, first, e))
          | inr none ↦
              let zero_count : count ≡ 0 = omega (arith, none) in
              let there = has_count o owed (let e = full zero_count o in omega (arith, first, e)) in
              inr (
                (elim (cases_lt 0 limits.markers) [
                  | inl markers ↦ absurd (let e = all_markers markers o there in omega (arith, e, zero_count, markers))
                  | inr no_markers ↦ omega (arith, no_markers)
                ]),
                there,
              )
        ]
        | inr others ↦
            let (i, low, at) = total-some (λ (u : View). count_in o u.hands) us (omega (arith, others, h, c)) in
            let mutator : i < limits.mutators = omega (arith, low, long) in
            let links = (played i f mutator).hands s base o (has_count o (get_or us i f).hands (at f)) in
            inl (Contains-has (linked_after s [] w.seen) o (linked_here s base i o (subst (λ (es : List Event). Has (linked_by (s.vars i) es) o) (sym (mutator_events i mutator)) links)))
      ]

  waits : limits.markers ≡ 0 → (o : ℕ) → Has owed o → Has w.hands o
  waits none o has =
      let h = hands_all o in
      let c = count-has o owed has in
      let m = some.1 in
      let e = full (omega (arith, none, m)) o in
      has_count o w.hands (omega (arith, h, c, e))

  cut : (o : ℕ) → Has w.cut o → (1 ≤ limits.markers) × Has owed o
  cut o has =
      let c = count-has o w.cut has in
      let k = took.cut o in
      let t = total_append (λ (u : View). count_in o u.cut) us ms in
      let l = marks.lists in
      let none_us = total-none (λ (u : View). count_in o u.cut) us (λ i d low. ap (count_in o) (played i d (omega (arith, low, long))).cut) in
      let none_ms = total-none (λ (u : View). count_in o u.cut) ms (λ i d low. ap (count_in o) (marks.cut i d (omega (arith, low, l)))) in
      let at = cuts o (omega arith) in
      ((let m = some.1 in let n = at.0 in omega (arith, m, n)), at.1)

  no_event_above : (b : ℕ) → 12 < b → events_by b w.seen ≡ []
  no_event_above b past = events_by-absent b w.seen (λ e has same. let low = (each_has IsPhaseEvent w.seen e low_events has).0 in omega (arith, low, same, past))

  linked : (s : Table) → IsBase key s → phase_of key ≡ 1 → (o : ℕ) → Contains (linked_after s [] w.seen) o → Has w.facts (fact.Shaded o)
  linked s base phase o there = elim (linked_after-members s [] w.seen o base.sound (lawful.legal s (subst (λ k. IsBase k s) (sym (took.opening ∙ opened)) base))
      (each_map _ _ w.seen (λ e is. is.1) low_events) (Has-contains (linked_after s [] w.seen) o there)) [
        | inl never ↦ absurd never
        | inr made ↦ by_number made.0 made.1
      ]
    where
      nothing_by : (b : ℕ) → events_by b w.seen ≡ [] → Has (linked_by (s.vars b) (events_by b w.seen)) o → ⊥
      nothing_by b none has = subst (λ (es : List Event). Has (linked_by (s.vars b) es) o) none has

      by_number : (b : ℕ) → Has (linked_by (s.vars b) (events_by b w.seen)) o → Has w.facts (fact.Shaded o)
      by_number b has = elim (cases_lt 12 b) [
        | inl past ↦ absurd (nothing_by b (no_event_above b past) has)
        | inr low ↦ elim (whose b low) [
          | inl mutator ↦ Each-at _ us (Each-first _ us ms took.knows) b f (omega (arith, mutator, long)) (fact.Shaded o)
              ((played b f mutator).shaded s base phase o (subst (λ (es : List Event). Has (linked_by (s.vars b) es) o) (mutator_events b mutator) has))
          | inr other ↦ elim other [
            | inl marker ↦ absurd (subst (λ (os : List ℕ). Has os o)
                (linked_by-none (s.vars b) (events_by b w.seen) (IsLinkless-by_scans any_object IsReadConcurrently b Rest s w.seen Rest
                (scans_made s base b (marker.0, (let m = some.1 in let n = marker.1 in omega (arith, m, n)))))) has)
            | inr idle ↦ absurd (nothing_by b (no_events b idle) has)
          ]
        ]
      ]

  pub worked : (s : Table) → IsBase key s → Worked limits key calls owed replies scans w
  worked s base = record {
    all = all_numbers;
    lists = as_many;
    calls_made = calls_made;
    scans_made = scans_made;
    numbers = numbers;
    counted = counted s base;
    marked = marked;
    held = held;
    waits = waits;
    cut = cut;
    linked = linked;
  }
