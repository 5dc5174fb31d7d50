-- The work of a phase, from its opening to the session that took all workers in.
use Rattle.std.proofs.Common.{◌≡◌, ◌≢◌, ◌⊎◌, ℕ, zero, suc, ◌<◌, ◌≤◌, nat_lt, ◌==◌, if◌then◌else◌, Bool, true, false, List, [], ◌∷◌, ◌++◌, Option, Some, None, length, map, get_or, slice_index, refl, sym, ap, subst, ◌∙◌, inr, ⊎_elim, arith, append-nil}
use Rattle.std.proofs.lemmas.Bool.Decides.{nat_tests}
use Rattle.std.proofs.lemmas.List.{get_or-map, length-map}
use Rattle.plain_table.specs.declared.scripts.Limits.{Limits}
use Rattle.plain_table.specs.declared.scripts.Op.{Op}
use Rattle.plain_table.specs.declared.reports.Reply.{Reply}
use Rattle.plain_table.specs.Cycle.{Cycle}
use Rattle.plain_table.specs.Table.{Sizes, Table}
use Rattle.plain_table.specs.Words.{header_place, phase_word}
use Rattle.word_laws.specs.Small.{AreSmall}
use Rattle.entry_base.specs.declared.table.Shared.{Shared}
use Rattle.entry_base.specs.declared.view.Opening.{Opening}
use Rattle.entry_base.specs.declared.view.View.{View}
use Rattle.entry_base.specs.Hands.{grey}
use Rattle.entry_base.specs.Histories.{IsPhaseHistory}
use Rattle.entry_base.specs.Lists.{Has, count_in}
use Rattle.entry_base.specs.Numbers.{HasNumber}
use Rattle.entry_base.specs.Openings.{IsBase, IsOpenable, phase_of, sizes_in}
use Rattle.entry_base.specs.Sessions.{view}
use Rattle.entry_base.specs.Views.{first_view}
use Rattle.entry_base.proofs.Sums.{has_count}
use Rattle.entry_base.proofs.OpenKeeps.{bit, count_greys, count_numbers}
use Rattle.phases.specs.declared.mutators.Worker.{Worker}
use Rattle.phases.specs.Markings.{DealtOut}
use Rattle.phases.specs.Phases.{CanRun}
use Rattle.phases.specs.Sessions.{GaveOut, IsGiven, TookIn}
use Rattle.phases.specs.Workers.{CalledAll, Worked}
use Rattle.marker.proofs.Counts.{length_few}
use Rattle.phases.proofs.Lists.{Each-has, count-has}
use Rattle.phases.proofs.Marked.{element_at}
use Rattle.phases.proofs.Played.{Played, Played-worker}
use Rattle.phases.proofs.Scanned.{grey-outside, grey-some}
use Rattle.phases.proofs.Whole.{MarkersWorked, MarkersWorked-none, worked}

-- the first session has each number up to 12
pub first_numbers : (key : Opening) (n : ℕ) → n ≤ 12 → HasNumber (first_view key) n
first_numbers key n low =
    let c = count_numbers 13 n in
    let t : bit (nat_lt n 13) ≡ 1 = ap bit (let t : nat_lt n 13 ≡ true = grind (arith, nat_tests) in t) in
    omega arith

-- what is to scan is within the limit, and stands in the hands of the first session, once
grey-once : (z : Sizes) (words : List ℕ) (o : ℕ) → grey z words o ≤ 1
grey-once z words o = by (nat_lt o z.objects) (slice_index words (header_place o) == 1)
  where
    by : (a b : Bool) → (if a then (if b then 1 else 0) else 0) ≤ 1
    by true true = omega arith
    by true false = omega arith
    by false b = omega arith

pub owed-few : (key : Opening) → AreSmall (sizes_in key) → (owed : List ℕ) → ((o : ℕ) → count_in o owed ≡ grey (sizes_in key) key.words o) → length owed ≤ 16384
owed-few key small owed owed_is =
    let few = length_few (sizes_in key).objects owed (Each-has (λ o. o < (sizes_in key).objects) owed (λ o has. (grey-some (sizes_in key) key.words o (let c = count-has o owed has in let e = owed_is o in omega (arith, c, e))).0))
    (λ o. let e = owed_is o in let g = grey-once (sizes_in key) key.words o in omega (arith, e, g)) in
    let most = small.objects in
    omega (arith, few, most)

pub owed-held : (key : Opening) (many : ℕ) (first : View) → GaveOut (first_view key) 0 many first → (owed : List ℕ) → ((o : ℕ) → count_in o owed ≡ grey (sizes_in key) key.words o) →
    (o : ℕ) → count_in o first.hands ≡ count_in o owed
owed-held key many first gave owed owed_is o = ap (count_in o) gave.hands ∙ count_greys key.words (sizes_in key).objects o ∙ sym (owed_is o)

-- outside a cycle nothing is to scan
outside : (key : Opening) (s : Table) → IsBase key s → phase_of key ≢ 1 → (o : ℕ) → grey (sizes_in key) key.words o ≡ 0
outside key s base apart o = grey-outside (sizes_in key) key.words s o base.shows.words base.shows.sizes (none s.cycle base.shows.words.phase)
  where
    none : (cycle : Option Cycle) → phase_of key ≡ phase_word cycle → cycle ≡ None
    none None is = refl
    none (Some c) is = absurd (apart is)

module _ (limits : Limits) (key : Opening) (open_with : IsOpenable key) (calls : List (List Op)) (can : CanRun limits calls) (owed : List ℕ)
    (owed_is : (o : ℕ) → count_in o owed ≡ grey (sizes_in key) key.words o) (t : Shared) (first : View) (gave : GaveOut (first_view key) 0 (length calls) first)
    (workers : List Worker) (given : (i : ℕ) (d : Worker) → i < length calls → IsGiven (first_view key) i (view (get_or workers i d).session))
    (many : length workers ≡ length calls) (replies : List (List Reply)) (after : List Worker) (all : CalledAll t calls workers replies after) where
  as_many : length after ≡ limits.mutators
  as_many = all.called.lists ∙ many ∙ can.lists

  us : List View
  us = map (λ (x : Worker). view x.session) after

  long : length (map (λ (x : Worker). view x.session) after) ≡ limits.mutators
  long = length-map after (λ (x : Worker). view x.session) ∙ as_many

  said : length replies ≡ limits.mutators
  said = ap length all.replied ∙ length-map after (λ (x : Worker). x.replies.items) ∙ as_many

  played : (i : ℕ) (d : View) → i < limits.mutators → Played key i (get_or calls i []) (get_or replies i []) (get_or (map (λ (x : Worker). view x.session) after) i d)
  played i d low =
      let within : i < length after = omega (arith, low, as_many) in
      let e = element_at after i within in
      let made = all.called.each i e (omega (arith, low, many, (let l = can.lists in l))) in
      subst (Played key i (get_or calls i []) (get_or replies i [])) (sym (get_or-map (λ (x : Worker). view x.session) after i e d within))
      (subst (λ (rs : List Reply). Played key i (get_or calls i []) rs (view (get_or after i e).session))
      (sym (ap (λ (l : List (List Reply)). get_or l i []) all.replied ∙ get_or-map (λ (x : Worker). x.replies.items) after i e [] within))
      (Played-worker key open_with.small (first_view key) refl refl refl refl i (let m = can.range.mutators.1 in omega (arith, low, m)) (get_or calls i []) (get_or after i e).replies.items
      (view (get_or workers i e).session) (view (get_or after i e).session) (given i e (let l = can.lists in omega (arith, low, l))) made.makes))

  first_rest : (n : ℕ) → n ≤ 12 → limits.mutators ≤ n → HasNumber first n
  first_rest n low past = gave.rest n (first_numbers key n low) (inr (let l = can.lists in omega (arith, past, l)))

  first_hands : (o : ℕ) → count_in o first.hands ≡ count_in o owed
  first_hands = owed-held key (length calls) first gave owed owed_is

  -- without markers
  pub worked-alone : (w : View) → TookIn first (map (λ (x : Worker). view x.session) after) w → IsPhaseHistory w.opening w.seen → (limits.markers ≡ 0) ⊎ (phase_of key ≢ 1) → Worked limits key calls owed replies 0 w
  worked-alone w took lawful idle =
      worked limits can.range.mutators.1 key calls replies 0 0 owed (can.range.markers, omega arith)
      (λ markers o has. absurd (⊎_elim (λ (none : limits.markers ≡ 0). omega (arith, markers, none))
      (λ (apart : phase_of key ≢ 1). let c = count-has o owed has in let z = outside key open_with.base open_with.is_base apart o in let e = owed_is o in omega (arith, c, z, e)) idle))
      first gave.opening gave.seen (λ n low past apart. first_rest n low past)
      (λ some. absurd (omega (arith, some))) (λ none o. first_hands o) (λ o some. absurd (let z = ap (count_in o) gave.cut in omega (arith, some, z)))
      (map (λ (x : Worker). view x.session) after) [] long said played (MarkersWorked-none key owed) w
      (subst (λ (vs : List View). TookIn first vs w) (sym (append-nil (map (λ (x : Worker). view x.session) after))) took) lawful open_with.base open_with.is_base

  -- and with them
  pub worked-marking : (dealer : View) (ms : List View) (scans : ℕ) (w : View) → 1 ≤ limits.markers → DealtOut first owed limits.markers dealer → MarkersWorked key limits.markers owed ms scans →
      TookIn dealer (map (λ (x : Worker). view x.session) after ++ ms) w → IsPhaseHistory w.opening w.seen → Worked limits key calls owed replies scans w
  worked-marking dealer ms scans w some dealt marks took lawful =
      let cut = dealt.cut_off in
      let gave_more = dealt.gave in
      worked limits can.range.mutators.1 key calls replies limits.markers scans owed (can.range.markers, omega arith) (λ markers o has. refl)
      dealer (gave_more.opening ∙ cut.opening ∙ gave.opening) (gave_more.seen ∙ cut.seen ∙ gave.seen)
      (λ n low past apart. gave_more.rest n (subst (λ (ns : List ℕ). 1 ≤ count_in n ns) (sym cut.numbers) (first_rest n low past)) apart)
      (λ markers o. let a = ap (count_in o) gave_more.hands in let b = cut.hands o in let c = first_hands o in omega arith)
      (λ none o. absurd (omega (arith, some, none)))
      (λ o has. (some, (let a = ap (count_in o) gave_more.cut in let b = cut.cut o in let z = ap (count_in o) gave.cut in has_one o (omega (arith, has, a, b, z)))))
      (map (λ (x : Worker). view x.session) after) ms long said played marks w took lawful open_with.base open_with.is_base
    where
      has_one : (o : ℕ) → 1 ≤ count_in o owed → Has owed o
      has_one o one = has_count o owed one
