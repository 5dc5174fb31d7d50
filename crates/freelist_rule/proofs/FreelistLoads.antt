-- Loads of a freelist word: without an event, as the event of a take that finds the space full, and as that of a take below
-- the start of the area that finds no room; and the load of the entry at its head, its link as long as the index is free.
use Rattle.std.proofs.Common.{◌≡◌, ◌≢◌, ◌⊎◌, ℕ, ◌+◌, ◌/◌, ◌%◌, ◌^◌, ◌<◌, ◌≤◌, if◌then◌else◌, Bool, false, List, [], ◌∷◌, ◌++◌, slice_index, set, Option, Some, None, IsTrue, refl, sym, ap, subst, ◌∙◌, inl, inr, arith, lt-ltb}
use Rattle.std.specs.Option.{option_map_or}
use Rattle.std.proofs.lemmas.Bool.{cases_Bool, cases_lt}
use Rattle.std.proofs.lemmas.Bool.Decides.{eqb_tells, nat_tests}
use mathlib.Core.Option.{some}
use lib.ListN.{get_elem?}
use Rattle.atomic_table.specs.Table.{Me}
use Rattle.plain_table.specs.declared.events.Act.{Act}
use Rattle.plain_table.specs.declared.events.Act.TheVariants as act
use Rattle.plain_table.specs.declared.events.Event.{Event}
use Rattle.plain_table.specs.declared.events.Space.{Space}
use Rattle.plain_table.specs.declared.events.Space.TheVariants.{External}
use Rattle.plain_table.specs.declared.reports.Reply.{Reply}
use Rattle.plain_table.specs.declared.reports.Reply.TheVariants as reply
use Rattle.plain_table.specs.Cycle.{start_in}
use Rattle.plain_table.specs.History.{IsLegal, next}
use Rattle.plain_table.specs.Rows.{free_below, only_below, with_taken}
use Rattle.plain_table.specs.Table.{Table, Sizes, limit_in, limit_of, least_free}
use Rattle.plain_table.specs.Words.{freelist_place, entry_place, free_word, next_free, no_access_word}
use Rattle.plain_table.proofs.FreeReads.{next_free-le}
use Rattle.free_chain.specs.Rank.{rank}
use Rattle.table_laws.specs.Laws.{IsFree}
use Rattle.table_laws.specs.Steady.{IsDuringPhase}
use Rattle.table_laws.proofs.TakesFind.{takes-least}
use Rattle.word_laws.specs.Small.{AreSmall}
use Rattle.word_laws.specs.WordLaws.{WritesNothing}
use Rattle.word_laws.proofs.AreaReads.{AreaWordsTell-shown}
use Rattle.word_laws.proofs.FreeBelowReads.{FreeBelowRead-shown}
use Rattle.word_laws.proofs.FreelistReads.{FreelistTells-full}
use Rattle.word_laws.proofs.NearWords.{IsNear-open}
use Rattle.entry_base.specs.declared.view.Fact.{Fact}
use Rattle.entry_base.specs.declared.view.Fact.TheVariants as fact
use Rattle.entry_base.specs.declared.view.Opening.{Opening}
use Rattle.entry_base.specs.declared.view.View.{View}
use Rattle.entry_base.specs.Callers.{IsCaller, Extends, event_of}
use Rattle.entry_base.specs.Facts.{IsKnown}
use Rattle.entry_base.specs.Histories.{IsPhaseHistory}
use Rattle.entry_base.specs.Learned.{Loaded}
use Rattle.entry_base.specs.Lists.{Each, Has}
use Rattle.entry_base.specs.Openings.{sizes_in, start_of}
use Rattle.entry_base.specs.Owns.{Owns}
use Rattle.entry_base.specs.Ranks.{takes_in, takes_of, Rises}
use Rattle.entry_base.specs.Rule.{Kept}
use Rattle.entry_base.proofs.QuietSteps.{kept_look, kept_event}
use Rattle.entry_base.proofs.Steps.{Given, Keeps, keeps_by, loads, takes_same}
use Rattle.freelist_rule.specs.Freelists.{FreelistLoaded, FreelistSeen, FreelistForTake, FreelistForBelow, IsSpent, IsOutOfRoom, link_facts}
use Rattle.freelist_rule.proofs.FoundFreelists.{found_shown, found_tells, found_loaded, found_rises, limit_few, limit_same, loader}

module _ (key : Opening) (words : List ℕ) (views : List View) (id : ℕ) (v : View) (k : Kept key words views) (at : get_elem? views id ≡ some v) (caller : IsCaller key v) (p : Space) where
  abbrev word : ℕ
  word = slice_index words (freelist_place p)

  -- the view after the load, by its history and by the other facts that it learns
  abbrev loaded_view : List Event → List Fact → View
  loaded_view log more = loader key words views id v k at p log more

  shown : word ≡ slice_index k.shown (freelist_place p)
  shown = found_shown key words views id v k at p

  loaded : (log : List Event) (more : List Fact) → takes_in p log ≡ takes_in p k.log → FreelistLoaded v p word (loaded_view log more)
  loaded log more same = found_loaded key words views id v k at p log more same caller.opened

  -- a load without an event
  looked : Kept key words (set views id (loaded_view k.log [])) × FreelistSeen v p word (loaded_view k.log [])
  looked =
      let done = kept_look key words views id v k at (fact.Freelist p word (takes_in p k.log) ∷ []) (λ s g. ((tt, inl (sym shown, refl)), tt)) in
      (done.0, record { loaded = loaded k.log [] refl; looks = done.1 caller.opened })

  -- one with an event that leaves each table as it is and takes no index
  module _ (a : Act) (said : Reply) (more : List Fact) (phase : IsDuringPhase a) (nothing : WritesNothing a said) (takes : (q : Space) → takes_of q a said ≡ 0) where
    abbrev e : Event
    e = event_of v a said

    abbrev log : List Event
    log = k.log ++ e ∷ []

    abbrev answered_view : View
    answered_view = loaded_view log more

    answered : ((s : Table) → Given key k.log k.shown words v s → IsLegal s e × (next s e ≡ s) × Each (IsKnown (sizes_in key) log s k.shown words) more)
        → Kept key words (set views id answered_view) × FreelistLoaded v p word answered_view × Extends v e answered_view
    answered step =
        let facts = fact.Freelist p word (takes_in p log) ∷ more in
        let done = kept_event key words views id v k at facts e answered_view refl caller.own phase nothing takes refl refl refl refl refl
        (λ s g. let is = step s g in (
          is.0,
          subst (λ t. Owns t answered_view) (sym is.1) (record { variables = g.owns.variables; pending = g.owns.pending; owed = g.owns.owed; fresh = g.owns.fresh }),
          subst (λ t. Each (IsKnown (sizes_in key) log t k.shown words) facts) (sym is.1) ((tt, inl (sym shown, refl)), is.2),
        )) in
        (done.0, loaded log more (takes_same p k.log e (takes p)), done.1 caller.opened)

  -- where the list is empty and no segment is left, no index is free
  none_free : IsSpent v p word → (s : Table) → Given key k.log k.shown words v s → least_free s p ≡ None
  none_free spent s g =
      let past = spent.1 in
      let limit : limit_in (sizes_in v.opening) p ≡ limit_in (sizes_in key) p = ap (λ o. limit_in (sizes_in o) p) caller.opened in
      FreelistTells-full s p _ _ _ _ (found_tells key words views id v k at p s g).1 spent.0
      (omega (arith, limit_same key words views id v k at p s g, limit, past))

  for_take : IsSpent v p word ⊎ (IsSpent v p word → ⊥) → (w : View) × Kept key words (set views id w) × FreelistForTake v p word w
  for_take (inl spent) =
      let done = answered (act.Take p) reply.Full [] tt refl (λ q. refl) (λ s g.
      let none = none_free spent s g in
      ((tt, sym (ap (λ o. option_map_or reply.Index o reply.Full) none)), ap (with_taken s v.number p) none, tt)) in (
        answered_view (act.Take p) reply.Full [] tt refl (λ q. refl),
        done.0,
        record { loaded = done.1; full = λ is. done.2; left = λ left. absurd (left spent) },
      )
  for_take (inr left) = (
    loaded_view k.log [],
    looked.0,
    record { loaded = looked.1.loaded; full = λ spent. absurd (left spent); left = λ unspent. looked.1.looks },
  )

pub loads_freelist : (key : Opening) (slots id : ℕ) (me : Me (Unit {0}) View) (p : Space) → IsCaller key me.0 →
    Keeps key slots id me (freelist_place p) (λ n. n) (λ found w. FreelistSeen me.0 p found w)
loads_freelist key slots id me p caller = keeps_by key slots id me (freelist_place p) (λ n. n) (λ found w. FreelistSeen me.0 p found w) (λ words views k at.
    let done = looked key words views id me.0 k at caller p in
    (loader key words views id me.0 k at p k.log [], loads key words _ (freelist_place p) done.0, done.1))

spent_or_left : (v : View) (p : Space) (found : ℕ) → IsSpent v p found ⊎ (IsSpent v p found → ⊥)
spent_or_left v p found = elim (eqb_tells (found / 2 ^ 32) 0) [
  | inr some_left ↦ inr (λ spent. some_left.1 spent.0)
  | inl empty ↦ elim (cases_lt (found % 2 ^ 32) (limit_in (sizes_in v.opening) p)) [
    | inl below ↦ inr (λ spent. let past = spent.1 in omega (arith, below, past))
    | inr past ↦ inl (empty.1, past)
  ]
]

pub loads_for_take : (key : Opening) (slots id : ℕ) (me : Me (Unit {0}) View) (p : Space) → IsCaller key me.0 →
    Keeps key slots id me (freelist_place p) (λ n. n) (λ found w. FreelistForTake me.0 p found w)
loads_for_take key slots id me p caller = keeps_by key slots id me (freelist_place p) (λ n. n) (λ found w. FreelistForTake me.0 p found w) (λ words views k at.
    let done = for_take key words views id me.0 k at caller p (spent_or_left me.0 p (slice_index words (freelist_place p))) in
    (done.0, loads key words _ (freelist_place p) done.1, done.2))

pub for_take_lawful : (v : View) (p : Space) (found : ℕ) (w : View) → FreelistForTake v p found w → IsPhaseHistory v.opening w.seen
for_take_lawful v p found w load = elim (spent_or_left v p found) [ inl spent ↦ (load.full spent).lawful | inr left ↦ (load.left left).lawful ]

-- where a take below a start finds none, each index below it is used
only_below-found : (start i : ℕ) → i < start → only_below start (Some i) ≢ None
only_below-found start i below none =
    let found : only_below start (Some i) ≡ Some i = ap (λ (test : Bool). if test then Some i else None) (lt-ltb i start below) in
    absurd (cc)

used_below : (s : Table) (start : ℕ) → start ≤ limit_of s External → free_below s start ≡ None → (i : ℕ) → 1 ≤ i → i < start → IsTrue (s.used External i)
used_below s start within none i from below = elim (cases_Bool (s.used External i)) [
  | inl used ↦ used
  | inr unused ↦ absurd (by_case (least_free s External) refl (from, omega (arith, below, within), unused))
]
  where
    by_case : (least : Option ℕ) → least_free s External ≡ least → IsFree s External i → ⊥
    by_case None is free = (takes-least s External).1.0 is i free
    by_case (Some m) is free =
        let least = (((takes-least s External).0 m).0 is).1 i free in
        only_below-found start m (omega (arith, least, below)) (sym (ap (only_below start) is) ∙ none)

module _ (key : Opening) (words : List ℕ) (views : List View) (id : ℕ) (v : View) (k : Kept key words views) (at : get_elem? views id ≡ some v) (caller : IsCaller key v)
    (start : ℕ) (area : start_of v.opening ≡ Some start) where
  abbrev external : ℕ
  external = slice_index words (freelist_place External)

  none_below : IsOutOfRoom start external → (s : Table) → Given key k.log k.shown words v s →
      (start_in s.cycle ≡ Some start) × (free_below s start ≡ None) × ((i : ℕ) → 1 ≤ i → i < start → IsTrue (s.used External i))
  none_below out s g =
      let small : AreSmall s.sizes = subst AreSmall (sym g.sizes) k.few in
      let begins : start_in s.cycle ≡ Some start = g.start ∙ ap start_of (sym caller.opened) ∙ area in
      let inside = ((AreaWordsTell-shown k.shown s g.sound small g.shows).within start begins).1 in
      let none = (FreeBelowRead-shown k.shown s start g.sound small g.shows begins).none
      (subst (λ w. IsOutOfRoom start w) (found_shown key words views id v k at External) out) in
      (begins, none, used_below s start (omega (arith, inside)) none)

  for_below : IsOutOfRoom start external ⊎ (IsOutOfRoom start external → ⊥) → (w : View) × Kept key words (set views id w) × FreelistForBelow v start external w
  for_below (inl out) =
      let more = fact.Used External start ∷ [] in
      let done = answered key words views id v k at caller External (act.Below start) reply.NoRoom more tt refl (λ q. refl) (λ s g.
      let is = none_below out s g in
      ((is.0, sym (ap (λ o. option_map_or reply.Index o reply.NoRoom) is.1)), ap (with_taken s v.number External) is.1, ((is.2, tt), tt))) in (
        answered_view key words views id v k at caller External (act.Below start) reply.NoRoom more tt refl (λ q. refl),
        done.0,
        record { loaded = done.1; full = λ is. (done.2, inr (inl refl)); left = λ left. absurd (left out) },
      )
  for_below (inr left) =
      let done = looked key words views id v k at caller External in (
        loaded_view key words views id v k at caller External k.log [],
        done.0,
        record { loaded = done.1.loaded; full = λ out. absurd (left out); left = λ has_room. done.1.looks },
      )

out_or_left : (start found : ℕ) → IsOutOfRoom start found ⊎ (IsOutOfRoom start found → ⊥)
out_or_left start found = elim (eqb_tells (found / 2 ^ 32) 0) [
  | inl empty ↦ inl (inl empty.1)
  | inr some_left ↦ elim (cases_lt (found % 2 ^ 32) start) [
    | inl below ↦ inr (λ out. elim out [ inl empty ↦ some_left.1 empty | inr past ↦ omega (arith, below, past) ])
    | inr past ↦ inl (inr past)
  ]
]

pub loads_for_below : (key : Opening) (slots id : ℕ) (me : Me (Unit {0}) View) (start : ℕ) → IsCaller key me.0 → start_of me.0.opening ≡ Some start →
    Keeps key slots id me (freelist_place External) (λ n. n) (λ found w. FreelistForBelow me.0 start found w)
loads_for_below key slots id me start caller area =
    keeps_by key slots id me (freelist_place External) (λ n. n) (λ found w. FreelistForBelow me.0 start found w) (λ words views k at.
    let done = for_below key words views id me.0 k at caller start area (out_or_left start (slice_index words (freelist_place External))) in
    (done.0, loads key words _ (freelist_place External) done.1, done.2))

pub for_below_lawful : (v : View) (start found : ℕ) (w : View) → FreelistForBelow v start found w → IsPhaseHistory v.opening w.seen
for_below_lawful v start found w load = elim (out_or_left start found) [ inl out ↦ (load.full out).0.lawful | inr left ↦ (load.left left).lawful ]

-- an index that headed the list is committed, since the freelist word has not fallen since
rank-risen : (before takes now more : ℕ) → Rises before takes now more → rank before ≤ rank now
rank-risen before takes now more rises = elim rises [
  | inl same ↦ let ranks = ap rank same.0 in omega (arith, ranks)
  | inr up ↦ let greater = up.0 in omega (arith, greater)
]

head-committed : (before now committed : ℕ) → before / 2 ^ 32 ≢ 0 → rank before ≤ rank now → (now / 2 ^ 32 ≡ 0 → now % 2 ^ 32 ≡ committed) →
    (now / 2 ^ 32 ≢ 0 → now % 2 ^ 32 < committed) → before % 2 ^ 32 < committed
head-committed before now committed some_left up end below = elim (eqb_tells (now / 2 ^ 32) 0) [
  | inl empty ↦ let head = end empty.1 in grind (arith, nat_tests)
  | inr more ↦ let head = below more.1 in grind (arith, nat_tests)
]

module _ (key : Opening) (words : List ℕ) (views : List View) (id : ℕ) (v : View) (k : Kept key words views) (at : get_elem? views id ≡ some v) (caller : IsCaller key v) (p : Space)
    (before takes : ℕ) (known : Has v.facts (fact.Freelist p before takes)) (some_left : before / 2 ^ 32 ≢ 0) (later : before % 2 ^ 32 ≢ 0)
    (inside : before % 2 ^ 32 < limit_in (sizes_in v.opening) p) where
  abbrev head : ℕ
  head = before % 2 ^ 32

  abbrev entry : ℕ
  entry = slice_index words (entry_place (sizes_in key) p head)

  abbrev link_view : View
  link_view = record v { seen = k.log; facts = link_facts p head entry ++ v.facts }

  below : head < limit_in (sizes_in key) p
  below =
      let limit : limit_in (sizes_in v.opening) p ≡ limit_in (sizes_in key) p = ap (λ o. limit_in (sizes_in o) p) caller.opened in
      omega (arith, limit, inside)

  -- as long as the index is free, its entry is what the shown words have there, and links the next free index
  linked : (s : Table) → Given key k.log k.shown words v s → s.used p head ≡ false →
      (slice_index k.shown (entry_place (sizes_in key) p head) ≡ free_word (entry % 2 ^ 32)) × (free_word (entry % 2 ^ 32) ≢ no_access_word)
  linked s g unused =
      let tells = found_tells key words views id v k at p s g in
      let rises = found_rises key words views id v k at p before takes known in
      let low : head < tells.0 =
      head-committed before (slice_index words (freelist_place p)) tells.0 some_left (rank-risen before takes _ _ rises) tells.1.end (λ more. (tells.1.some more).1) in
      let link = next_free (s.used p) (head + 1) tells.0 in
      let most = next_free-le (s.used p) (head + 1) tells.0 in
      let within = tells.1.within in
      let few : link < 2 ^ 32 = omega (arith, most, within, limit_few key words views id v k at p s g) in
      let is : slice_index k.shown (entry_place (sizes_in key) p head) ≡ free_word link =
      subst (λ (z : Sizes). slice_index k.shown (entry_place z p head) ≡ free_word link) g.sizes (tells.1.links head (omega (arith, later)) low unused) in
      let there : entry ≡ free_word link = IsNear-open p head k.near below (λ closed. omega (arith, closed, is, few)) ∙ is in
      (omega (arith, is, there, few), λ e. omega (arith, e))

  known_link : (s : Table) → Given key k.log k.shown words v s → IsKnown (sizes_in key) k.log s k.shown words (fact.Link p head (free_word (entry % 2 ^ 32)))
  known_link s g = (
    tt,
    elim (cases_Bool (s.used p head)) [
      | inl used ↦ inl used
      | inr unused ↦ let is = linked s g unused in inr (below, is.0, is.1)
    ],
  )

  link_loaded : Kept key words (set views id link_view) × Loaded v (link_facts p head entry) link_view
  link_loaded =
      let done = kept_look key words views id v k at (link_facts p head entry) (λ s g. (known_link s g, tt)) in (
        done.0,
        record {
          same = record { opening = refl; number = refl; numbers = refl; cut = refl; knows = λ x has. inr has };
          own = record { vars = refl; pending = refl; owed = refl; fresh = refl };
          looks = done.1 caller.opened;
          hands = refl;
          facts = refl;
        },
      )

pub loads_link : (key : Opening) (slots id : ℕ) (me : Me (Unit {0}) View) (p : Space) (word takes : ℕ) → IsCaller key me.0 → Has me.0.facts (fact.Freelist p word takes) →
    word / 2 ^ 32 ≢ 0 → word % 2 ^ 32 ≢ 0 → word % 2 ^ 32 < limit_in (sizes_in me.0.opening) p →
    Keeps key slots id me (entry_place (sizes_in key) p (word % 2 ^ 32)) (λ n. n) (λ found w. Loaded me.0 (link_facts p (word % 2 ^ 32) found) w)
loads_link key slots id me p word takes caller known some_left later inside =
    let place = entry_place (sizes_in key) p (word % 2 ^ 32) in
    keeps_by key slots id me place (λ n. n) (λ found w. Loaded me.0 (link_facts p (word % 2 ^ 32) found) w) (λ words views k at.
    let done = link_loaded key words views id me.0 k at caller p word takes known some_left later inside in
    (_, loads key words _ place done.0, done.1))
