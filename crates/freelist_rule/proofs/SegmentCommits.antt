-- The exchange that commits the segment at the head of an empty freelist, all of whose entries were linked. It is no event:
-- the shown words come to have the segment's entries and the new freelist word, and show the same table.
use Rattle.std.proofs.Common.{◌≡◌, ◌≢◌, ◌⊎◌, ℕ, ◌+◌, ◌/◌, ◌%◌, ◌^◌, ◌<◌, ◌≤◌, ◌==◌, if◌then◌else◌, Bool, true, false, List, [], ◌∷◌, length, slice_index, set, Option, Some, None, IsTrue, IsSome, IfSome, refl, sym, ap, subst, ◌∙◌, inl, inr, arith}
use Rattle.std.proofs.lemmas.Bool.Decides.{nat_tests}
use mathlib.Core.Option.{some}
use lib.ListN.{get_elem?}
use prog.Atomic.{either}
use Rattle.atomic_table.specs.Table.{Me}
use Rattle.plain_table.specs.declared.events.Space.{Space}
use Rattle.plain_table.specs.Cycle.{Cycle}
use Rattle.plain_table.specs.History.{after}
use Rattle.plain_table.specs.Near.{IsNear}
use Rattle.plain_table.specs.Table.{Table, Sizes, limit_in, limit_of}
use Rattle.plain_table.specs.Words.{entry_place, freelist_place, freelist_word, header_place, no_access_word, words_in_all}
use Rattle.plain_table.proofs.PlaceReads.{same_space-tells}
use Rattle.plain_table.proofs.SpacesShown.{cell-below, cell-used}
use Rattle.plain_table.proofs.WordPlaces.{freelist_place-below, freelist_place-same}
use Rattle.free_chain.specs.Rank.{rank}
use Rattle.word_laws.specs.CoverLaws.{IsClear}
use Rattle.word_laws.specs.SegmentLaws.{IsCommitted}
use Rattle.word_laws.proofs.CommittedWords.{CommittedWordsFollow-shown, CommittedWordsStayNear-near, IsCommitted-entry, IsCommitted-low, SegmentsCanBeCommitted-linked}
use Rattle.word_laws.proofs.CoverSteps.{IsStep-same}
use Rattle.word_laws.proofs.CoveredWords.{CoveredWordsStay-step}
use Rattle.word_laws.proofs.NearWords.{IsNear-linked}
use Rattle.entry_base.specs.declared.view.Fact.TheVariants as fact
use Rattle.entry_base.specs.declared.view.Opening.{Opening}
use Rattle.entry_base.specs.declared.view.View.{View}
use Rattle.entry_base.specs.Callers.{IsCaller, Looks}
use Rattle.entry_base.specs.Lists.{Has, count_in}
use Rattle.entry_base.specs.Openings.{sizes_in}
use Rattle.entry_base.specs.Ranks.{takes_in, Rises}
use Rattle.entry_base.specs.Rule.{Kept}
use Rattle.entry_base.proofs.Classes.{linked_low, references_same}
use Rattle.entry_base.proofs.Greys.{grey_by}
use Rattle.entry_base.proofs.QuietSteps.{kept_look}
use Rattle.entry_base.proofs.Steps.{Given, Leaves, Keeps, keeps_by, loads, sees}
use Rattle.entry_base.proofs.Sums.{each_has}
use Rattle.freelist_rule.specs.Segments.{Committed, IsLinkedFrom}
use Rattle.freelist_rule.proofs.FoundFreelists.{first, found_freelist, found_rises, found_shown, found_tells, limit_few, limit_same}

references_kept : (s : Table) (later : List ℕ) (cycle : Option Cycle) →
    IfSome cycle (λ d. (o n : ℕ) → o < s.sizes.objects → (s.refs o n ≡ s.refs o n) ⊎ IsClear later (s.refs o n))
references_kept s later None = tt
references_kept s later (Some c) = λ o n made. inl refl

-- the key is the opening that the view keeps
module _ (words : List ℕ) (views : List View) (id : ℕ) (v : View) (k : Kept v.opening words views) (at : get_elem? views id ≡ some v)
    (p : Space) (head takes : ℕ) (known : Has v.facts (fact.Freelist p head takes)) (below : head < limit_in (sizes_in v.opening) p) (ready : IsLinkedFrom v p head) where
  abbrev z : Sizes
  z = sizes_in v.opening

  abbrev place : ℕ
  place = freelist_place p

  abbrev found : ℕ
  found = slice_index words place

  abbrev new : ℕ
  new = freelist_word head z.seg

  -- the view that knows the word that stands there after the exchange
  abbrev commit_view : ℕ → View
  commit_view word = record v { seen = k.log; facts = fact.Freelist p word (takes_in p k.log) ∷ v.facts }

  shown_found : found ≡ slice_index k.shown place
  shown_found = found_shown v.opening words views id v k at p

  small : head < 65536
  small = let few = k.few.few p in omega (arith, few, below)

  module _ (here : found ≡ head) where
    room : head + z.seg ≤ limit_in z p
    room =
        let fits = (found_freelist v.opening words views id v k at p refl).room (omega (arith, here, small)) (omega (arith, here, small, below)) in
        omega (arith, fits, here, small)

    whole : length k.shown ≡ words_in_all z
    whole = let g = first v.opening words views id v k at p in g.shows.whole ∙ ap words_in_all g.sizes

    -- what shows the table from then on: the shown words with the segment committed
    later_is : (later : List ℕ) × IsCommitted z p head k.shown later
    later_is = SegmentsCanBeCommitted-linked z k.shown p head whole room

    abbrev later : List ℕ
    later = later_is.0

    abbrev now : List ℕ
    now = set words place new

    header_stays : (o : ℕ) → o < z.objects → slice_index later (header_place o) ≡ slice_index k.shown (header_place o)
    header_stays o made = IsCommitted-low later_is.1 (header_place o) (omega (arith, made)) (λ same. omega (arith, same, freelist_place-below p))

    rank_rises : rank head < rank new
    rank_rises =
        let seg = k.few.seg in
        let empty : head / 2 ^ 32 ≡ 0 = omega (arith, small) in
        let filled : 1 ≤ new / 2 ^ 32 = omega (arith, small, seg) in
        let same : new % 2 ^ 32 ≡ head % 2 ^ 32 = omega (arith, small) in
        grind (arith, nat_tests, empty, filled, same)

    lists_rise : (q : Space) → Rises (slice_index k.shown (freelist_place q)) (takes_in q k.log) (slice_index later (freelist_place q)) (takes_in q k.log)
    lists_rise q = elim (same_space-tells p q) [
      | inr other ↦
          let apart : freelist_place q ≢ place = λ same. other.1 (freelist_place-same p q (sym same)) in
          inl (IsCommitted-low later_is.1 (freelist_place q) (omega (arith, freelist_place-below q)) apart, refl)
      | inl same ↦ subst (λ r. Rises (slice_index k.shown (freelist_place r)) (takes_in r k.log) (slice_index later (freelist_place r)) (takes_in r k.log)) same.1
          (subst (λ x. Rises x (takes_in p k.log) (slice_index later place) (takes_in p k.log)) (sym here ∙ shown_found)
          (subst (λ x. Rises head (takes_in p k.log) x (takes_in p k.log)) (sym later_is.1.list)
          (inr (rank_rises, omega arith, λ some_left. absurd (some_left (omega (arith, small)))))))
    ]

    module _ (s : Table) (g : Given v.opening k.log k.shown words v s) where
      limit : limit_of s p ≡ limit_in z p
      limit = limit_same v.opening words views id v k at p s g

      -- the committed segments end at the head: the indexes in use are below it, and the entries from it on have no access
      used_low : (i : ℕ) → IsTrue (s.used p i) → i < head
      used_low i used =
          let tells = (found_tells v.opening words views id v k at p s g).1 in
          let end = tells.end (omega (arith, here, small)) in
          let low = tells.used i used in
          omega (arith, low, end, here, small)

      closed : (i : ℕ) → head ≤ i → i < head + z.seg → slice_index k.shown (entry_place z p i) ≡ no_access_word
      closed i from less =
          let tells = (found_tells v.opening words views id v k at p s g).1 in
          let end = tells.end (omega (arith, here, small)) in
          subst (λ (x : Sizes). slice_index k.shown (entry_place x p i) ≡ no_access_word) g.sizes
          (tells.closed i (omega (arith, end, here, small, from)) (omega (arith, limit, room, less)))

      cell_stays : (q : Space) (i : ℕ) → IsSome (s.cells q i) → slice_index later (entry_place z q i) ≡ slice_index k.shown (entry_place z q i)
      cell_stays q i stands =
          let less = subst (λ (x : Sizes). i < limit_in x q) g.sizes (cell-below s q i g.sound stands) in
          IsCommitted-entry later_is.1 room q i less (λ inside.
          let low = used_low i (subst (λ r. IsTrue (s.used r i)) (sym inside.0) (cell-used s q i g.sound stands)) in
          let from = inside.1 in
          omega (arith, low, from))

      usable_stays : (q : Space) (i : ℕ) → i < limit_in z q → slice_index k.shown (entry_place z q i) ≢ no_access_word →
          slice_index later (entry_place z q i) ≡ slice_index k.shown (entry_place z q i)
      usable_stays q i less usable = IsCommitted-entry later_is.1 room q i less
          (λ inside. usable (subst (λ r. slice_index k.shown (entry_place z r i) ≡ no_access_word) inside.0 (closed i inside.1 inside.2)))

      left : Leaves z k.log k.shown later now (commit_view new) (fact.Freelist p new (takes_in p k.log) ∷ []) s
      left = record {
        shows = CommittedWordsFollow-shown k.shown later s p head g.sound.used (limit_few v.opening words views id v k at p s g) g.shows
            (sym shown_found ∙ here ∙ omega arith) (omega (arith, limit, below)) (subst (λ (x : Sizes). IsCommitted x p head k.shown later) (sym g.sizes) later_is.1);
        covered = CoveredWordsStay-step k.shown later s s (IsStep-same s g.sound)
            (λ o made. header_stays o (subst (λ (x : Sizes). o < x.objects) g.sizes made)) (references_kept s later s.cycle) g.covered;
        steady = record {
          shaded = λ o made shaded. ap (λ x. x % 2) (header_stays o made) ∙ shaded;
          entries = λ q i stands. inl (cell_stays q i stands);
          free = λ q i less unused usable. usable_stays q i less usable;
          freelists = lists_rise;
          refs = λ o n made. references_same s s later (λ m i. refl) o n;
        };
        owns = record { variables = g.owns.variables; pending = g.owns.pending; owed = g.owns.owed; fresh = g.owns.fresh };
        tells = ((tt, inl (later_is.1.list, refl)), tt);
      }

    -- the present words are near, since each entry of the segment was linked in them
    near : IsNear z now later
    near = CommittedWordsStayNear-near z words k.shown later p head k.near room later_is.1 (λ i from less.
        let g = first v.opening words views id v k at p in
        let linked = (each_has _ v.facts (fact.Linked p i) g.known (ready i from less)).1 in
        IsNear-linked p i k.near linked.0 (closed (after k.base k.log) g i from less) linked.1)

    won : Kept v.opening now (set views id (commit_view new)) × Looks v (commit_view new)
    won =
        let ahead = linked_low z words place new (omega (arith, freelist_place-below p)) in
        let hands = λ (o : ℕ). ap (λ n. count_in o v.hands + n) (sym (grey_by z k.shown later o (header_stays o))) in
        let done = sees v.opening words now views id v (commit_view new) k at later (fact.Freelist p new (takes_in p k.log) ∷ []) refl refl refl near ahead hands (inr refl) refl left in
        (done.0, done.1 refl)

  lost : found ≢ head → Kept v.opening words (set views id (commit_view found)) × Looks v (commit_view found) × (rank head < rank found)
  lost other =
      let done = kept_look v.opening words views id v k at (fact.Freelist p found (takes_in p k.log) ∷ []) (λ s g. ((tt, inl (sym shown_found, refl)), tt)) in (
        done.0,
        done.1 refl,
        elim (found_rises v.opening words views id v k at p head takes known) [
          | inl same ↦ absurd (other same.0)
          | inr up ↦ up.0
        ],
      )

  committed : (word : ℕ) → word ≡ (if found == head then new else found) → Looks v (commit_view word) → (found ≢ head → rank head < rank found) →
      Committed v p head found (commit_view word)
  committed word is looks rises = record {
    same = record { opening = refl; number = refl; numbers = refl; cut = refl; knows = λ x has. inr has };
    own = record { vars = refl; pending = refl; owed = refl; fresh = refl };
    hands = refl;
    looks = looks;
    lost = rises;
    knows = inl (ap (λ n. fact.Freelist p n (takes_in p k.log)) is);
  }

  exchanged : (b : Bool) → (found == head) ≡ b → (w : View) × Kept v.opening (set words place (either b new found)) (set views id w) × Committed v p head found w
  exchanged true is =
      let here : found ≡ head = grind (arith, nat_tests) in
      let done = won here in
      let word = sym (ap (λ (b : Bool). if b then new else found) is) in
      (commit_view new, done.0, committed new word done.1 (λ other. absurd (other here)))
  exchanged false is =
      let other : found ≢ head = grind (arith, nat_tests) in
      let done = lost other in
      let word = sym (ap (λ (b : Bool). if b then new else found) is) in
      (commit_view found, loads v.opening words (set views id (commit_view found)) place done.0, committed found word done.1 (λ apart. done.2))

pub commits_segment : (key : Opening) (slots id : ℕ) (me : Me (Unit {0}) View) (p : Space) (head takes : ℕ) → IsCaller key me.0 → Has me.0.facts (fact.Freelist p head takes) →
    head < limit_in (sizes_in me.0.opening) p → IsLinkedFrom me.0 p head →
    Keeps key slots id me (freelist_place p) (λ n. either (n == head) (freelist_word head (sizes_in me.0.opening).seg) n) (λ found w. Committed me.0 p head found w)
commits_segment key slots id me p head takes caller known below ready =
    let word : ℕ → ℕ = λ n. either (n == head) (freelist_word head (sizes_in me.0.opening).seg) n in
    subst (λ o. Keeps o slots id me (freelist_place p) word (λ found w. Committed me.0 p head found w)) caller.opened
    (keeps_by me.0.opening slots id me (freelist_place p) word (λ found w. Committed me.0 p head found w) (λ words views k at.
    exchanged words views id me.0 k at p head takes known below ready (slice_index words (freelist_place p) == head) refl))
