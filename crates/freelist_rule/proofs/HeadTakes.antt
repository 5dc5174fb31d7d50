-- The exchange that tries to take the head of a freelist word keeps the rule: where it wins it is the event of a take, or of a
-- take below the start of the area, and else it is a load of the word that was found.
use Rattle.std.proofs.Common.{◌≡◌, ◌≢◌, ℕ, ◌+◌, ◌-◌, ◌/◌, ◌%◌, ◌^◌, ◌<◌, ◌≤◌, ◌==◌, Bool, true, false, List, [], ◌∷◌, ◌++◌, length, slice_index, get_or, set, Some, refl, sym, ap, subst, ◌∙◌, inl, inr, arith, get_or-set_other}
use Rattle.std.proofs.lemmas.Bool.Decides.{eqb_tells, nat_tests}
use mathlib.Core.Option.{some}
use lib.ListN.{get_elem?}
use prog.Atomic.{either}
use Rattle.atomic_table.specs.Table.{Me}
use Rattle.plain_table.specs.declared.events.Act.{Act}
use Rattle.plain_table.specs.declared.events.Act.TheVariants as act
use Rattle.plain_table.specs.declared.events.Event.{Event}
use Rattle.plain_table.specs.declared.events.Space.{Space}
use Rattle.plain_table.specs.declared.events.Space.TheVariants.{External}
use Rattle.plain_table.specs.declared.reports.Reply.TheVariants as reply
use Rattle.plain_table.specs.History.{IsLegal, next, after}
use Rattle.plain_table.specs.Rows.{with_taken}
use Rattle.plain_table.specs.Table.{Table, Sizes, limit_in, limit_of, least_free}
use Rattle.plain_table.specs.Words.{freelist_place, freelist_word, header_place, entry_place, free_word, next_free, words_in_all}
use Rattle.plain_table.proofs.FreeLists.{least_from-before}
use Rattle.plain_table.proofs.FreeReads.{least_free-some, next_free-ge}
use Rattle.plain_table.proofs.WordPlaces.{freelist_place-below}
use Rattle.free_chain.specs.Rank.{rank}
use Rattle.table_laws.proofs.Steadiness.{events-steady}
use Rattle.word_laws.specs.CoverLaws.{HasSameReferences}
use Rattle.word_laws.specs.WordLaws.{FreelistTells, TakesFrom}
use Rattle.word_laws.proofs.FreelistReads.{FreelistsTell-shown}
use Rattle.word_laws.proofs.FreelistWords.{FreelistWordsFollow-row}
use Rattle.word_laws.proofs.NearWords.{IsNear-set}
use Rattle.entry_base.specs.declared.view.Fact.TheVariants as fact
use Rattle.entry_base.specs.declared.view.Opening.{Opening}
use Rattle.entry_base.specs.declared.view.View.{View}
use Rattle.entry_base.specs.Callers.{IsCaller, event_of}
use Rattle.entry_base.specs.Lists.{Has, count_in}
use Rattle.entry_base.specs.Openings.{sizes_in, start_of}
use Rattle.entry_base.specs.Owns.{Owns, claim_of, without_claim}
use Rattle.entry_base.specs.Ranks.{takes_in, Rises}
use Rattle.entry_base.specs.Rule.{Kept}
use Rattle.entry_base.specs.Tied.{Parts, IsTied}
use Rattle.entry_base.proofs.Classes.{covered_event, linked_low, list_steady, references_same}
use Rattle.entry_base.proofs.Greys.{grey_low}
use Rattle.entry_base.proofs.OneByOne.{caller_same}
use Rattle.entry_base.proofs.OwnsStay.{claims_kept, claim_here}
use Rattle.entry_base.proofs.QuietSteps.{kept_look, looker}
use Rattle.entry_base.proofs.Steps.{Given, Adds, Keeps, adds, given, keeps_by, loads, takes_same, takes_more}
use Rattle.entry_base.proofs.Sums.{each_has, each_map}
use Rattle.entry_base.proofs.TiedParts.{tied_stays}
use Rattle.freelist_rule.specs.Freelists.{Took}
use Rattle.entry_base.proofs.Claims.{without_claim-absent}
use Rattle.freelist_rule.proofs.IndexTakes.{TakesIndex, takes_first, takes_first_below}

-- a word with a greater head has a greater rank, whatever the lengths are
rank_rises : (word link len : ℕ) → link < 2 ^ 32 → word % 2 ^ 32 < link → rank word < rank (freelist_word link len)
rank_rises word link len low up = grind (arith, nat_tests)

module _ (key : Opening) (words : List ℕ) (views : List View) (id : ℕ) (v : View) (p : Space) (a : Act) (word takes link len : ℕ) (k : Kept key words views) (at : get_elem? views id ≡ some v)
    (caller : IsCaller key v) (loaded : Has v.facts (fact.Freelist p word takes)) (long : word / 2 ^ 32 ≡ len + 1)
    (linked : Has v.facts (fact.Link p (word % 2 ^ 32) (free_word link))) (low : link < 2 ^ 32) (is : TakesIndex key v p a (word % 2 ^ 32)) where
  abbrev z : Sizes
  z = sizes_in key

  abbrev place : ℕ
  place = freelist_place p

  abbrev found : ℕ
  found = get_or words place 0

  abbrev head : ℕ
  head = word % 2 ^ 32

  abbrev new : ℕ
  new = freelist_word link len

  abbrev e : Event
  e = event_of v a (reply.Index head)

  abbrev won : View
  won = record v { seen = k.log ++ e ∷ []; owed = claim_of v p head ∷ v.owed; facts = fact.Used p head ∷ v.facts }

  abbrev later : List ℕ
  later = set k.shown place new

  same_found : found ≡ get_or k.shown place 0
  same_found = k.near.low place (let f = freelist_place-below p in omega arith)

  module _ (here : found ≡ word) (s : Table) (g : Given key k.log k.shown words v s) where
    shown_word : get_or k.shown place 0 ≡ word
    shown_word = sym same_found ∙ here

    few : limit_of s p < 2 ^ 32
    few = subst (λ (x : Sizes). limit_in x p < 2 ^ 32) (sym g.sizes) (let f = k.few.few p in omega arith)

    tells : (committed : ℕ) × FreelistTells s p (λ i. slice_index k.shown (entry_place s.sizes p i)) head (word / 2 ^ 32) committed
    tells =
        let t = FreelistsTell-shown k.shown s p (g.sound.used.first p) g.shows few in
        (t.0, subst (λ w. FreelistTells s p (λ i. slice_index k.shown (entry_place s.sizes p i)) (w % 2 ^ 32) (w / 2 ^ 32) t.0) shown_word t.1)

    least : (least_free s p ≡ Some head) × (head < tells.0)
    least = tells.1.some (λ none_left. omega (arith, long, none_left))

    free : (s.used p head ≡ false) × (head ≢ 0) × (head < limit_of s p)
    free = least_free-some s p head least.0

    -- the head is still free, so it has the link that was loaded
    link_there : slice_index k.shown (entry_place s.sizes p head) ≡ free_word link
    link_there = elim (each_has _ v.facts (fact.Link p head (free_word link)) g.known linked).1 [
      | inl used ↦ absurd (let f = free.0 in cc)
      | inr there ↦ subst (λ (x : Sizes). slice_index k.shown (entry_place x p head) ≡ free_word link) (sym g.sizes) there.1
    ]

    link_up : head < link
    link_up =
        let from : 1 ≤ head = let f = free.1 in omega arith in
        let next_up = next_free-ge (s.used p) (head + 1) tells.0 (let l = least.1 in omega arith) in
        let same : free_word link ≡ free_word (next_free (s.used p) (head + 1) tells.0) = sym link_there ∙ tells.1.links head from least.1 free.0 in
        omega (arith, same, next_up)

    legal : IsLegal s e
    legal = (is.found s g.start least.0).0

    after_is : next s e ≡ with_taken s v.number p (Some head)
    after_is = (is.found s g.start least.0).1

    add : Adds z k.log e k.shown later (set words place new) won (fact.Used p head ∷ []) s
    add =
        let steady = events-steady s e g.sound legal is.during in
        let same : HasSameReferences s (next s e) = λ o n. elim (steady.references o n) [ inl t ↦ t | inr t ↦ absurd (subst (λ x. TakesFrom x p) t.1 is.from) ] in
        let whole : length k.shown ≡ words_in_all z = g.shows.whole ∙ ap words_in_all g.sizes in
        let more = takes_more p k.log e is.one in
        record {
          legal = legal;
          shows = FreelistWordsFollow-row k.shown s e p head link len (g.sound.used.first p) g.shows few legal is.from refl (ap (λ w. w / 2 ^ 32) shown_word ∙ long) link_there;
          covered = covered_event s e k.shown later g.sound is.during
              (λ o below. get_or-set_other k.shown place (header_place o) new 0 (λ at_list. omega (arith, at_list, freelist_place-below p)))
              (λ o n below. references_same s (next s e) later same o n) g.covered;
          steady = list_steady z k.log (k.log ++ e ∷ []) s (next s e) k.shown p new whole same
              (subst (λ w. Rises w (takes_in p k.log) new (takes_in p (k.log ++ e ∷ []))) (sym shown_word)
              (inr (rank_rises word link len low link_up, omega arith, λ some_left. omega arith)))
              (λ q apart. takes_same q k.log e (is.none q apart));
          owns = subst (λ t. Owns t won) (sym after_is) record {
            variables = g.owns.variables;
            pending = g.owns.pending;
            owed = ((caller.own, claim_here (λ b. b ≡ b) s.owed v.number p head), claims_kept _ s.owed v.number p head v.owed g.owns.owed);
            fresh = g.owns.fresh;
          };
          tells = (((λ i from below. steady.used p i (least_from-before (s.used p) 1 (limit_of s p - 1) head least.0 i from below)), tt), tt);
        }

  -- the caller has no claim on the head, which was free
  new_claim : found ≡ word → without_claim v.number p head v.owed ≡ v.owed
  new_claim here =
      let g = given key words views id v k at k.base k.is_base in
      let s : Table = after k.base k.log in
      without_claim-absent s.owed v.number p head (let f = (free here s g).0 in λ claimed. absurd (let u = (g.sound.used.claims v.number p head claimed).0 in cc)) v.owed
      (each_map _ _ v.owed (λ t claimed. claimed.1) g.owns.owed)

  inside : found ≡ word → (head ≢ 0) × (head < limit_in (sizes_in v.opening) p)
  inside here =
      let g = given key words views id v k at k.base k.is_base in
      let f = free here (after k.base k.log) g in
      (f.1, subst (λ (o : Opening). head < limit_in (sizes_in o) p) (sym caller.opened) (subst (λ (x : Sizes). head < limit_in x p) g.sizes f.2))

  kept_won : found ≡ word → (w : View) × Kept key (set words place new) (set views id w) × Took v p a word found w
  kept_won here =
      let below : place < 3 = freelist_place-below p in
      let done = adds key words (set words place new) views id v won k at later (fact.Used p head ∷ []) refl refl refl
      (IsNear-set z words k.shown place new k.near) (linked_low z words place new (omega (arith, below)))
      (λ q. ap (λ x. count_in q v.hands + x) (sym (grey_low z k.shown place new (λ o made at_list. omega (arith, at_list, below)) q)))
      e refl caller.own is.during refl (add here) in (
        won,
        done.0,
        record {
          won = λ found_is. record {
            same = record { opening = refl; number = refl; numbers = refl; cut = refl; knows = λ x has. inr has };
            rest = (refl, refl, refl, refl);
            owed = refl;
            fresh_claim = new_claim here;
            inside = inside here;
            extends = done.1 caller.opened;
            knows = inl refl;
          };
          lost = λ other. absurd (other here);
        },
      )

  abbrev missed : View
  missed = looker key words views id v k at (fact.Freelist p found (takes_in p k.log) ∷ [])

  -- the word rose from the one that was loaded
  rises : found ≢ word → (n : ℕ) → Has v.facts (fact.Freelist p word n) → (rank word < rank found) × (n < takes_in p k.log)
  rises other n has =
      let g = given key words views id v k at k.base k.is_base in
      elim (each_has _ v.facts (fact.Freelist p word n) g.known has).1 [
        | inl same ↦ absurd (other (same_found ∙ same.0))
        | inr up ↦ (subst (λ w. rank word < rank w) (sym same_found) up.0, up.2 (λ none_left. omega (arith, long, none_left)))
      ]

  kept_missed : found ≢ word → (w : View) × Kept key (set words place found) (set views id w) × Took v p a word found w
  kept_missed other =
      let done = kept_look key words views id v k at (fact.Freelist p found (takes_in p k.log) ∷ []) (λ s g. ((tt, inl (sym same_found, refl)), tt)) in (
        missed,
        loads key words _ place done.0,
        record {
          won = λ found_is. absurd (other found_is);
          lost = λ found_other. record {
            same = record { opening = refl; number = refl; numbers = refl; cut = refl; knows = λ x has. inr has };
            own = record { vars = refl; pending = refl; owed = refl; fresh = refl };
            hands = refl;
            looks = done.1 caller.opened;
            rises = (rises other takes loaded).0;
            more = λ n has. (rises other n has).1;
            knows = inl refl;
          };
        },
      )

  kept : (test : Bool) → (found == word) ≡ test → (w : View) × Kept key (set words place (either test new found)) (set views id w) × Took v p a word found w
  kept true here = kept_won (grind (arith, nat_tests))
  kept false other = kept_missed (grind (arith, nat_tests))

takes_index : (key : Opening) (slots id : ℕ) (me : Me (Unit {0}) View) (p : Space) (a : Act) (word takes link len : ℕ) → IsCaller key me.0 → Has me.0.facts (fact.Freelist p word takes)
    → word / 2 ^ 32 ≡ len + 1 → Has me.0.facts (fact.Link p (word % 2 ^ 32) (free_word link)) → link < 2 ^ 32 → TakesIndex key me.0 p a (word % 2 ^ 32)
    → Keeps key slots id me (freelist_place p) (λ n. either (n == word) (freelist_word link len) n) (λ found w. Took me.0 p a word found w)
takes_index key slots id me p a word takes link len caller loaded long linked low is =
    keeps_by key slots id me (freelist_place p) (λ n. either (n == word) (freelist_word link len) n) (λ found w. Took me.0 p a word found w)
    (λ words views k at. kept key words views id me.0 p a word takes link len k at caller loaded long linked low is (get_or words (freelist_place p) 0 == word) refl)

pub takes_head : (key : Opening) (slots id : ℕ) (me : Me (Unit {0}) View) (p : Space) (word takes link len : ℕ) → IsCaller key me.0 → Has me.0.facts (fact.Freelist p word takes)
    → word / 2 ^ 32 ≡ len + 1 → Has me.0.facts (fact.Link p (word % 2 ^ 32) (free_word link)) → link < 2 ^ 32
    → Keeps key slots id me (freelist_place p) (λ n. either (n == word) (freelist_word link len) n) (λ found w. Took me.0 p (act.Take p) word found w)
takes_head key slots id me p word takes link len caller loaded long linked low =
    takes_index key slots id me p (act.Take p) word takes link len caller loaded long linked low (takes_first key me.0 p (word % 2 ^ 32))

pub takes_below : (key : Opening) (slots id : ℕ) (me : Me (Unit {0}) View) (start word takes link len : ℕ) → IsCaller key me.0 → start_of me.0.opening ≡ Some start → word % 2 ^ 32 < start
    → Has me.0.facts (fact.Freelist External word takes) → word / 2 ^ 32 ≡ len + 1 → Has me.0.facts (fact.Link External (word % 2 ^ 32) (free_word link)) → link < 2 ^ 32
    → Keeps key slots id me (freelist_place External) (λ n. either (n == word) (freelist_word link len) n) (λ found w. Took me.0 External (act.Below start) word found w)
takes_below key slots id me start word takes link len caller area below loaded long linked low =
    takes_index key slots id me External (act.Below start) word takes link len caller loaded long linked low
    (takes_first_below key me.0 start (word % 2 ^ 32) (ap start_of (sym caller.opened) ∙ area) below)

pub took_calls : (key : Opening) (v : View) (p : Space) (a : Act) (word found : ℕ) (w : View) → IsCaller key v → Took v p a word found w → IsCaller key w
took_calls key v p a word found w caller took = elim (eqb_tells found word) [
  | inl here ↦ let t = took.won here.1 in caller_same key v w caller t.same t.extends.lawful t.rest.0 t.rest.1 t.rest.3
  | inr other ↦ let t = took.lost other.1 in caller_same key v w caller t.same t.looks.lawful t.own.vars t.own.pending t.hands
]

pub took_tied : (x : Parts) (v : View) (p : Space) (a : Act) (word found : ℕ) (w : View) → IsTied x v → Took v p a word found w → IsTied x w
took_tied x v p a word found w tied took = elim (eqb_tells found word) [
  | inl here ↦ let t = took.won here.1 in tied_stays v w x t.same.opening t.same.number t.same.numbers t.rest.0 t.rest.1 tied
  | inr other ↦ let t = took.lost other.1 in tied_stays v w x t.same.opening t.same.number t.same.numbers t.own.vars t.own.pending tied
]
