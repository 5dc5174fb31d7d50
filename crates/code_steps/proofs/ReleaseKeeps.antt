-- A release keeps the rule.
use Rattle.std.proofs.Common.{◌≡◌, ℕ, ◌+◌, ◌*◌, ◌%◌, ◌≤◌, ◌<◌, true, false, List, [], ◌∷◌, ◌++◌, length, get_or, set, refl, sym, ap, ◌∙◌, subst, arith, true≢false, length-set, length-append, append_assoc}
use Rattle.std.proofs.Math.Seq.{get_or-append_seam}
use mathlib.Core.Option.{none, some}
use lib.ListN.{get_elem?}
use Rattle.atomic_table.specs.Table.{Allows, Me, step}
use Rattle.code_steps.specs.declared.view.View.{View}
use Rattle.code_steps.specs.declared.view.Store.{Store}
use Rattle.code_steps.specs.Lists.{Pair, total, StartsWith, list_at, grown_at, store_of, all_stores, EndsWith, IsSeenStore}
use Rattle.code_steps.specs.Rule.{sequence_word, code_word, entry_word, holds_at, HasNumbers, Shows, Knows, Kept, Ruled}
use Rattle.code_steps.specs.Steps.{Released, released}
use Rattle.code_steps.proofs.Totals.{among, total_snoc}
use Rattle.code_steps.proofs.Prefixes.{at_each, starts_self, starts_trans, starts_long, each_append, grown_here, grown_else, grown_long, grown_starts}
use Rattle.code_steps.proofs.Weights.{all_grown}
use Rattle.code_steps.proofs.Frame.{Changes, risen, shown_stays, store_stays}
use Rattle.code_steps.proofs.Words.{sequence_here, sequence_code, sequence_entry, sequence_else}
use Rattle.code_steps.proofs.Steps.{allows, steps, holders_now, holds_here, holds_free, holds_else, alone_there}

module _ (words : List ℕ) (views : List View) (id : ℕ) (v : View) (i seq : ℕ) (k : Kept words views) (at : get_elem? views id ≡ some v) (alive : 0 < v.parts) (holds : v.holds ≡ true) (here : v.at ≡ i) (next : seq ≡ v.first + 1) where
  abbrev p : Pair
  p = (v.code, v.entry)

  abbrev now : List ℕ
  now = set words (3 * i) seq

  abbrev longer : List (List Pair)
  longer = grown_at k.lists i (p ∷ [])

  -- what the seat had not seen of the list
  abbrev between : List Pair
  between = ((k.knows id v at alive).seen i).0

  -- the view after the release
  abbrev after : View
  after = record v { seen = grown_at v.seen i (between ++ p ∷ []); own = v.own ++ store_of i seq p ∷ []; at = i; first = seq; holds = false }

  kn : Knows k.start k.lists words v
  kn = k.knows id v at alive

  held : (sequence_word words v.at ≡ v.first) × (v.first % 2 ≡ 1) × HasNumbers words v
  held = (k.knows id v at alive).held holds

  low : i < length k.lists
  low = let a = (k.knows id v at alive).place in omega arith

  low_seen : i < length v.seen
  low_seen = let a = (k.knows id v at alive).place in let b = (k.knows id v at alive).sizes.0 in omega arith

  room : 3 * i < length words
  room = let a = low in let b = k.size in omega arith

  found : sequence_word words i ≡ v.first
  found = ap (sequence_word words) (sym here) ∙ held.0

  change : Changes k.lists longer words now i
  change = record {
    count = grown_long k.lists i (p ∷ []);
    grows = λ j. grown_starts k.lists i j (p ∷ []) low;
    elsewhere = sequence_else words i seq;
    up = let a = sequence_here words i seq room in let b = found in omega arith;
    still = λ same _. let a = sequence_here words i seq room in let b = found in absurd (omega arith);
  }

  -- the list has one pair more, and its sequence is the next even one
  list_now : list_at longer i ≡ list_at k.lists i ++ p ∷ []
  list_now = grown_here k.lists i (p ∷ []) low

  seen_now : list_at after.seen i ≡ list_at k.lists i ++ p ∷ []
  seen_now = grown_here v.seen i (between ++ p ∷ []) low_seen ∙ (sym (append_assoc (list_at v.seen i) between (p ∷ [])) ∙ ap (λ l. l ++ p ∷ []) (sym ((k.knows id v at alive).seen i).1))

  held_once : total (holds_at i) views ≡ 1
  held_once = let a = holds_here v i holds here in let b = among (holds_at i) views id v at in let c = (k.shows i low).one in omega arith

  place : seq ≡ k.start + 2 * length (list_at k.lists i)
  place =
      let s = k.shows i low in
      let a = s.ends.place in
      let b : length (list_at k.lists i) ≡ length s.ends.before + 1 = ap length s.ends.is ∙ length-append s.ends.before (s.last ∷ []) in
      let c = s.word in
      let d = held_once in
      let e = found in
      omega arith

  ends_now : EndsWith k.start (list_at longer i) seq p
  ends_now = record { before = list_at k.lists i; is = list_now; place = place }

  shows : Shows k.start (list_at longer i) now i (total (holds_at i) (set views id after))
  shows =
      let a = holders_now words now views id v after longer i k at i in
      let b = holds_here v i holds here in
      let c = holds_free after i refl in
      let d = held_once in
      let none_left : total (holds_at i) (set views id after) ≡ 0 = omega arith in record {
        last = p;
        seq = seq;
        ends = ends_now;
        word = let e = sequence_here words i seq room in omega arith;
        one = omega arith;
        pair = λ _. (sequence_code words i seq ∙ (ap (code_word words) (sym here) ∙ held.2.0), sequence_entry words i seq ∙ (ap (entry_word words) (sym here) ∙ held.2.1));
      }

  longer_seen : (j : ℕ) → length (list_at v.seen j) ≤ length (list_at after.seen j)
  longer_seen j = starts_long (list_at after.seen j) (list_at v.seen j) (grown_starts v.seen i j (between ++ p ∷ []) low_seen)

  some_pair : 1 ≤ length (list_at k.lists i)
  some_pair = let a = ap length (k.shows i low).ends.is in let b = length-append (k.shows i low).ends.before ((k.shows i low).last ∷ []) in omega arith

  new_store : IsSeenStore k.start longer after.seen (store_of i seq p)
  new_store = record {
    place = length (list_at k.lists i);
    seq = place;
    past = some_pair;
    within = let a = ap length seen_now in let b = length-append (list_at k.lists i) (p ∷ []) in omega arith;
    pair = ap (λ l. get_or l (length (list_at k.lists i)) (0, 0)) list_now ∙ get_or-append_seam (list_at k.lists i) p [] (0, 0);
  }

  mine : Knows k.start longer now after
  mine = record {
    begins = kn.begins;
    sizes = (grown_long v.seen i (between ++ p ∷ []) ∙ (kn.sizes.0 ∙ sym (grown_long k.lists i (p ∷ []))), kn.sizes.1 ∙ sym (grown_long k.lists i (p ∷ [])));
    seen = at_each (λ n. StartsWith (list_at longer n) (list_at after.seen n)) i
        (subst (StartsWith (list_at longer i)) (list_now ∙ sym seen_now) (starts_self (list_at longer i)))
        (λ j ne. subst (StartsWith (list_at longer j)) (sym (grown_else v.seen i j (between ++ p ∷ []) ne)) (starts_trans (list_at longer j) (list_at k.lists j) (list_at v.seen j) (change.grows j) (kn.seen j)));
    some = λ j l. let a = kn.some j (let c = change.count in omega arith) in let b = longer_seen j in omega arith;
    common = λ j. starts_trans (list_at after.seen j) (list_at v.seen j) (list_at v.common j) (grown_starts v.seen i j (between ++ p ∷ []) low_seen) (kn.common j);
    own = each_append (IsSeenStore k.start longer after.seen) v.own (store_of i seq p ∷ []) (store_stays k.start k.lists longer v.seen after.seen change.grows kn.seen longer_seen v.own kn.own) (new_store, tt);
    shown = shown_stays words now v.shown (risen k.lists longer words now i change) kn.shown;
    earlier = (kn.earlier.0 ∙ sym (grown_long k.lists i (p ∷ [])), shown_stays words now v.earlier (risen k.lists longer words now i change) kn.earlier.1);
    place = let a = change.count in let b = low in omega arith;
    low = let a = sequence_here words i seq room in omega arith;
    read = λ _ _. (sequence_code words i seq ∙ (ap (code_word words) (sym here) ∙ held.2.0), sequence_entry words i seq ∙ (ap (entry_word words) (sym here) ∙ held.2.1));
    held = λ never. absurd (true≢false (sym never));
  }

  stores : (h : Store → ℕ) → total h after.own + total h (all_stores 0 k.start k.lists) ≡ total h v.own + total h (all_stores 0 k.start longer)
  stores h =
      let a = total_snoc h v.own (store_of i seq p) in
      let b = all_grown h 0 k.start k.lists i p i seq low some_pair (omega arith) place in
      omega arith

  kept_release : Kept now (set views id after)
  kept_release = steps words now views id v after longer i k at alive change (length-set words (3 * i) seq) refl
      (λ j ne. holds_free after j refl ∙ sym (holds_else v j (λ e. ne (sym e ∙ here))))
      (λ _. shows)
      (λ j ne. grown_else k.lists i j (p ∷ []) ne)
      stores
      (alone_there words now views id v after longer i k at (holds_here v i holds here) low)
      mine

  pub release_step : (w : View) × Kept (set words (3 * i) seq) (set views id w) × Released v i seq w
  release_step = (
    after,
    kept_release,
    record {
      same = record { parts = refl; start = refl; earlier = refl };
      free = refl;
      shown = refl;
      at = sym here;
      stored = record {
        between = between;
        seen = refl;
        ends = record { before = list_at k.lists i; is = seen_now; place = let a = kn.begins in let b = place in omega arith };
        own = refl;
      };
    },
  )

pub releases : (slots id : ℕ) (me : Me (Unit {0}) View) (i seq : ℕ) → 0 < me.0.parts → me.0.holds ≡ true → me.0.at ≡ i → seq ≡ me.0.first + 1
    → Allows {S = Unit {0}} {V = View} Ruled slots id me (3 * i) (λ _. seq) (released (step slots (3 * i) seq 0 none) me)
releases slots id me i seq alive holds here next = allows slots id me (3 * i) (λ _. seq) (released (step slots (3 * i) seq 0 none) me) (λ words views k at.
    let r = release_step words views id me.0 i seq k at alive holds here next in
    (r.0, r.1, ((λ j same. subst (λ (n : ℕ). Released me.0 n seq r.0) (omega arith) r.2), refl)))
