-- One more call of a reader, and of a writer.
use Rattle.std.proofs.Common.{◌≡◌, ◌≢◌, ℕ, ◌+◌, ◌*◌, ◌-◌, ◌^◌, ◌%◌, ◌≤◌, ◌<◌, ◌⊎◌, inl, inr, ◌==◌, Bool, true, false, if◌then◌else◌, List, [], ◌∷◌, ◌++◌, length, refl, sym, ap, ◌∙◌, subst, arith, length-append}
use Rattle.std.proofs.lemmas.Bool.Decides.{nat_tests}
use Rattle.code_steps.specs.declared.view.View.{View}
use Rattle.code_steps.specs.declared.view.Store.{Store}
use Rattle.code_steps.specs.Lists.{Pair, StartsWith, Each, total, list_at, grown_at, EndsWith, store_of}
use Rattle.code_steps.specs.Steps.{SameSeat}
use Rattle.code_steps.specs.declared.calls.Wrote.{Wrote}
use Rattle.code_steps.specs.declared.calls.CodeRead.{CodeRead}
use Rattle.code_steps.specs.declared.calls.CodeRead.TheVariants.{Pair as PairRead, Again}
use Rattle.code_steps.specs.Calls.{Looked, shown_by_write, HasWriteCause, shown_by_read, HasReadCause}
use Rattle.code_steps.proofs.Totals.{total_append, total_snoc}
use Rattle.code_steps.proofs.Prefixes.{same_or_not, each_map, each_append, grown_here, grown_starts, starts_self}
use Rattle.code_run.specs.declared.workers.WriteCounts.{WriteCounts}
use Rattle.code_run.specs.declared.workers.ReadCounts.{ReadCounts}
use Rattle.code_run.specs.Calls.{is_good, is_bad, of_done, of_busy, of_pair, of_again, of_bad, stored_by, stores_of, shown_at, StandsIn, AllStandIn}
use Rattle.code_run.specs.Runs.{IsStoreOf, of_code}
use Rattle.code_run.specs.Workers.{of_entry, moved, is_last, WroteCalls, ReadCalls}
use Rattle.code_run.proofs.Answered.{flat_map_calls, each_calls, shown_more, all_stay}
use Rattle.code_run.proofs.Sums.{total_grown, total_at, total_starts, total_ones, total_lengths, total_none}

pub lengths_grown : {A : Type 0} (ls : List (List A)) (i : ℕ) (more : List A) → i < length ls → total length (grown_at ls i more) ≡ total length ls + length more
lengths_grown ls i more low =
    let a = total_grown (λ _. 1) ls i more low in
    let b = total_lengths ls in
    let c = total_lengths (grown_at ls i more) in
    let d = total_ones more in
    omega arith

module _ (before v w : View) (r first second : ℕ) (c : ReadCounts) (was : ReadCalls before r v c) (entries : length v.seen ≡ 4) (entries_shown : length v.shown ≡ 4) (same : SameSeat v w) (shown : w.shown ≡ grown_at v.shown (r % 4) (first ∷ second ∷ [])) (looked : Looked v (r % 4) w) where
  module _ (x : CodeRead) where
    abbrev now : List CodeRead
    now = was.answers ++ x ∷ []

    one_more : length now ≡ r + 1
    one_more = let a = length-append was.answers (x ∷ []) in let b = was.calls in omega arith

    causes_now : HasReadCause x → Each HasReadCause now
    causes_now cause = each_append HasReadCause was.answers (x ∷ []) was.causes (cause, tt)

    counts_now : (total of_pair now ≡ c.pairs + of_pair x) × (total of_again now ≡ c.again + of_again x) × (total of_bad now ≡ c.bad + of_bad x)
    counts_now =
        let a = was.counts in (
          let b = total_snoc of_pair was.answers x in omega arith,
          let b = total_snoc of_again was.answers x in omega arith,
          let b = total_snoc of_bad was.answers x in omega arith,
        )

    stand_now : StandsIn w r x → AllStandIn w now
    stand_now stands =
        let long = was.calls in
        each_calls (λ call. StandsIn w call.0 call.1) 0 was.answers x
        (all_stay v w was.answers same.start grows was.stand)
        (subst (λ (n : ℕ). StandsIn w n x) (let e : r ≡ 0 + length was.answers = omega arith in e) stands)
      where
        grows : (i : ℕ) → StartsWith (list_at w.seen i) (list_at v.seen i)
        grows i = subst (λ seen. StartsWith (list_at seen i) (list_at v.seen i)) (sym looked.seen) (grown_starts v.seen (r % 4) i looked.more (omega arith))

    showed_now : shown_by_read x ≡ first ∷ second ∷ [] → (i : ℕ) → list_at w.shown i ≡ shown_at shown_by_read i now
    showed_now is i = shown_more shown_by_read v.shown w.shown was.answers x r i was.calls (omega arith) (shown ∙ ap (grown_at v.shown (r % 4)) (sym is)) (was.showed i)

  two_more : 2 * (r + 1) ≤ total length w.shown
  two_more =
      let a : total length w.shown ≡ total length (grown_at v.shown (r % 4) (first ∷ second ∷ [])) = ap (total length) shown in
      let b = lengths_grown v.shown (r % 4) (first ∷ second ∷ []) (omega arith) in
      let d = was.shown in
      omega arith

  still_bad : total (total is_bad) v.seen ≤ total (total is_bad) w.seen
  still_bad =
      let a : total (total is_bad) w.seen ≡ total (total is_bad) (grown_at v.seen (r % 4) looked.more) = ap (total (total is_bad)) looked.seen in
      let b = total_grown is_bad v.seen (r % 4) looked.more (omega arith) in
      omega arith

  pub read_again : HasReadCause (Again first second) → ReadCalls before (r + 1) w record c { again = c.again + 1 }
  read_again cause = let x : CodeRead = Again first second in let counts = counts_now x in record {
    answers = now x;
    calls = one_more x;
    causes = causes_now x cause;
    counts = (omega arith, omega arith, omega arith);
    stand = stand_now x tt;
    showed = showed_now x refl;
    parts = same.parts ∙ was.parts;
    start = same.start ∙ was.start;
    made = let a = was.made in omega arith;
    few = was.few;
    own = looked.own ∙ was.own;
    shown = two_more;
    bad = λ some. let a = was.bad some in let b = still_bad in omega arith;
  }

  module _ (code entry seq : ℕ) (cause : seq % 2 ≡ 0) (is : shown_by_read (PairRead code entry seq) ≡ first ∷ second ∷ []) (ends : EndsWith w.start (list_at w.seen (r % 4)) seq (code, entry)) where
    stands : StandsIn w r (PairRead code entry seq)
    stands = (list_at w.seen (r % 4), starts_self (list_at w.seen (r % 4)), ends)

    pub read_good : is_good (code, entry) ≡ true → ReadCalls before (r + 1) w record c { pairs = c.pairs + 1 }
    read_good good =
        let x : CodeRead = PairRead code entry seq in
        let counts = counts_now x in
        let none : is_bad (code, entry) ≡ 0 = ap (λ (b : Bool). if b then 0 else 1) good in record {
          answers = now x;
          calls = one_more x;
          causes = causes_now x cause;
          counts = (omega arith, omega arith, omega arith);
          stand = stand_now x stands;
          showed = showed_now x is;
          parts = same.parts ∙ was.parts;
          start = same.start ∙ was.start;
          made = let a = was.made in omega arith;
          few = let a = was.few in omega arith;
          own = looked.own ∙ was.own;
          shown = two_more;
          bad = λ some. let a = was.bad some in let b = still_bad in omega arith;
        }

    pub read_bad : is_good (code, entry) ≡ false → ReadCalls before (r + 1) w record c { pairs = c.pairs + 1; bad = c.bad + 1 }
    read_bad bad =
        let x : CodeRead = PairRead code entry seq in
        let counts = counts_now x in
        let one : is_bad (code, entry) ≡ 1 = ap (λ (b : Bool). if b then 0 else 1) bad in record {
          answers = now x;
          calls = one_more x;
          causes = causes_now x cause;
          counts = (omega arith, omega arith, omega arith);
          stand = stand_now x stands;
          showed = showed_now x is;
          parts = same.parts ∙ was.parts;
          start = same.start ∙ was.start;
          made = let a = was.made in omega arith;
          few = let a = was.few in omega arith;
          own = looked.own ∙ was.own;
          shown = two_more;
          bad = λ some.
              let a : total is_bad (list_at w.seen (r % 4)) ≡ total is_bad (ends.before ++ (code, entry) ∷ []) = ap (total is_bad) ends.is in
              let b = total_append is_bad ends.before ((code, entry) ∷ []) in
              let e = total_at is_bad w.seen (r % 4) in
              omega arith;
        }

-- the store that call r makes
pub record IsNow (writer r : ℕ) (x : Store) : Type 0 where
  pub at : x.at ≡ r % 4
  pub code : x.code ≡ 2 * r + writer
  pub entry : x.entry ≡ 2 ^ 32 + (2 * r + writer)

count_codes : (code : ℕ) (xs : List Store) → total (of_code code) xs ≤ length xs
count_codes code [] = omega arith
count_codes code (x ∷ xs) = let r = count_codes code xs in let a : of_code code x ≤ 1 = grind (arith, nat_tests) in omega arith

pub other_code : (code : ℕ) (x : Store) → x.code ≢ code → of_code code x ≡ 0
other_code code x ne = let t : (x.code == code) ≡ false = grind (arith, nat_tests) in ap (λ (b : Bool). if b then 1 else 0) t

module _ (before v w : View) (writer r b s : ℕ) (c : WriteCounts) (x : Wrote) (made : List Store) (ns : List ℕ) (cause : HasWriteCause x) (is_shown : ns ≡ shown_by_write x) (is_stored : made ≡ stored_by writer r x) (is_done : length made ≡ of_done x) (is_busy : b ≡ of_busy x) (was : WroteCalls before writer r v c) (entries_shown : length v.shown ≡ 4) (same : SameSeat v w) (shown : w.shown ≡ grown_at v.shown (r % 4) ns) (own : w.own ≡ v.own ++ made) (now : Each (IsNow writer r) made) (one : length made + b + s ≡ 1) (few : length made ≤ 1) (touched : 1 ≤ total (of_entry (r % 4)) made + total moved ns) (long : 2 * length made + b ≤ length ns) (last : s ≤ total is_last ns) where
  once_more : (code : ℕ) → (code ≡ 2 * r + writer) ⊎ (code ≢ 2 * r + writer) → total (of_code code) (v.own ++ made) ≤ 1
  once_more code (inl is) =
      let a = total_append (of_code code) v.own made in
      let d = count_codes code made in
      let none = total_none (IsStoreOf writer r) (of_code code) (λ x h. other_code code x (λ e. let f = h.code in let g = h.below in omega arith)) v.own was.own in
      omega arith
  once_more code (inr ne) =
      let a = total_append (of_code code) v.own made in
      let d = was.once code in
      let none = total_none (IsNow writer r) (of_code code) (λ x h. other_code code x (λ e. ne (sym e ∙ h.code))) made now in
      omega arith

  mark : (i : ℕ) → i < 4 → i < r + 1 → (i ≡ r) ⊎ (i ≢ r) → 1 ≤ total (of_entry i) (v.own ++ made) + total moved (list_at (grown_at v.shown (r % 4) ns) i)
  mark i low below (inl is) =
      let here : i ≡ r % 4 = omega arith in
      let a = total_append (of_entry i) v.own made in
      let d : total moved (list_at (grown_at v.shown (r % 4) ns) i) ≡ total moved (list_at v.shown (r % 4) ++ ns) = ap (λ (n : ℕ). total moved (list_at (grown_at v.shown (r % 4) ns) n)) here ∙ ap (total moved) (grown_here v.shown (r % 4) ns (omega arith)) in
      let e = total_append moved (list_at v.shown (r % 4)) ns in
      let f : total (of_entry i) made ≡ total (of_entry (r % 4)) made = ap (λ (n : ℕ). total (of_entry n) made) here in
      omega arith
  mark i low below (inr ne) =
      let a = total_append (of_entry i) v.own made in
      let d = was.marked i low (omega arith) in
      let e = total_starts moved (list_at (grown_at v.shown (r % 4) ns) i) (list_at v.shown i) (grown_starts v.shown (r % 4) i ns (omega arith)) in
      omega arith

  abbrev answers : List Wrote
  answers = was.answers ++ x ∷ []

  stored : v.own ++ made ≡ stores_of writer answers
  stored =
      let long = was.calls in
      let turn : r ≡ 0 + length was.answers = omega arith in
      ap (λ own. own ++ made) was.stored
      ∙ (ap (λ l. stores_of writer was.answers ++ l) (is_stored ∙ ap (λ (n : ℕ). stored_by writer n x) turn)
      ∙ sym (flat_map_calls (λ call. stored_by writer call.0 call.1) 0 was.answers x))

  pub wrote_more : (d : WriteCounts) → d.done ≡ c.done + length made → d.busy ≡ c.busy + b → d.spent ≡ c.spent + s → WroteCalls before writer (r + 1) w d
  wrote_more d done_now busy_now spent_now = record {
    answers = answers;
    calls = let a = length-append was.answers (x ∷ []) in let e = was.calls in omega arith;
    causes = each_append HasWriteCause was.answers (x ∷ []) was.causes (cause, tt);
    counts = let a = total_snoc of_done was.answers x in let e = total_snoc of_busy was.answers x in let was_counts = was.counts in (omega arith, omega arith);
    stored = own ∙ stored;
    showed = λ i. shown_more shown_by_write v.shown w.shown was.answers x r i was.calls (omega arith) (shown ∙ ap (grown_at v.shown (r % 4)) is_shown) (was.showed i);
    parts = same.parts ∙ was.parts;
    start = same.start ∙ was.start;
    made = let a = was.made in omega arith;
    own = subst (Each (IsStoreOf writer (r + 1))) (sym own) (each_append (IsStoreOf writer (r + 1)) v.own made
        (each_map (IsStoreOf writer r) (IsStoreOf writer (r + 1)) v.own (λ x h. record { turn = h.turn; below = let a = h.below in omega arith; at = h.at; code = h.code; entry = h.entry }) was.own)
        (each_map (IsNow writer r) (IsStoreOf writer (r + 1)) made (λ x h. record { turn = r; below = omega arith; at = h.at; code = h.code; entry = h.entry }) now));
    count = ap length own ∙ (length-append v.own made ∙ (ap (λ (n : ℕ). n + length made) was.count ∙ sym done_now));
    once = λ code. subst (λ own. total (of_code code) own ≤ 1) (sym own) (once_more code (same_or_not code (2 * r + writer)));
    marked = λ i low below. subst (λ own. 1 ≤ total (of_entry i) own + total moved (list_at w.shown i)) (sym own) (subst (λ shown. 1 ≤ total (of_entry i) (v.own ++ made) + total moved (list_at shown i)) (sym shown) (mark i low below (same_or_not i r)));
    shown =
        let a : total length w.shown ≡ total length (grown_at v.shown (r % 4) ns) = ap (total length) shown in
        let g = lengths_grown v.shown (r % 4) ns (omega arith) in
        let e = was.shown in
        omega arith;
    spent =
        let a : total (total is_last) w.shown ≡ total (total is_last) (grown_at v.shown (r % 4) ns) = ap (total (total is_last)) shown in
        let g = total_grown is_last v.shown (r % 4) ns (omega arith) in
        let e = was.spent in
        omega arith;
  }

-- a busy write showed a sequence that isn't 0
pub busy_moved : (expected found : ℕ) → (((expected % 2 ≡ 1) × (found ≡ expected)) ⊎ ((expected % 2 ≡ 0) × (expected ≢ 2 ^ 64 - 2) × (found ≢ expected))) → 1 ≤ total moved (if expected % 2 == 0 then expected ∷ found ∷ [] else expected ∷ [])
busy_moved expected found (inl odd) =
    let t : (expected % 2 == 0) ≡ false = let a = odd.0 in grind (arith, nat_tests, a) in
    let z : (expected == 0) ≡ false = let a = odd.0 in grind (arith, nat_tests, a) in
    let one : moved expected ≡ 1 = ap (λ (b : Bool). if b then 0 else 1) z in
    subst (λ (b : Bool). 1 ≤ total moved (if b then expected ∷ found ∷ [] else expected ∷ [])) (sym t) (omega arith)
busy_moved expected found (inr even) =
    let t : (expected % 2 == 0) ≡ true = let a = even.0 in grind (arith, nat_tests, a) in
    subst (λ (b : Bool). 1 ≤ total moved (if b then expected ∷ found ∷ [] else expected ∷ [])) (sym t) (go (same_or_not expected 0))
  where
    one : (n : ℕ) → n ≢ 0 → moved n ≡ 1
    one n ne = let z : (n == 0) ≡ false = grind (arith, nat_tests) in ap (λ (b : Bool). if b then 0 else 1) z

    go : (expected ≡ 0) ⊎ (expected ≢ 0) → 1 ≤ moved expected + (moved found + 0)
    go (inl is) = let a = one found (λ z. even.2 (z ∙ sym is)) in omega arith
    go (inr ne) = let a = one expected ne in omega arith

pub busy_long : (expected found : ℕ) → 1 ≤ length (if expected % 2 == 0 then expected ∷ found ∷ [] else expected ∷ [])
busy_long expected found = go (expected % 2 == 0)
  where
    go : (b : Bool) → 1 ≤ length (if b then expected ∷ found ∷ [] else expected ∷ [])
    go true = omega arith
    go false = omega arith

pub done_touched : (at seq : ℕ) (p : Pair) (ns : List ℕ) → 1 ≤ total (of_entry at) (store_of at seq p ∷ []) + total moved ns
done_touched at seq p ns = let t : (at == at) ≡ true = grind (arith, nat_tests) in let a : of_entry at (store_of at seq p) ≡ 1 = ap (λ (b : Bool). if b then 1 else 0) t in omega arith
