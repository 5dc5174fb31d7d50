-- Loads keep the rule.
use Rattle.std.proofs.Common.{◌≡◌, ℕ, ◌+◌, ◌*◌, ◌%◌, ◌≤◌, ◌<◌, false, List, [], ◌∷◌, ◌++◌, length, get_or, set, refl, sym, ap, ◌∙◌, subst, arith, true≢false}
use mathlib.Core.Option.{none, some}
use lib.ListN.{get_elem?}
use Rattle.atomic_table.specs.Table.{Allows, Me, step}
use Rattle.code_steps.specs.declared.view.View.{View}
use Rattle.code_steps.specs.Lists.{Pair, StartsWith, Each, list_at, grown_at, EndsWith}
use Rattle.code_steps.specs.Views.{known_at}
use Rattle.code_steps.specs.Rule.{sequence_word, code_word, entry_word, Knows, Kept, Ruled}
use Rattle.code_steps.specs.Steps.{LoadedSequence, loaded_sequence, loaded_code, loaded_entry}
use Rattle.code_steps.proofs.Prefixes.{at_each, starts_self, grown_here, grown_else, grown_long, grown_starts, starts_long, starts_trans, each_append}
use Rattle.code_steps.proofs.Frame.{store_stays}
use Rattle.code_steps.proofs.Steps.{allows, loads, quiet, none_there}

-- one more sequence was shown, which is no more than the present one
pub shown_more : (words : List ℕ) (shown : List (List ℕ)) (i n : ℕ) → i < length shown → n ≤ sequence_word words i → ((j : ℕ) → Each (λ m. m ≤ sequence_word words j) (list_at shown j))
    → (j : ℕ) → Each (λ m. m ≤ sequence_word words j) (list_at (grown_at shown i (n ∷ [])) j)
shown_more words shown i n low le all = at_each (λ m. Each (λ x. x ≤ sequence_word words m) (list_at (grown_at shown i (n ∷ [])) m)) i
    (subst (Each (λ x. x ≤ sequence_word words i)) (sym (grown_here shown i (n ∷ []) low)) (each_append (λ x. x ≤ sequence_word words i) (list_at shown i) (n ∷ []) (all i) (le, tt)))
    (λ j ne. subst (Each (λ x. x ≤ sequence_word words j)) (sym (grown_else shown i j (n ∷ []) ne)) (all j))

-- none of the sequences that are known is above the present one
pub known_below : (opening : ℕ) (lists : List (List Pair)) (words : List ℕ) (v : View) → Knows opening lists words v → (i : ℕ) → Each (λ n. n ≤ sequence_word words i) (known_at v i)
known_below opening lists words v k i = each_append (λ n. n ≤ sequence_word words i) (list_at v.earlier i) (list_at v.shown i) (k.earlier.1 i) (k.shown i)

-- the list of entry i was seen whole
pub seen_more : (lists seen : List (List Pair)) (i : ℕ) (more : List Pair) → i < length seen → list_at lists i ≡ list_at seen i ++ more → ((j : ℕ) → StartsWith (list_at lists j) (list_at seen j))
    → (j : ℕ) → StartsWith (list_at lists j) (list_at (grown_at seen i more) j)
seen_more lists seen i more low is all = at_each (λ m. StartsWith (list_at lists m) (list_at (grown_at seen i more) m)) i
    (subst (StartsWith (list_at lists i)) (is ∙ sym (grown_here seen i more low)) (starts_self (list_at lists i)))
    (λ j ne. subst (StartsWith (list_at lists j)) (sym (grown_else seen i j more ne)) (all j))

-- the view after a load of a sequence
abbrev met : View → ℕ → ℕ → List Pair → ℕ → ℕ → View
met v i found more code entry = record v { seen = grown_at v.seen i more; shown = grown_at v.shown i (found ∷ []); at = i; first = found; code = code; entry = entry }

pub loads_sequence : (slots id : ℕ) (me : Me (Unit {0}) View) (i : ℕ) → 0 < me.0.parts → me.0.holds ≡ false → i < length me.0.seen
    → Allows {S = Unit {0}} {V = View} Ruled slots id me (3 * i) (λ n. n) (loaded_sequence (step slots (3 * i) 0 0 none) me)
loads_sequence slots id me i alive free low = allows slots id me (3 * i) (λ n. n) (loaded_sequence (step slots (3 * i) 0 0 none) me) go
  where
    go : (words : List ℕ) (views : List View) → Kept words views → get_elem? views id ≡ some me.0
        → (w : View) × Kept (set words (3 * i) (get_or words (3 * i) 0)) (set views id w) × (((j : ℕ) → 3 * i ≡ 3 * j → LoadedSequence me.0 j (get_or words (3 * i) 0) w) × (me.1 ≡ me.1))
    go words views k at =
        let v = me.0 in
        let kn = k.knows id v at alive in
        let found : ℕ = sequence_word words i in
        let more : List Pair = (kn.seen i).0 in
        let w : View = met v i found more (code_word words i) (entry_word words i) in
        let low_list : i < length k.lists = let a = kn.sizes.0 in omega arith in
        let low_shown : i < length v.shown = let a = kn.sizes.0 in let b = kn.sizes.1 in omega arith in
        let whole : list_at w.seen i ≡ list_at k.lists i = grown_here v.seen i more low ∙ sym (kn.seen i).1 in
        let mine : Knows k.start k.lists words w = record {
          begins = kn.begins;
          sizes = (grown_long v.seen i more ∙ kn.sizes.0, grown_long v.shown i (found ∷ []) ∙ kn.sizes.1);
          seen = seen_more k.lists v.seen i more low (kn.seen i).1 kn.seen;
          some = λ j l. let a = kn.some j l in let b = starts_long (list_at w.seen j) (list_at v.seen j) (grown_starts v.seen i j more low) in omega arith;
          common = λ j. starts_trans (list_at w.seen j) (list_at v.seen j) (list_at v.common j) (grown_starts v.seen i j more low) (kn.common j);
          own = store_stays k.start k.lists k.lists v.seen w.seen (λ j. starts_self (list_at k.lists j)) kn.seen (λ j. starts_long (list_at w.seen j) (list_at v.seen j) (grown_starts v.seen i j more low)) v.own kn.own;
          shown = shown_more words v.shown i found low_shown (omega arith) kn.shown;
          earlier = kn.earlier;
          place = low_list;
          low = omega arith;
          read = λ _ _. (refl, refl);
          held = λ holds. absurd (true≢false (sym holds ∙ free));
        } in
        let kept = quiet words views id v w k at alive refl free free refl mine in
        let pair : i ≡ v.at → found ≡ v.first → found % 2 ≡ 0 → EndsWith w.start (list_at w.seen i) found (v.code, v.entry) = λ same again even.
        let s = k.shows i low_list in
        let nobody = none_there words words views id v w k.lists i k at even low_list in
        let numbers = kn.read (ap (λ (n : ℕ). n % 2) (sym again) ∙ even) (ap (sequence_word words) (sym same) ∙ again) in
        let shown = s.pair nobody in
        let is_code : s.last.0 ≡ v.code = sym shown.0 ∙ (ap (code_word words) same ∙ numbers.0) in
        let is_entry : s.last.1 ≡ v.entry = sym shown.1 ∙ (ap (entry_word words) same ∙ numbers.1) in
        let seq : found ≡ s.seq = let a = s.word in omega arith in record {
          before = s.ends.before;
          is = whole ∙ (s.ends.is ∙ (λ x. s.ends.before ++ (is_code x, is_entry x) ∷ []));
          place = let a = s.ends.place in let b = kn.begins in omega arith;
        } in
        let common : LoadedSequence v i found w = record { same = record { parts = refl; start = refl; earlier = refl }; free = free; more = more; seen = refl; own = refl; shown = refl; rises = known_below k.start k.lists words v kn i; at = refl; first = refl; pair = pair } in
        (w, loads words (set views id w) (3 * i) kept, ((λ j e. subst (λ (n : ℕ). LoadedSequence v n found w) (omega arith) common), refl))

pub loads_code : (slots id : ℕ) (me : Me (Unit {0}) View) (i : ℕ) → 0 < me.0.parts → me.0.holds ≡ false → me.0.at ≡ i
    → Allows {S = Unit {0}} {V = View} Ruled slots id me (3 * i + 1) (λ n. n) (loaded_code (step slots (3 * i + 1) 0 0 none) me)
loads_code slots id me i alive free here = allows slots id me (3 * i + 1) (λ n. n) (loaded_code (step slots (3 * i + 1) 0 0 none) me) (λ words views k at.
    let v = me.0 in
    let kn = k.knows id v at alive in
    let w : View = record v { code = code_word words i } in
    let mine : Knows k.start k.lists words w = record {
      begins = kn.begins;
      sizes = kn.sizes;
      seen = kn.seen;
      some = kn.some;
      common = kn.common;
      own = kn.own;
      shown = kn.shown;
      earlier = kn.earlier;
      place = kn.place;
      low = kn.low;
      read = λ even is. (ap (code_word words) here, (kn.read even is).1);
      held = λ holds. absurd (true≢false (sym holds ∙ free));
    } in
    (w, loads words (set views id w) (3 * i + 1) (quiet words views id v w k at alive refl free free refl mine), (refl, refl)))

pub loads_entry : (slots id : ℕ) (me : Me (Unit {0}) View) (i : ℕ) → 0 < me.0.parts → me.0.holds ≡ false → me.0.at ≡ i
    → Allows {S = Unit {0}} {V = View} Ruled slots id me (3 * i + 2) (λ n. n) (loaded_entry (step slots (3 * i + 2) 0 0 none) me)
loads_entry slots id me i alive free here = allows slots id me (3 * i + 2) (λ n. n) (loaded_entry (step slots (3 * i + 2) 0 0 none) me) (λ words views k at.
    let v = me.0 in
    let kn = k.knows id v at alive in
    let w : View = record v { entry = entry_word words i } in
    let mine : Knows k.start k.lists words w = record {
      begins = kn.begins;
      sizes = kn.sizes;
      seen = kn.seen;
      some = kn.some;
      common = kn.common;
      own = kn.own;
      shown = kn.shown;
      earlier = kn.earlier;
      place = kn.place;
      low = kn.low;
      read = λ even is. ((kn.read even is).0, ap (entry_word words) here);
      held = λ holds. absurd (true≢false (sym holds ∙ free));
    } in
    (w, loads words (set views id w) (3 * i + 2) (quiet words views id v w k at alive refl free free refl mine), (refl, refl)))
