-- A claim, made or missed, keeps the rule.
use Rattle.std.proofs.Common.{◌≡◌, ◌≢◌, ℕ, ◌+◌, ◌*◌, ◌%◌, ◌<◌, ◌==◌, Bool, true, false, List, [], ◌∷◌, length, get_or, set, refl, sym, ap, ◌∙◌, subst, arith, length-set}
use Rattle.std.proofs.lemmas.Bool.Decides.{nat_tests}
use mathlib.Core.Option.{none, some}
use lib.ListN.{get_elem?}
use prog.Atomic.{either}
use Rattle.atomic_table.specs.Table.{Allows, Me, step}
use Rattle.code_steps.specs.declared.view.View.{View}
use Rattle.code_steps.specs.Lists.{total, list_at, grown_at}
use Rattle.code_steps.specs.Rule.{sequence_word, code_word, entry_word, holds_at, Shows, Knows, Kept, Ruled}
use Rattle.code_steps.specs.Steps.{Claimed, claimed}
use Rattle.code_steps.proofs.Totals.{among}
use Rattle.code_steps.proofs.Prefixes.{starts_self, grown_long}
use Rattle.code_steps.proofs.Frame.{Changes, risen, shown_stays}
use Rattle.code_steps.proofs.Words.{sequence_here, sequence_code, sequence_entry, sequence_else}
use Rattle.code_steps.proofs.Steps.{allows, loads, quiet, none_there, steps, holders_now, holds_here, holds_free, holds_else}
use Rattle.code_steps.proofs.LoadKeeps.{shown_more, known_below}

-- the view of a seat that made its claim, and of one that missed it
abbrev holder : View → ℕ → ℕ → List ℕ → View
holder v i old words = record v { shown = grown_at v.shown i (old ∷ []); at = i; first = old + 1; code = code_word words i; entry = entry_word words i; holds = true }

abbrev missed : View → ℕ → ℕ → View
missed v i found = record v { shown = grown_at v.shown i (found ∷ []) }

module _ (words : List ℕ) (views : List View) (id : ℕ) (v : View) (i old : ℕ) (k : Kept words views) (at : get_elem? views id ≡ some v) (alive : 0 < v.parts) (free : v.holds ≡ false) (low_seen : i < length v.seen) (here : v.at ≡ i) (even : old % 2 ≡ 0) (found : sequence_word words i ≡ old) where
  kn : Knows k.start k.lists words v
  kn = k.knows id v at alive

  low : i < length k.lists
  low = let a = (k.knows id v at alive).sizes.0 in omega arith

  room : 3 * i < length words
  room = let a = (k.knows id v at alive).sizes.0 in let b = k.size in omega arith

  change : Changes k.lists k.lists words (set words (3 * i) (old + 1)) i
  change = record {
    count = refl;
    grows = λ j. starts_self (list_at k.lists j);
    elsewhere = sequence_else words i (old + 1);
    up = let a = sequence_here words i (old + 1) room in omega arith;
    still = λ same _. let a = sequence_here words i (old + 1) room in absurd (omega arith);
  }

  mine : Knows k.start k.lists (set words (3 * i) (old + 1)) (holder v i old words)
  mine = record {
    begins = kn.begins;
    sizes = (kn.sizes.0, grown_long v.shown i (old ∷ []) ∙ kn.sizes.1);
    seen = kn.seen;
    some = kn.some;
    common = kn.common;
    own = kn.own;
    shown = shown_more (set words (3 * i) (old + 1)) v.shown i old (let a = kn.sizes.0 in let b = kn.sizes.1 in omega arith) (let a = sequence_here words i (old + 1) room in omega arith)
        (shown_stays words (set words (3 * i) (old + 1)) v.shown (risen k.lists k.lists words (set words (3 * i) (old + 1)) i change) kn.shown);
    earlier = (kn.earlier.0, shown_stays words (set words (3 * i) (old + 1)) v.earlier (risen k.lists k.lists words (set words (3 * i) (old + 1)) i change) kn.earlier.1);
    place = low;
    low = let a = sequence_here words i (old + 1) room in omega arith;
    read = λ odd _. absurd (omega arith);
    held = λ _. (sequence_here words i (old + 1) room, omega arith, (sequence_code words i (old + 1), sequence_entry words i (old + 1)));
  }

  shows : Shows k.start (list_at k.lists i) (set words (3 * i) (old + 1)) i (total (holds_at i) (set views id (holder v i old words)))
  shows =
      let s = k.shows i low in
      let nobody = none_there words (set words (3 * i) (old + 1)) views id v (holder v i old words) k.lists i k at (ap (λ (n : ℕ). n % 2) found ∙ even) low in
      let a = holders_now words (set words (3 * i) (old + 1)) views id v (holder v i old words) k.lists i k at i in
      let b = holds_free v i free in
      let c = holds_here (holder v i old words) i refl refl in
      let one : total (holds_at i) (set views id (holder v i old words)) ≡ 1 = omega arith in record {
        last = s.last;
        seq = s.seq;
        ends = s.ends;
        word = let d = s.word in let e = sequence_here words i (old + 1) room in omega arith;
        one = omega arith;
        pair = λ z. absurd (omega arith);
      }

  pub kept_claim : Kept (set words (3 * i) (old + 1)) (set views id (holder v i old words))
  kept_claim = steps words (set words (3 * i) (old + 1)) views id v (holder v i old words) k.lists i k at alive change (length-set words (3 * i) (old + 1)) refl
      (λ j ne. holds_else (holder v i old words) j (λ e. ne (sym e)) ∙ sym (holds_free v j free))
      (λ _. shows)
      (λ j ne. refl)
      (λ h. refl)
      (λ j u ne there held same.
      let nobody = none_there words (set words (3 * i) (old + 1)) views id v (holder v i old words) k.lists i k at (ap (λ (n : ℕ). n % 2) found ∙ even) low in
      let a = among (holds_at i) views j u there in
      let b = holds_here u i held same in
      absurd (omega arith))
      mine

pub claims : (slots id : ℕ) (me : Me (Unit {0}) View) (i old : ℕ) → 0 < me.0.parts → me.0.holds ≡ false → i < length me.0.seen → me.0.at ≡ i → old % 2 ≡ 0
    → Allows {S = Unit {0}} {V = View} Ruled slots id me (3 * i) (λ n. either (n == old) (old + 1) n) (claimed (step slots (3 * i) old (old + 1) none) me)
claims slots id me i old alive free low here even = allows slots id me (3 * i) (λ n. either (n == old) (old + 1) n) (claimed (step slots (3 * i) old (old + 1) none) me) (λ words views k at. go words views k at (get_or words (3 * i) 0 == old) refl)
  where
    go : (words : List ℕ) (views : List View) → Kept words views → get_elem? views id ≡ some me.0 → (b : Bool) → (get_or words (3 * i) 0 == old) ≡ b
        → (w : View) × Kept (set words (3 * i) (either b (old + 1) (get_or words (3 * i) 0))) (set views id w) × (((j : ℕ) → 3 * i ≡ 3 * j → Claimed me.0 j old (get_or words (3 * i) 0) w) × (me.1 ≡ me.1))
    go words views k at true e =
        let v = me.0 in
        let found : sequence_word words i ≡ old = grind (arith, nat_tests) in
        let w : View = holder v i old words in
        let common : Claimed v i old (sequence_word words i) w = record { same = record { parts = refl; start = refl; earlier = refl }; seen = refl; own = refl; shown = ap (λ (n : ℕ). grown_at v.shown i (n ∷ [])) (sym found); rises = known_below k.start k.lists words v (k.knows id v at alive) i; at = sym here; holds = sym e; first = λ _. refl } in
        (w, kept_claim words views id v i old k at alive free low here even found, ((λ j same. subst (λ (n : ℕ). Claimed v n old (sequence_word words i) w) (omega arith) common), refl))
    go words views k at false e =
        let v = me.0 in
        let found : ℕ = sequence_word words i in
        let other : found ≢ old = grind (arith, nat_tests) in
        let kn = k.knows id v at alive in
        let w : View = missed v i found in
        let mine : Knows k.start k.lists words w = record {
          begins = kn.begins;
          sizes = (kn.sizes.0, grown_long v.shown i (found ∷ []) ∙ kn.sizes.1);
          seen = kn.seen;
          some = kn.some;
          common = kn.common;
          own = kn.own;
          shown = shown_more words v.shown i found (let a = kn.sizes.0 in let b = kn.sizes.1 in omega arith) (omega arith) kn.shown;
          earlier = kn.earlier;
          place = kn.place;
          low = kn.low;
          read = kn.read;
          held = kn.held;
        } in
        let common : Claimed v i old found w = record { same = record { parts = refl; start = refl; earlier = refl }; seen = refl; own = refl; shown = refl; rises = known_below k.start k.lists words v kn i; at = refl; holds = free ∙ sym e; first = λ is. absurd (other is) } in
        (w, loads words (set views id w) (3 * i) (quiet words views id v w k at alive refl free free refl mine), ((λ j same. subst (λ (n : ℕ). Claimed v n old found w) (omega arith) common), refl))
