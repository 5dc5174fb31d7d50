-- A swap of a number by the claimer keeps the rule.
use Rattle.std.proofs.Common.{◌≡◌, ◌≢◌, ℕ, ◌+◌, ◌*◌, ◌%◌, ◌<◌, true, List, length, set, refl, sym, ap, ◌∙◌, arith, length-set}
use mathlib.Core.Option.{none, some}
use lib.ListN.{get_elem?}
use Rattle.atomic_table.specs.Table.{Allows, Me, step}
use Rattle.code_steps.specs.declared.view.View.{View}
use Rattle.code_steps.specs.Lists.{total, list_at}
use Rattle.code_steps.specs.Rule.{sequence_word, code_word, entry_word, holds_at, HasNumbers, Shows, Knows, Kept, Ruled}
use Rattle.code_steps.specs.Steps.{stored_code, stored_entry}
use Rattle.code_steps.proofs.Totals.{among}
use Rattle.code_steps.proofs.Prefixes.{starts_self}
use Rattle.code_steps.proofs.Frame.{SameWords, Changes, risen, shown_stays}
use Rattle.code_steps.proofs.Words.{code_here, code_sequence, code_entry, code_else, entry_here, entry_sequence, entry_code, entry_else}
use Rattle.code_steps.proofs.Steps.{allows, steps, holders_now, holds_here, alone_there}

-- a number of entry i was set, and no sequence: the view of the seat that holds it has the numbers that the words now hold
module _ (words now : List ℕ) (views : List View) (id : ℕ) (v : View) (i code entry : ℕ) (k : Kept words views) (at : get_elem? views id ≡ some v) (alive : 0 < v.parts) (holds : v.holds ≡ true) (here : v.at ≡ i) (size : length now ≡ length words) (sequences : (j : ℕ) → sequence_word now j ≡ sequence_word words j) (elsewhere : (j : ℕ) → j ≢ i → SameWords words now j) (numbers : HasNumbers now record v { code = code; entry = entry }) where
  kn : Knows k.start k.lists words v
  kn = k.knows id v at alive

  held : (sequence_word words v.at ≡ v.first) × (v.first % 2 ≡ 1) × HasNumbers words v
  held = (k.knows id v at alive).held holds

  odd : sequence_word words i % 2 ≡ 1
  odd = ap (λ (n : ℕ). n % 2) (ap (sequence_word words) (sym here) ∙ held.0) ∙ held.1

  low : i < length k.lists
  low = let a = (k.knows id v at alive).place in omega arith

  change : Changes k.lists k.lists words now i
  change = record { count = refl; grows = λ j. starts_self (list_at k.lists j); elsewhere = elsewhere; up = let a = sequences i in omega arith; still = λ _ even. let a = odd in absurd (omega arith) }

  mine : Knows k.start k.lists now record v { code = code; entry = entry }
  mine = record {
    begins = kn.begins;
    sizes = kn.sizes;
    seen = kn.seen;
    some = kn.some;
    common = kn.common;
    own = kn.own;
    shown = shown_stays words now v.shown (risen k.lists k.lists words now i change) kn.shown;
    earlier = (kn.earlier.0, shown_stays words now v.earlier (risen k.lists k.lists words now i change) kn.earlier.1);
    place = kn.place;
    low = let a = sequences v.at in let b = kn.low in omega arith;
    read = λ even is. numbers;
    held = λ _. (sequences v.at ∙ held.0, held.1, numbers);
  }

  shows : Shows k.start (list_at k.lists i) now i (total (holds_at i) (set views id record v { code = code; entry = entry }))
  shows =
      let s = k.shows i low in
      let a = holders_now words now views id v (record v { code = code; entry = entry }) k.lists i k at i in
      let b = holds_here v i holds here in
      let c : holds_at i record v { code = code; entry = entry } ≡ 1 = b in
      let d = among (holds_at i) views id v at in record {
        last = s.last;
        seq = s.seq;
        ends = s.ends;
        word = let e = s.word in let f = sequences i in omega arith;
        one = let e = s.one in omega arith;
        pair = λ z. absurd (omega arith);
      }

  pub kept_number : Kept now (set views id record v { code = code; entry = entry })
  kept_number = steps words now views id v (record v { code = code; entry = entry }) k.lists i k at alive change size refl
      (λ j ne. refl)
      (λ _. shows)
      (λ j ne. refl)
      (λ h. refl)
      (alone_there words now views id v (record v { code = code; entry = entry }) k.lists i k at (holds_here v i holds here) low)
      mine

room : (words : List ℕ) (views : List View) (id : ℕ) (v : View) (i : ℕ) (k : Kept words views) → get_elem? views id ≡ some v → 0 < v.parts → v.at ≡ i → 3 * i + 2 < length words
room words views id v i k at alive here = let a = (k.knows id v at alive).place in let b = k.size in omega arith

pub stores_code : (slots id : ℕ) (me : Me (Unit {0}) View) (i x : ℕ) → 0 < me.0.parts → me.0.holds ≡ true → me.0.at ≡ i
    → Allows {S = Unit {0}} {V = View} Ruled slots id me (3 * i + 1) (λ _. x) (stored_code (step slots (3 * i + 1) x 0 none) me)
stores_code slots id me i x alive holds here = allows slots id me (3 * i + 1) (λ _. x) (stored_code (step slots (3 * i + 1) x 0 none) me) (λ words views k at.
    let v = me.0 in
    let long = room words views id v i k at alive here in
    let h = (k.knows id v at alive).held holds in
    let kept = kept_number words (set words (3 * i + 1) x) views id v i x v.entry k at alive holds here (length-set words (3 * i + 1) x) (code_sequence words i x) (code_else words i x)
    (ap (code_word (set words (3 * i + 1) x)) here ∙ code_here words i x (omega arith), code_entry words i x v.at ∙ h.2.1) in
    (record v { code = x }, kept, (refl, refl)))

pub stores_entry : (slots id : ℕ) (me : Me (Unit {0}) View) (i x : ℕ) → 0 < me.0.parts → me.0.holds ≡ true → me.0.at ≡ i
    → Allows {S = Unit {0}} {V = View} Ruled slots id me (3 * i + 2) (λ _. x) (stored_entry (step slots (3 * i + 2) x 0 none) me)
stores_entry slots id me i x alive holds here = allows slots id me (3 * i + 2) (λ _. x) (stored_entry (step slots (3 * i + 2) x 0 none) me) (λ words views k at.
    let v = me.0 in
    let long = room words views id v i k at alive here in
    let h = (k.knows id v at alive).held holds in
    let kept = kept_number words (set words (3 * i + 2) x) views id v i v.code x k at alive holds here (length-set words (3 * i + 2) x) (entry_sequence words i x) (entry_else words i x)
    (entry_code words i x v.at ∙ h.2.0, ap (entry_word (set words (3 * i + 2) x)) here ∙ entry_here words i x (omega arith)) in
    (record v { entry = x }, kept, (refl, refl)))
