-- Shading an object in a cycle keeps the rule, with no event: a white one comes into the hands of its shader. It is old or born,
-- since the shader knows it as traced, or a variable of the shader holds it.
use Rattle.std.proofs.Common.{◌≡◌, ◌≢◌, ℕ, ◌+◌, ◌*◌, ◌/◌, ◌%◌, ◌<◌, ◌==◌, nat_le, if◌then◌else◌, Bool, true, false, List, [], ◌∷◌, length, slice_index, get_or, set, bit_or, Option, Some, None, IsTrue, refl, sym, ap, subst, ◌∙◌, inl, inr, arith}
use Rattle.std.specs.Prelude.{◌⊎◌, ◌||◌}
use mathlib.Core.Option.{some}
use lib.ListN.{get_elem?}
use Rattle.atomic_table.specs.Table.{Me}
use Rattle.plain_table.specs.Cycle.{Cycle, IsOld}
use Rattle.plain_table.specs.History.{after}
use Rattle.plain_table.specs.Shows.{Shows, is_black, IsCovered}
use Rattle.plain_table.specs.Sound.{IsSound}
use Rattle.plain_table.specs.Table.{Table, Sizes}
use Rattle.plain_table.specs.Words.{header_place, header_word, object_word, phase_word, words_in_all}
use Rattle.plain_table.proofs.CycleParts.{CycleSound-is}
use Rattle.plain_table.proofs.Options.{IsSomeAnd-by, IsSomeAnd-is, IsSomeAnd-some}
use Rattle.word_laws.proofs.CoveredWords.{header_word-half, header_word-odd, ShadedWordsStayCovered-step}
use Rattle.word_laws.proofs.CoverSteps.{IsStep-same}
use Rattle.word_laws.proofs.HeaderWords.{ShadedWordsStay-header}
use Rattle.word_laws.proofs.NearWords.{IsNear-set}
use Rattle.entry_base.specs.declared.view.Fact.TheVariants as fact
use Rattle.entry_base.specs.declared.view.Opening.{Opening}
use Rattle.entry_base.specs.declared.view.View.{View}
use Rattle.entry_base.specs.Callers.{AreVariables, ArePublishable, AreWithin, IsCaller}
use Rattle.entry_base.specs.Facts.{TableKnows}
use Rattle.entry_base.specs.Lists.{Has, count_in}
use Rattle.entry_base.specs.Numbers.{HasNumber}
use Rattle.entry_base.specs.Openings.{phase_of, sizes_in}
use Rattle.entry_base.specs.Owns.{IsHeld}
use Rattle.entry_base.specs.Rule.{Kept}
use Rattle.entry_base.proofs.Classes.{header_steady, linked_low}
use Rattle.entry_base.proofs.Greys.{header_here, shaded_word}
use Rattle.entry_base.proofs.OneByOne.{caller_stays, held_within_limit}
use Rattle.entry_base.proofs.Steps.{Given, Keeps, Leaves, given, keeps_by, sees}
use Rattle.entry_base.proofs.Sums.{count_self, each_has}
use Rattle.mark_rule.specs.Marking.{IsSeen, Shaded}
use Rattle.mark_rule.proofs.Headers.{HeaderTells, IfSome-by, hands_once, count_past, grey_of, hands_changed, header_tells}

-- the hands after a shading, by the word that was found
abbrev taken_up : ℕ → ℕ → List ℕ → List ℕ
taken_up o found objects = if found % 2 == 0 then o ∷ objects else objects

up_here : (o : ℕ) (objects : List ℕ) (shaded black : Bool) → (IsTrue black → IsTrue shaded) →
    count_in o (taken_up o (header_word shaded black) objects) + grey_of (header_word shaded black) ≡ count_in o objects + grey_of (bit_or (header_word shaded black) 1)
up_here o objects true true is = omega arith
up_here o objects true false is = omega arith
up_here o objects false true is = absurd (let wrong : IsTrue false = is refl in cc)
up_here o objects false false is = let a = count_self o objects in omega arith

up_there : (m o found : ℕ) (objects : List ℕ) → m ≢ o → count_in m (taken_up o found objects) ≡ count_in m objects
up_there m o found objects ne = go (found % 2 == 0)
  where
    go : (b : Bool) → count_in m (if b then o ∷ objects else objects) ≡ count_in m objects
    go true = count_past m o objects ne
    go false = refl

-- a traced object that is not black is old, since one that was born is black
black_or_old : (s : Table) (c : Cycle) (o : ℕ) → IsOld c o ⊎ IsTrue (c.born o) → IsTrue (is_black s c o) ⊎ IsOld c o
black_or_old s c o (inl old) = inr old
black_or_old s c o (inr born) = inl (go (c.scans o) (c.born o) (nat_le s.count o) born)
  where
    go : (scanned new later : Bool) → IsTrue new → IsTrue (scanned || new || later)
    go true new later is = refl
    go false true later is = refl
    go false false later is = absurd (cc)

module _ (key : Opening) (words : List ℕ) (views : List View) (id : ℕ) (v : View) (o : ℕ) (k : Kept key words views) (at : get_elem? views id ≡ some v)
    (made : o < (sizes_in key).objects) (traced : (s : Table) → Given key k.log k.shown words v s → TableKnows s (fact.Traced o)) where
  abbrev z : Sizes
  z = sizes_in key

  abbrev place : ℕ
  place = header_place o

  abbrev found : ℕ
  found = get_or words place 0

  abbrev written : ℕ
  written = bit_or found 1

  abbrev shader : View
  shader = record v { seen = k.log; hands = taken_up o found v.hands; facts = fact.Shaded o ∷ v.facts }

  abbrev later : List ℕ
  later = set k.shown place written

  same_found : found ≡ get_or k.shown place 0
  same_found = k.near.low place (omega (arith, made))

  whole : length k.shown ≡ words_in_all z
  whole = let g = given key words views id v k at k.base k.is_base in g.shows.whole ∙ ap words_in_all g.sizes

  room : place < length k.shown
  room = omega (arith, made, whole)

  module _ (s : Table) (g : Given key k.log k.shown words v s) where
    low : o < s.sizes.objects
    low = subst (λ (x : Sizes). o < x.objects) (sym g.sizes) made

    tells : HeaderTells k.shown s o
    tells = header_tells k.shown s o g.shows low (IsSomeAnd-some s.cycle _ (traced s g))

    abbrev black : Bool
    black = is_black s tells.cycle o

    found_word : found ≡ header_word tells.shaded black
    found_word = same_found ∙ tells.word

    written_word : written ≡ header_word true black
    written_word = ap (λ n. bit_or n 1) found_word ∙ shaded_word tells.shaded black

    odd : written % 2 ≡ 1
    odd = ap (λ x. x % 2) written_word ∙ header_word-odd black

    up : count_in o (taken_up o found v.hands) + grey_of (get_or k.shown place 0) ≡ count_in o v.hands + grey_of written
    up =
        subst (λ n. count_in o (taken_up o found v.hands) + grey_of n ≡ count_in o v.hands + grey_of written) same_found
        (subst (λ n. count_in o (taken_up o n v.hands) + grey_of n ≡ count_in o v.hands + grey_of (bit_or n 1)) (sym found_word)
        (up_here o v.hands tells.shaded black tells.black))

    left : Leaves z k.log k.shown later (set words place written) shader (fact.Shaded o ∷ []) s
    left = record {
      shows = subst (λ n. Shows (set k.shown place n) s) (sym written_word) (ShadedWordsStay-header k.shown s tells.cycle o g.shows tells.under_way low);
      covered = subst (λ n. IsCovered (set k.shown place n) s) (sym written_word)
          (ShadedWordsStayCovered-step k.shown s s o black (IsStep-same s g.sound) (λ m n. refl) room
          (IfSome-by s.cycle tells.cycle (λ c. IsTrue black ⊎ IsOld c o) tells.under_way (black_or_old s tells.cycle o (IsSomeAnd-is s.cycle _ tells.cycle tells.under_way (traced s g))))
          (λ is. ap (λ x. x / 2 % 2) tells.word ∙ header_word-half tells.shaded black ∙ ap (λ (b : Bool). if b then 1 else 0) is) g.covered);
      steady = header_steady z k.log k.log s s k.shown o written made whole odd (λ m n. refl) (λ p. refl);
      owns = record { variables = g.owns.variables; pending = g.owns.pending; owed = g.owns.owed; fresh = g.owns.fresh };
      tells = ((tt, (made, ap (λ x. x % 2) (header_here k.shown o written room) ∙ odd)), tt);
    }

  kept_shade : HasNumber v v.number → v.opening ≡ key → Kept key (set words place written) (set views id shader) × Shaded v o found shader
  kept_shade own opened =
      let hands = hands_changed z k.shown v.hands shader.hands o written made room (up (after k.base k.log) (given key words views id v k at k.base k.is_base)) (λ m ne. up_there m o found v.hands ne) in
      let done = sees key words (set words place written) views id v shader k at later (fact.Shaded o ∷ []) refl refl refl
      (IsNear-set z words k.shown place written k.near) (linked_low z words place written (omega (arith, made))) hands (inl own) refl left in (
        done.0,
        record {
          same = record { opening = refl; number = refl; numbers = refl; cut = refl; knows = λ f has. inr has };
          own = record { vars = refl; pending = refl; owed = refl; fresh = refl };
          looks = done.1 opened;
          hands = refl;
          once = hands_once z done.0.shown views id v shader at done.0.hands;
          knows = inl refl;
        },
      )

-- an object that is known as old or born
shades_traced : (key : Opening) (slots id : ℕ) (me : Me (Unit {0}) View) (o : ℕ) → IsCaller key me.0 → o < (sizes_in me.0.opening).objects → Has me.0.facts (fact.Traced o) → Keeps key slots id me (header_place o) (λ n. bit_or n 1) (λ found w. Shaded me.0 o found w)
shades_traced key slots id me o caller made traced = keeps_by key slots id me (header_place o) (λ n. bit_or n 1) (λ found w. Shaded me.0 o found w) (λ words views k at.
    let low : o < (sizes_in key).objects = subst (λ x. o < (sizes_in x).objects) caller.opened made in
    let known = (λ (s : Table) (g : Given key k.log k.shown words me.0 s). (each_has _ me.0.facts (fact.Traced o) g.known traced).0) in
    let done = kept_shade key words views id me.0 o k at low known caller.own caller.opened in
    (shader key words views id me.0 o k at low known, done.0, done.1))

-- its object is within the limit, so the shader still calls
pub shaded_calls : (key : Opening) (v : View) (o found : ℕ) (w : View) → IsCaller key v → Shaded v o found w → o < (sizes_in key).objects → IsCaller key w
shaded_calls key v o found w caller shaded made =
    caller_stays key v w caller shaded.same shaded.looks.lawful (subst (AreVariables key) (sym shaded.own.vars) caller.variables) (subst (ArePublishable key) (sym shaded.own.pending) caller.pending)
    (subst (AreWithin key) (sym shaded.hands) (go (found % 2 == 0)))
  where
    go : (b : Bool) → AreWithin key (if b then o ∷ v.hands else v.hands)
    go true = (made, caller.hands)
    go false = caller.hands

-- and one that a variable of the caller holds, in a cycle
shades_held : (key : Opening) (slots id : ℕ) (me : Me (Unit {0}) View) (o : ℕ) → IsCaller key me.0 → me.0.number < 8 → IsHeld me.0 o → phase_of me.0.opening ≡ 1 → Keeps key slots id me (header_place o) (λ n. bit_or n 1) (λ found w. Shaded me.0 o found w)
shades_held key slots id me o caller mutator held in_cycle = keeps_by key slots id me (header_place o) (λ n. bit_or n 1) (λ found w. Shaded me.0 o found w) (λ words views k at.
    let made = held_within_limit key me.0 held.0 o caller held.1 in
    let known = (λ (s : Table) (g : Given key k.log k.shown words me.0 s).
    by_cycle s (g.owns.variables me.0.number held.0 caller.own mutator held.1.0) g.sound s.cycle refl (g.phase ∙ (ap phase_of (sym caller.opened) ∙ in_cycle))) in
    let done = kept_shade key words views id me.0 o k at made known caller.own caller.opened in
    (shader key words views id me.0 o k at made known, done.0, done.1))
  where
    word_object : (x : Option ℕ) → o + 1 ≡ object_word x → x ≡ Some o
    word_object None e = absurd (omega (arith, e))
    word_object (Some m) e = ap Some (omega (arith, e))

    by_cycle : (s : Table) → slice_index me.0.vars (16 * me.0.number + held.0) ≡ object_word (s.vars me.0.number held.0) → IsSound s → (x : Option Cycle) → s.cycle ≡ x → phase_word s.cycle ≡ 1
        → TableKnows s (fact.Traced o)
    by_cycle s word sound None is phase = absurd (let t : 0 ≡ 1 = ap phase_word (sym is) ∙ phase in omega (arith, t))
    by_cycle s word sound (Some c) is phase =
        IsSomeAnd-by s.cycle c _ is ((CycleSound-is s c sound is).traced.variables me.0.number held.0 o (word_object (s.vars me.0.number held.0) (sym held.1.1 ∙ word)))

-- one that the caller saw: it is within the limit
pub seen_within_limit : (key : Opening) (v : View) (o : ℕ) → IsCaller key v → IsSeen v o → o < (sizes_in key).objects
seen_within_limit key v o caller (inl h) = held_within_limit key v h.held.0 o caller h.held.1
seen_within_limit key v o caller (inr t) = subst (λ x. o < (sizes_in x).objects) caller.opened t.within

pub shades_seen : (key : Opening) (slots id : ℕ) (me : Me (Unit {0}) View) (o : ℕ) → IsCaller key me.0 → IsSeen me.0 o → Keeps key slots id me (header_place o) (λ n. bit_or n 1) (λ found w. Shaded me.0 o found w)
shades_seen key slots id me o caller (inl h) = shades_held key slots id me o caller h.mutator h.held h.in_cycle
shades_seen key slots id me o caller (inr t) = shades_traced key slots id me o caller t.within t.traced
