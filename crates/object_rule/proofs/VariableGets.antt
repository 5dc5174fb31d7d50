-- A load of a reference or a global into a variable keeps the rule, where the view lists the 128 variables, as that of each session
-- does: in a shorter list there is no place that the word could come into.
use Rattle.std.proofs.Common.{◌≡◌, ℕ, suc, ◌+◌, ◌*◌, ◌<◌, ◌≤◌, List, [], ◌∷◌, ◌++◌, Option, Some, None, get_or, set, length, slice_set, get_or-set_same, refl, sym, ap, subst, ◌∙◌, arith}
use Rattle.std.specs.Option.{option_map_or}
use mathlib.Core.Option.{some}
use lib.ListN.{get_elem?}
use Rattle.atomic_table.specs.Table.{Me}
use Rattle.plain_table.specs.declared.events.Act.TheVariants as act
use Rattle.plain_table.specs.declared.events.Event.{Event}
use Rattle.plain_table.specs.declared.events.Spot.{Spot}
use Rattle.plain_table.specs.declared.events.Spot.TheVariants.{Global, Ref}
use Rattle.plain_table.specs.declared.reports.Reply.TheVariants as reply
use Rattle.plain_table.specs.History.{after}
use Rattle.plain_table.specs.Rows.{IsSpotOf, at_spot}
use Rattle.plain_table.specs.Table.{Table, Sizes}
use Rattle.plain_table.specs.Words.{object_word, reference_place, global_place}
use Rattle.word_laws.specs.WordLaws.{spot_place}
use Rattle.entry_base.specs.declared.view.Opening.{Opening}
use Rattle.entry_base.specs.declared.view.View.{View}
use Rattle.entry_base.specs.Callers.{IsCaller, event_of}
use Rattle.entry_base.specs.Openings.{sizes_in}
use Rattle.entry_base.specs.Owns.{IsHeld}
use Rattle.entry_base.specs.Rule.{Kept}
use Rattle.entry_base.proofs.QuietSteps.{kept_event}
use Rattle.entry_base.proofs.Steps.{Given, Keeps, given, keeps_by, loads}
use Rattle.object_rule.specs.Objects.{Got, got_reply}
use Rattle.object_rule.proofs.Held.{object_held, object_made, object_word-low, owns_variable}

reply_of : (x : Option ℕ) → got_reply (object_word x) ≡ option_map_or reply.Obj x reply.Nothing
reply_of None = refl
reply_of (Some q) = ap got_reply (let one_more : q + 1 ≡ suc q = omega arith in one_more)

-- what stands at a spot of a sound table, and its word
record SpotShown (s : Table) (b : ℕ) (spot : Spot) (word : ℕ) : Type 0 where
  mine : IsSpotOf s b spot
  read : word ≡ object_word (at_spot s spot)
  made : (q : ℕ) → at_spot s spot ≡ Some q → q < s.count

module _ (key : Opening) (words : List ℕ) (views : List View) (id : ℕ) (v : View) (k : Kept key words views) (at : get_elem? views id ≡ some v)
    (into : ℕ) (spot : Spot) (caller : IsCaller key v) (mutator : v.number < 8) (many : length v.vars ≡ 128) (few : into < 16)
    (shown : (s : Table) → Given key k.log k.shown words v s → SpotShown s v.number spot (get_or words (spot_place spot) 0)) where
  abbrev found : ℕ
  found = get_or words (spot_place spot) 0

  abbrev e : Event
  e = event_of v (act.Get into spot) (got_reply found)

  abbrev getter : View
  getter = record v { seen = k.log ++ e ∷ []; vars = slice_set v.vars (16 * v.number + into) found }

  low : found ≤ (sizes_in v.opening).objects
  low =
      let s = after k.base k.log in
      let g = given key words views id v k at k.base k.is_base in
      let is = shown s g in
      let most = object_word-low s (sizes_in key) (at_spot s spot) g.sizes g.sound is.made in
      subst (λ o. found ≤ (sizes_in o).objects) (sym caller.opened) (subst (λ n. n ≤ (sizes_in key).objects) (sym is.read) most)

  kept_get : Kept key words (set views id getter) × Got v into spot found getter
  kept_get =
      let done = kept_event key words views id v k at [] e getter refl caller.own tt tt (λ p. refl) refl refl refl refl refl (λ s g.
      let is = shown s g in (
        ((mutator, few, is.mine), ap got_reply is.read ∙ reply_of (at_spot s spot)),
        owns_variable s v into few (at_spot s spot) s.count s.cycle found (k.log ++ e ∷ [])
            (get_or-set_same v.vars (16 * v.number + into) found 0 (omega (arith, many, mutator, few)) ∙ is.read) g.owns,
        tt,
      )) in (
        done.0,
        record {
          variable = record { same = record { opening = refl; number = refl; numbers = refl; cut = refl; knows = λ f has. has }; rest = (refl, refl, refl, refl); vars = refl };
          extends = done.1 caller.opened;
          low = low;
        },
      )

reference_shown : (key : Opening) (words : List ℕ) (views : List View) (v : View) (o n : ℕ) (k : Kept key words views) → IsCaller key v → v.number < 8 → IsHeld v o → n < 4
    → (s : Table) → Given key k.log k.shown words v s → SpotShown s v.number (Ref o n) (get_or words (reference_place o n) 0)
reference_shown key words views v o n k caller mutator held small s g =
    let made = object_made s v g.owns caller.own mutator g.sound o held in
    let low : o < (sizes_in key).objects = subst (λ (z : Sizes). o < z.objects) g.sizes made in
    record {
      mine = (object_held s v g.owns caller.own mutator o held, small);
      read = k.near.low (reference_place o n) (omega (arith, low, small)) ∙ g.shows.references o n made small;
      made = λ q is. (g.sound.objects.references o n q is).2;
    }

global_shown : (key : Opening) (words : List ℕ) (views : List View) (v : View) (n : ℕ) (k : Kept key words views) → n < 16
    → (s : Table) → Given key k.log k.shown words v s → SpotShown s v.number (Global n) (get_or words (global_place n) 0)
global_shown key words views v n k small s g = record {
  mine = small;
  read = k.near.low (global_place n) (omega (arith, small)) ∙ g.shows.globals n small;
  made = λ q is. (g.sound.objects.roots n q is).1;
}

pub gets_reference : (key : Opening) (slots id : ℕ) (me : Me (Unit {0}) View) (into o k : ℕ) → IsCaller key me.0 → me.0.number < 8 → length me.0.vars ≡ 128 → into < 16 → IsHeld me.0 o → k < 4 → Keeps key slots id me (reference_place o k) (λ n. n) (λ found w. Got me.0 into (Ref o k) found w)
gets_reference key slots id me into o n caller mutator many few held small =
    keeps_by key slots id me (reference_place o n) (λ n. n) (λ found w. Got me.0 into (Ref o n) found w) (λ words views k at.
    let shown = reference_shown key words views me.0 o n k caller mutator held small in
    let done = kept_get key words views id me.0 k at into (Ref o n) caller mutator many few shown in
    (getter key words views id me.0 k at into (Ref o n) caller mutator many few shown, loads key words _ (reference_place o n) done.0, done.1))

pub gets_global : (key : Opening) (slots id : ℕ) (me : Me (Unit {0}) View) (into g : ℕ) → IsCaller key me.0 → me.0.number < 8 → length me.0.vars ≡ 128 → into < 16 → g < 16 → Keeps key slots id me (global_place g) (λ n. n) (λ found w. Got me.0 into (Global g) found w)
gets_global key slots id me into g caller mutator many few small =
    keeps_by key slots id me (global_place g) (λ n. n) (λ found w. Got me.0 into (Global g) found w) (λ words views k at.
    let shown = global_shown key words views me.0 g k small in
    let done = kept_get key words views id me.0 k at into (Global g) caller mutator many few shown in
    (getter key words views id me.0 k at into (Global g) caller mutator many few shown, loads key words _ (global_place g) done.0, done.1))
