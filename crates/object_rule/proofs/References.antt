-- A link of a reference or a global keeps the rule: in a cycle the object that a reference comes to hold is shaded.
use Rattle.std.proofs.Common.{◌≡◌, ◌≢◌, ◌⊎◌, ℕ, ◌+◌, ◌*◌, ◌%◌, ◌<◌, List, [], ◌∷◌, ◌++◌, length, Option, Some, None, IfSome, set, get_or-set_other, refl, sym, ap, subst, ◌∙◌, inl, inr, arith}
use mathlib.Core.Option.{some}
use lib.ListN.{get_elem?}
use Rattle.atomic_table.specs.Table.{Me}
use Rattle.plain_table.specs.declared.events.Act.TheVariants.{Link}
use Rattle.plain_table.specs.declared.events.Event.{Event}
use Rattle.plain_table.specs.declared.events.Space.{Space}
use Rattle.plain_table.specs.declared.events.Spot.{Spot}
use Rattle.plain_table.specs.declared.events.Spot.TheVariants.{Global, Ref}
use Rattle.plain_table.specs.declared.reports.Reply.TheVariants as reply
use Rattle.plain_table.specs.Cycle.{Cycle}
use Rattle.plain_table.specs.History.{next}
use Rattle.plain_table.specs.Rows.{IsFull, IsSpotOf, object_in, with_linked}
use Rattle.plain_table.specs.Shows.{Shows}
use Rattle.plain_table.specs.Table.{Table}
use Rattle.plain_table.specs.Words.{freelist_place, global_place, header_place, object_word, phase_word, reference_place}
use Rattle.plain_table.proofs.Options.{IsSome-some}
use Rattle.plain_table.proofs.PlaceReads.{read_pair}
use Rattle.plain_table.proofs.WordPlaces.{freelist_place-below, header-apart-reference}
use Rattle.word_laws.specs.CoverLaws.{IsClear}
use Rattle.word_laws.specs.WordLaws.{IsWithin, spot_place}
use Rattle.word_laws.proofs.LinkWords.{LinkWordsFollow-row}
use Rattle.entry_base.specs.declared.view.Fact.TheVariants as fact
use Rattle.entry_base.specs.declared.view.Opening.{Opening}
use Rattle.entry_base.specs.declared.view.View.{View}
use Rattle.entry_base.specs.Callers.{IsCaller, event_of}
use Rattle.entry_base.specs.Openings.{phase_of, sizes_in}
use Rattle.entry_base.specs.Owns.{Owns, IsHeld}
use Rattle.entry_base.specs.Rule.{Kept}
use Rattle.entry_base.proofs.Changes.{LowChanges, kept_low}
use Rattle.entry_base.proofs.Classes.{references_same}
use Rattle.entry_base.proofs.OneByOne.{held_within_limit}
use Rattle.entry_base.proofs.Steps.{Given, Keeps, keeps_by}
use Rattle.entry_base.proofs.Sums.{each_has}
use Rattle.object_rule.specs.Objects.{IsTarget, IsClearTarget, LinkedTo}
use Rattle.object_rule.proofs.Held.{object_held, object_made, variable_held, mutator-target}

-- what a link of the spot has to find in a sound table
record CanLink (s : Table) (b : ℕ) (spot : Spot) (x : Option ℕ) (later : List ℕ) : Type 0 where
  mine : IsSpotOf s b spot
  within : IsWithin s spot
  refs : (o k : ℕ) → IfSome (with_linked s spot x).cycle (λ d. ((with_linked s spot x).refs o k ≡ s.refs o k) ⊎ IsClear later ((with_linked s spot x).refs o k))

-- what views own stays
owns_linked : (s : Table) (v : View) (spot : Spot) (x : Option ℕ) (seen : List Event) → Owns s v → Owns (with_linked s spot x) (record v { seen = seen })
owns_linked s v (Global g) x seen owns = record { variables = owns.variables; pending = owns.pending; owed = owns.owed; fresh = owns.fresh }
owns_linked s v (Ref o k) x seen owns = record { variables = owns.variables; pending = owns.pending; owed = owns.owed; fresh = owns.fresh }

module _ (key : Opening) (words : List ℕ) (views : List View) (id : ℕ) (v : View) (k : Kept key words views) (at : get_elem? views id ≡ some v)
    (spot : Spot) (target : Option ℕ) (word : ℕ) (caller : IsCaller key v) (mutator : IfSome target (λ var. v.number < 8)) (aims : IsTarget v target word) where
  abbrev e : Event
  e = event_of v (Link spot target) reply.Ok

  abbrev linker : View
  linker = record v { seen = k.log ++ e ∷ [] }

  target_is : (s : Table) → Given key k.log k.shown words v s → (t : Option ℕ) → IfSome t (λ var. v.number < 8) → IsTarget v t word → (object_word (object_in s v.number t) ≡ word) × IsFull s v.number t
  target_is s g None any aim = (sym aim, tt)
  target_is s g (Some var) low (q, holds, is) =
      let held = variable_held s v g.owns caller.own low var q holds in
      (ap object_word held ∙ sym is, (holds.0, IsSome-some (s.vars v.number var) q held))

  module _ (low : spot_place spot < 32 + 8 * (sizes_in key).objects) (no_header : (o : ℕ) → header_place o ≢ spot_place spot) (no_list : (p : Space) → freelist_place p ≢ spot_place spot)
      (can : (s : Table) → Given key k.log k.shown words v s → CanLink s v.number spot (object_in s v.number target) (set k.shown (spot_place spot) word)) where
    changes : (s : Table) → Given key k.log k.shown words v s → LowChanges (sizes_in key) k.log e k.shown words (spot_place spot) word linker [] s
    changes s g =
        let is = can s g in
        let aim = target_is s g target mutator aims in
        record {
          legal = ((is.mine, aim.1), refl);
          shows = subst (λ x. Shows (set k.shown (spot_place spot) x) (next s e)) aim.0
              (LinkWordsFollow-row k.shown s e spot target is.within g.shows ((is.mine, aim.1), refl) refl);
          refs = is.refs;
          owns = owns_linked s v spot (object_in s v.number target) (k.log ++ e ∷ []) g.owns;
          tells = tt;
        }

    kept_link : (w : View) × Kept key (set words (spot_place spot) word) (set views id w) × LinkedTo v spot target w
    kept_link =
        let done = kept_low key words views id v linker k at [] e refl caller.own tt (λ p. refl) refl refl refl refl refl (spot_place spot) word low no_header no_list changes in (
          linker,
          done.0,
          record {
            same = record { opening = refl; number = refl; numbers = refl; cut = refl; knows = λ f has. has };
            own = record { vars = refl; pending = refl; owed = refl; fresh = refl };
            hands = refl;
            extends = done.1 caller.opened;
          },
        )

-- a reference: what it comes to hold is nothing or a shaded object
module _ (key : Opening) (words : List ℕ) (views : List View) (v : View) (k : Kept key words views) (o n : ℕ) (target : Option ℕ) (word : ℕ)
    (caller : IsCaller key v) (mutator : v.number < 8) (held : IsHeld v o) (few : n < 4) (clear : IsClearTarget v word)
    (s : Table) (g : Given key k.log k.shown words v s) where
  abbrev later : List ℕ
  later = set k.shown (reference_place o n) word

  clear_word : (x : Option ℕ) (c : Cycle) → s.cycle ≡ Some c → object_word x ≡ word → IsClear later x
  clear_word None c is same = tt
  clear_word (Some q) c is same = elim clear [
    | inl outside ↦ absurd (let none : phase_word (Some c) ≡ 0 = ap phase_word (sym is) ∙ g.phase ∙ ap phase_of (sym caller.opened) ∙ outside in omega (arith, none))
    | inr known ↦
        let shaded = (each_has _ v.facts (fact.Shaded q) g.known (known q (sym same))).1 in
        ap (λ x. x % 2) (get_or-set_other k.shown (reference_place o n) (header_place q) word 0 (header-apart-reference q o n few)) ∙ shaded.1
  ]

  can_link_reference : object_word (object_in s v.number target) ≡ word → CanLink s v.number (Ref o n) (object_in s v.number target) later
  can_link_reference is = record {
    mine = (object_held s v g.owns caller.own mutator o held, few);
    within = object_made s v g.owns caller.own mutator g.sound o held;
    refs = λ m i. go s.cycle refl m i;
  }
    where
      go : (cycle : Option Cycle) → s.cycle ≡ cycle → (m i : ℕ)
          → IfSome cycle (λ d. ((with_linked s (Ref o n) (object_in s v.number target)).refs m i ≡ s.refs m i) ⊎ IsClear later ((with_linked s (Ref o n) (object_in s v.number target)).refs m i))
      go None at m i = tt
      go (Some c) at m i = elim (read_pair (object_in s v.number target) s.refs o n m i) [
        | inl r ↦ inr (subst (IsClear later) (sym r.1) (clear_word (object_in s v.number target) c at is))
        | inr r ↦ inl r.1
      ]

pub links_reference : (key : Opening) (slots id : ℕ) (me : Me (Unit {0}) View) (o k : ℕ) (target : Option ℕ) (word : ℕ) → IsCaller key me.0 → me.0.number < 8 → length me.0.vars ≡ 128 → IsHeld me.0 o → k < 4 → IsTarget me.0 target word → IsClearTarget me.0 word → Keeps key slots id me (reference_place o k) (λ x. word) (λ found w. LinkedTo me.0 (Ref o k) target w)
links_reference key slots id me o n target word caller mutator many held few aims clear =
    let made = held_within_limit key me.0 held.0 o caller held.1 in
    let low = mutator-target me.0 target word many aims in
    keeps_by key slots id me (reference_place o n) (λ x. word) (λ found w. LinkedTo me.0 (Ref o n) target w) (λ words views k at.
    kept_link key words views id me.0 k at (Ref o n) target word caller low aims (omega (arith, made, few)) (λ q. header-apart-reference q o n few)
    (λ p same. omega (arith, same, freelist_place-below p))
    (λ s g. can_link_reference key words views me.0 k o n target word caller mutator held few clear s g
    (target_is key words views id me.0 k at (Ref o n) target word caller low aims s g target low aims).0))

pub links_global : (key : Opening) (slots id : ℕ) (me : Me (Unit {0}) View) (g : ℕ) (target : Option ℕ) (word : ℕ) → IsCaller key me.0 → length me.0.vars ≡ 128 → g < 16 → IsTarget me.0 target word → Keeps key slots id me (global_place g) (λ x. word) (λ found w. LinkedTo me.0 (Global g) target w)
links_global key slots id me n target word caller many few aims =
    let low = mutator-target me.0 target word many aims in
    keeps_by key slots id me (global_place n) (λ x. word) (λ found w. LinkedTo me.0 (Global n) target w) (λ words views k at.
    kept_link key words views id me.0 k at (Global n) target word caller low aims (omega (arith, few)) (λ o same. omega (arith, same, few))
    (λ p same. omega (arith, same, freelist_place-below p))
    (λ s g. record {
      mine = few;
      within = tt;
      refs = λ o i. references_same s (with_linked s (Global n) (object_in s me.0.number target)) (set k.shown (global_place n) word) (λ a b. refl) o i;
    }))
