-- Naming a field of an object that a variable of the caller holds keeps the rule. A trusted field's word tells of the cell at
-- its index.
use Rattle.std.proofs.Common.{◌≡◌, ◌≢◌, ℕ, zero, suc, ◌<◌, ◌==◌, if◌then◌else◌, Bool, true, false, List, [], ◌∷◌, ◌++◌, set, slice_index, Option, Some, None, IsSome, refl, sym, ap, subst, ◌∙◌, arith}
use Rattle.std.proofs.lemmas.Bool.Decides.{nat_tests}
use mathlib.Core.Option.{some}
use lib.ListN.{get_elem?}
use Rattle.atomic_table.specs.Table.{Me}
use Rattle.plain_table.specs.declared.events.Act.TheVariants as act
use Rattle.plain_table.specs.declared.events.Event.{Event}
use Rattle.plain_table.specs.declared.events.Field.{Field}
use Rattle.plain_table.specs.declared.events.Field.TheVariants as field
use Rattle.plain_table.specs.declared.events.Space.TheVariants.{Trusted}
use Rattle.plain_table.specs.declared.reports.Reply.TheVariants as reply
use Rattle.plain_table.specs.Cycle.{Cycle, IsTouched}
use Rattle.plain_table.specs.Index.{index_of}
use Rattle.plain_table.specs.Places.{object_of}
use Rattle.plain_table.specs.Reachable.{Reaches}
use Rattle.plain_table.specs.Reachable.Reaches.{By_variable}
use Rattle.plain_table.specs.Table.{Table}
use Rattle.plain_table.specs.Words.{field_place, phase_word}
use Rattle.plain_table.proofs.CycleParts.{CycleSound-is}
use Rattle.plain_table.proofs.Options.{IsSome-value, IsSome-some, IsSomeAnd-by, option_map-some}
use Rattle.entry_base.specs.declared.view.Fact.{Fact}
use Rattle.entry_base.specs.declared.view.Fact.TheVariants as fact
use Rattle.entry_base.specs.declared.view.Opening.{Opening}
use Rattle.entry_base.specs.declared.view.View.{View}
use Rattle.entry_base.specs.Callers.{IsCaller, event_of}
use Rattle.entry_base.specs.Facts.{IsKnown}
use Rattle.entry_base.specs.Lists.{Each}
use Rattle.entry_base.specs.Openings.{sizes_in, phase_of}
use Rattle.entry_base.specs.Owns.{IsHeld}
use Rattle.entry_base.specs.Rule.{Kept}
use Rattle.entry_base.proofs.QuietSteps.{kept_event}
use Rattle.entry_base.proofs.Steps.{Given, Keeps, given, keeps_by, loads}
use Rattle.entry_base.proofs.Sums.{has_append}
use Rattle.object_rule.specs.Fields.{Named, NamedTrusted, named_facts}
use Rattle.object_rule.proofs.Held.{object_held, variable_held}
use Rattle.object_rule.proofs.HeldFields.{word_is, word_small}

module _ (key : Opening) (words : List ℕ) (views : List View) (id : ℕ) (v : View) (k : Kept key words views) (at : get_elem? views id ≡ some v)
    (caller : IsCaller key v) (mutator : v.number < 8) (f : Field) (held : IsHeld v (object_of f)) (more : List Fact) where
  abbrev found : ℕ
  found = slice_index words (field_place f)

  abbrev e : Event
  e = event_of v (act.Name f) (reply.Word found)

  abbrev named : View
  named = record v { seen = k.log ++ e ∷ []; facts = more ++ v.facts }

  module _ (tells : (s : Table) → Given key k.log k.shown words v s → found ≡ s.words f → Each (IsKnown (sizes_in key) (k.log ++ e ∷ []) s k.shown words) more) where
    kept_name : Kept key words (set views id named) × Named v f found named
    kept_name =
        let done = kept_event key words views id v k at more e named refl caller.own tt tt (λ p. refl) refl refl refl refl refl (λ s g.
        let is = word_is key k.log k.shown words v f caller mutator held s g k.near in (
          (object_held s v g.owns caller.own mutator (object_of f) held, ap reply.Word is),
          record { variables = g.owns.variables; pending = g.owns.pending; owed = g.owns.owed; fresh = g.owns.fresh },
          tells s g is,
        )) in (
          done.0,
          record {
            answered = record {
              same = record { opening = refl; number = refl; numbers = refl; cut = refl; knows = λ x has. has_append more v.facts x has };
              own = record { vars = refl; pending = refl; owed = refl; fresh = refl };
              hands = refl;
              extends = done.1 caller.opened;
            };
            small = word_small key k.log k.shown words v f caller mutator held _ (given key words views id v k at k.base k.is_base) k.near;
          },
        )

pub names_external : (key : Opening) (slots id : ℕ) (me : Me (Unit {0}) View) (number : ℕ) → IsCaller key me.0 → me.0.number < 8 → IsHeld me.0 (object_of (field.External number)) → Keeps key slots id me (field_place (field.External number)) (λ n. n) (λ found w. Named me.0 (field.External number) found w)
names_external key slots id me number caller mutator held =
    keeps_by key slots id me (field_place (field.External number)) (λ n. n) (λ found w. Named me.0 (field.External number) found w) (λ words views k at.
    let done = kept_name key words views id me.0 k at caller mutator (field.External number) held [] (λ s g is. tt) in
    (_, loads key words _ (field_place (field.External number)) done.0, done.1))

-- what the word of a trusted field tells, of a sound table with an object that a variable holds
module _ (key : Opening) (log longer : List Event) (shown words : List ℕ) (v : View) (caller : IsCaller key v) (mutator : v.number < 8) (o : ℕ) (held : IsHeld v o)
    (s : Table) (g : Given key log shown words v s) where
  abbrev f : Field
  f = field.Trusted o

  held_there : s.vars v.number held.0 ≡ Some o
  held_there = variable_held s v g.owns caller.own mutator held.0 o held.1

  reached : Reaches s.refs s.globals s.vars o
  reached = By_variable v.number held.0 o held_there

  knows : (n : ℕ) → n ≡ s.words f → Each (IsKnown (sizes_in key) longer s shown words) (named_facts v.opening o n)
  knows zero is = tt
  knows (suc n) is = (
    ((subst (λ w. IsSome (s.cells Trusted (index_of w))) (sym is) cell, λ b. subst (λ w. s.fresh b Trusted (index_of w) ≡ false) (sym is) (g.sound.fields.settled o b reached some_word)), tt),
    touched (phase_of v.opening == 0) refl,
  )
    where
      some_word : s.words f ≢ 0
      some_word none_there = omega (arith, is, none_there)

      cell : IsSome (s.cells Trusted (index_of (s.words f)))
      cell =
          let own = IsSome-value (s.bound f) (g.sound.fields.trusted o reached some_word) in
          let c = option_map-some _ (s.cells Trusted (index_of (s.words f))) own.0 (g.sound.fields.own f own.0 reached own.1) in
          IsSome-some (s.cells Trusted (index_of (s.words f))) c.0 c.1

      touched : (idle : Bool) → (phase_of v.opening == 0) ≡ idle → Each (IsKnown (sizes_in key) longer s shown words) (if idle then [] else fact.Touched f (suc n) ∷ [])
      touched true is_idle = tt
      touched false in_cycle = go s.cycle refl
        where
          go : (cycle : Option Cycle) → s.cycle ≡ cycle → Each (IsKnown (sizes_in key) longer s shown words) (fact.Touched f (suc n) ∷ [])
          go None none_there = absurd (let t : phase_of v.opening ≢ 0 = grind (arith, nat_tests) in t (ap phase_of caller.opened ∙ (sym g.phase ∙ ap phase_word none_there)))
          go (Some c) is_cycle =
              let sure = CycleSound-is s c g.sound is_cycle in
              ((IsSomeAnd-by s.cycle c _ is_cycle (subst (λ w. IsTouched c f w) (sym is) (sure.touched.touched f (sure.traced.variables v.number held.0 o held_there) some_word)), tt), tt)

pub names_trusted : (key : Opening) (slots id : ℕ) (me : Me (Unit {0}) View) (o : ℕ) → IsCaller key me.0 → me.0.number < 8 → IsHeld me.0 o → Keeps key slots id me (field_place (field.Trusted o)) (λ n. n) (λ found w. NamedTrusted me.0 o found w)
names_trusted key slots id me o caller mutator held =
    keeps_by key slots id me (field_place (field.Trusted o)) (λ n. n) (λ found w. NamedTrusted me.0 o found w) (λ words views k at.
    let found : ℕ = slice_index words (field_place (field.Trusted o)) in
    let done = kept_name key words views id me.0 k at caller mutator (field.Trusted o) held (named_facts me.0.opening o found)
    (λ s g is. knows key k.log _ k.shown words me.0 caller mutator o held s g found is) in
    (_, loads key words _ (field_place (field.Trusted o)) done.0, record { named = done.1; facts = refl }))
