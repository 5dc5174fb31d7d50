-- A step that drops what a variable holds keeps the rule. Those that get into a variable stand in `VariableGets.antt`, for views that
-- list the 128 variables: here they are said of every view, and are open.
use Rattle.std.proofs.Common.{◌≡◌, ℕ, ◌+◌, ◌*◌, ◌<◌, [], ◌∷◌, ◌++◌, List, set, slice_index, slice_set, get_or-set_same, length, length-set, None, refl, inl, inr, arith}
use Rattle.std.proofs.lemmas.Bool.{cases_lt}
use Rattle.std.proofs.lemmas.List.{get_or_past}
use mathlib.Core.Option.{some}
use lib.ListN.{get_elem?}
use Rattle.atomic_table.specs.Table.{Me}
use Rattle.plain_table.specs.declared.events.Act.TheVariants as act
use Rattle.plain_table.specs.declared.events.Event.{Event}
use Rattle.plain_table.specs.declared.reports.Reply.TheVariants as reply
use Rattle.entry_base.specs.declared.view.Opening.{Opening}
use Rattle.entry_base.specs.declared.view.View.{View}
use Rattle.entry_base.specs.Callers.{IsCaller, event_of}
use Rattle.entry_base.specs.Rule.{Kept}
use Rattle.entry_base.proofs.QuietSteps.{kept_event}
use Rattle.entry_base.proofs.Steps.{Keeps, keeps_by, loads}
use Rattle.object_rule.specs.Objects.{Dropped}
use Rattle.object_rule.proofs.Held.{owns_variable}

-- a variable that is set to 0 holds nothing, wherever it stands
cleared : (vars : List ℕ) (place : ℕ) → slice_index (slice_set vars place 0) place ≡ 0
cleared vars place = elim (cases_lt place (length vars)) [
  | inl within ↦ get_or-set_same vars place 0 0 within
  | inr past ↦ get_or_past (slice_set vars place 0) place 0 (let long = length-set vars place 0 in omega arith)
]

module _ (key : Opening) (words : List ℕ) (views : List View) (id : ℕ) (v : View) (k : Kept key words views) (at : get_elem? views id ≡ some v)
    (var : ℕ) (caller : IsCaller key v) (mutator : v.number < 8) (few : var < 16) where
  abbrev e : Event
  e = event_of v (act.Drop var) reply.Ok

  abbrev dropper : View
  dropper = record v { seen = k.log ++ e ∷ []; vars = slice_set v.vars (16 * v.number + var) 0 }

  kept_drop : Kept key words (set views id dropper) × Dropped v var dropper
  kept_drop =
      let done = kept_event key words views id v k at [] e dropper refl caller.own tt tt (λ p. refl) refl refl refl refl refl (λ s g. (
        ((mutator, few), refl),
        owns_variable s v var few None s.count s.cycle 0 (k.log ++ e ∷ []) (cleared v.vars (16 * v.number + var)) g.owns,
        tt,
      )) in (
        done.0,
        record {
          variable = record { same = record { opening = refl; number = refl; numbers = refl; cut = refl; knows = λ f has. has }; rest = (refl, refl, refl, refl); vars = refl };
          extends = done.1 caller.opened;
        },
      )

pub drops : (key : Opening) (slots id : ℕ) (me : Me (Unit {0}) View) (var : ℕ) → IsCaller key me.0 → me.0.number < 8 → var < 16 → Keeps key slots id me 4 (λ n. n) (λ found w. Dropped me.0 var w)
drops key slots id me var caller mutator few = keeps_by key slots id me 4 (λ n. n) (λ found w. Dropped me.0 var w) (λ words views k at.
    let done = kept_drop key words views id me.0 k at var caller mutator few in
    (dropper key words views id me.0 k at var caller mutator few, loads key words _ 4 done.0, done.1))
