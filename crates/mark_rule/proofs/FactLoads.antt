-- A load that is no event: it keeps the rule, and its view learns facts that are true of each table of the rule.
use Rattle.std.proofs.Common.{◌≡◌, ℕ, List, get_or, set, refl}
use mathlib.Core.Option.{some}
use lib.ListN.{get_elem?}
use Rattle.plain_table.specs.Table.{Table}
use Rattle.entry_base.specs.declared.view.Fact.{Fact}
use Rattle.entry_base.specs.declared.view.Opening.{Opening}
use Rattle.entry_base.specs.declared.view.View.{View}
use Rattle.entry_base.specs.Facts.{IsKnown}
use Rattle.entry_base.specs.Learned.{Loaded}
use Rattle.entry_base.specs.Lists.{Each}
use Rattle.entry_base.specs.Openings.{sizes_in}
use Rattle.entry_base.specs.Rule.{Kept}
use Rattle.entry_base.proofs.QuietSteps.{kept_look, looker}
use Rattle.entry_base.proofs.Steps.{Given, loads}
use Rattle.entry_base.proofs.Sums.{has_append}

module _ (key : Opening) (words : List ℕ) (views : List View) (id : ℕ) (v : View) (k : Kept key words views) (at : get_elem? views id ≡ some v) (more : List Fact) where
  abbrev pub learner : View
  learner = looker key words views id v k at more

  pub loads_facts : (place : ℕ) → v.opening ≡ key
      → ((s : Table) → Given key k.log k.shown words v s → Each (IsKnown (sizes_in key) k.log s k.shown words) more)
      → Kept key (set words place (get_or words place 0)) (set views id learner) × Loaded v more learner
  loads_facts place opened tells = let done = kept_look key words views id v k at more tells in (
    loads key words (set views id learner) place done.0,
    record {
      same = record { opening = refl; number = refl; numbers = refl; cut = refl; knows = λ f has. has_append more v.facts f has };
      own = record { vars = refl; pending = refl; owed = refl; fresh = refl };
      looks = done.1 opened;
      hands = refl;
      facts = refl;
    },
  )
