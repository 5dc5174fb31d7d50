-- The seed of the words is the one that was run.
use Rattle.std.proofs.Common.{◌≡◌, ℕ, subst, ◌∙◌, sym, ap, Option, Some}
use Rattle.table_run.specs.declared.answers.Form.{Form}
use Rattle.table_run.specs.declared.answers.Form.TheVariants.{Soak}
use Rattle.table_run.specs.Top.{EachLineFits}
use Rattle.table_run.proofs.top.run_main.Goals as goal

abbrev seed_in : Option Form → ℕ
seed_in (Some (Soak seed)) = seed
seed_in _ = 0

pub returns-in-Some-Soak-clause-soak_room : goal.returns-in-Some-Soak-clause-soak_room
returns-in-Some-Soak-clause-soak_room g c seed is room has fits =
    let same : seed ≡ c.in-Some-Soak.seed = ap seed_in (sym is ∙ sym c.known_form.ensures ∙ c.in-Some-Soak.is ∙ ap Some c.in-Some-Soak.field-0-is) in
    c.soak.ensures.room room has (subst (λ (n : ℕ). EachLineFits n room) same fits)
