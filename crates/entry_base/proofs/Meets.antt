-- The load after a join.
use Rattle.std.proofs.Common.{◌≡◌, ℕ, [], refl, arith, inl, inr}
use Rattle.std.proofs.lemmas.Bool.{cases_lt}
use mathlib.Core.Option.{none}
use Rattle.atomic_table.specs.Table.{Allows, Me, step}
use Rattle.entry_base.specs.declared.view.Opening.{Opening}
use Rattle.entry_base.specs.declared.view.View.{View}
use Rattle.entry_base.specs.declared.view.Fact.TheVariants as fact
use Rattle.entry_base.specs.Lists.{count_in}
use Rattle.entry_base.specs.Facts.{IsKnown}
use Rattle.entry_base.specs.Rule.{Ruled}
use Rattle.entry_base.specs.Openings.{sizes_in}
use Rattle.entry_base.specs.Learned.{meets}
use Rattle.entry_base.proofs.Sums.{among, each_has}
use Rattle.entry_base.proofs.Steps.{given, allows, loads}
use Rattle.plain_table.specs.History.{after}
use Rattle.entry_base.proofs.QuietSteps.{looker, kept_look}

pub learns : (key : Opening) (slots id : ℕ) (me : Me (Unit {0}) View) (i : ℕ) → me.0.opening ≡ key
    → Allows {S = Unit {0}} {V = View} (Ruled key) slots id me i (λ n. n) (meets (step slots i 0 0 none) me)
learns key slots id me i opened = allows key slots id me i (λ n. n) (meets (step slots i 0 0 none) me) (λ words views k at.
    let look = kept_look key words views id me.0 k at [] (λ s g. tt) in (
      looker key words views id me.0 k at [],
      loads key words _ i look.0,
      (
        record {
          loaded = record {
            same = record { opening = refl; number = refl; numbers = refl; cut = refl; knows = λ f has. has };
            own = record { vars = refl; pending = refl; owed = refl; fresh = refl };
            looks = look.1 opened;
            hands = refl;
            facts = refl;
          };
          joined = λ short long numbers has.
              let g = given key words views id me.0 k at k.base k.is_base in
              (each_has (IsKnown (sizes_in key) k.log (after k.base k.log) k.shown words) me.0.facts (fact.Joined short long numbers) g.known has).0;
          once = λ n. elim (cases_lt 12 n) [
            | inl past ↦ let a = among (λ (x : View). count_in n x.numbers) views id me.0 at in let b = k.numbers.none n past in omega arith
            | inr low ↦ let a = among (λ (x : View). count_in n x.numbers) views id me.0 at in let b = k.numbers.one n low in omega arith
          ];
        },
        refl,
      ),
    ))
