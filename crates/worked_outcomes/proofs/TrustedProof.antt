-- The outcome of trusted entries belongs to its script.
use Rattle.std.proofs.Common.{[], refl, arith, inl, inr, take, drop}
use Rattle.plain_table.specs.Index.{word_of}
use Rattle.plain_table.specs.Table.{opening}
use Rattle.plain_table.specs.History.{IsLegalHistory, after}
use Rattle.plain_table.specs.Belongs.{Belongs, HasTotals, whole}
use Rattle.worked_outcomes.specs.TrustedEntries.{limits, script, parts, parts_with, one_look, outcome, made, published}
use Rattle.worked_outcomes.proofs.Phases.{numbers-by, one-mutator}
use Rattle.worked_outcomes.proofs.Objects.{IsLegalHistory-take}

-- the same with one look more
pub legal-more : IsLegalHistory (opening limits) (whole (parts_with one_look))
legal-more = (
  ((omega arith, omega arith), refl),
  (
    (tt, refl),
    (
      ((refl, (omega arith, omega arith), omega arith, tt), refl),
      (
        (((0, omega arith, refl), omega arith, inl refl), refl),
        (
          ((0, omega arith, refl), refl),
          (
            (tt, refl),
            (
              ((0, omega arith, refl), refl),
              (
                (refl, refl),
                (
                  ((0, omega arith, refl), refl),
                  (
                    (tt, refl),
                    (
                      (tt, refl),
                      tt,
                    ),
                  ),
                ),
              ),
            ),
          ),
        ),
      ),
    ),
  ),
)

legal : IsLegalHistory (opening limits) (whole parts)
legal = IsLegalHistory-take (opening limits) 10 (whole (parts_with one_look)) legal-more

totals : HasTotals (after (opening limits) (whole parts)) (whole parts) outcome
totals = record { live = refl; trusted = refl; objects = refl; sum = refl; puts = refl }

pub trusted-belongs : Belongs script parts outcome
trusted-belongs = record {
  legal = legal;
  phases = (
    record {
      calls = one-mutator _ (
        take 1 made,
        drop 1 made,
        refl,
        refl,
        (
          take 3 (drop 1 made),
          drop 4 made,
          refl,
          inr (1, refl),
          (drop 4 made, [], refl, (word_of 1, refl), refl),
        ),
      );
      scans = λ b is. absurd (omega (arith, is.0, is.1));
      numbers = numbers-by limits made refl;
      roots = λ begins. absurd (cc);
      old = λ begins. absurd (cc);
      lists = refl;
      meet = refl;
    },
    (
      record {
        calls = one-mutator _ (
          take 2 published,
          drop 2 published,
          refl,
          (word_of 1, inr (refl, refl)),
          (drop 2 published, [], refl, (word_of 1, refl), refl),
        );
        scans = λ b is. absurd (omega (arith, is.0, is.1));
        numbers = numbers-by limits published refl;
        roots = λ begins. absurd (cc);
        old = λ begins. absurd (cc);
        lists = refl;
        meet = refl;
      },
      tt,
    ),
  );
  totals = totals;
}
