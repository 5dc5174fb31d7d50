-- The outcome of two compactions belongs to its script.
use Rattle.std.proofs.Common.{[], ◌∷◌, ◌++◌, List, refl, arith, inl, inr, take, drop}
use Rattle.plain_table.specs.declared.events.Event.{Event}
use Rattle.plain_table.specs.Index.{word_of}
use Rattle.plain_table.specs.Ranges.{IsInRange}
use Rattle.plain_table.specs.Table.{Table, opening}
use Rattle.plain_table.specs.Reachable.{By_variable}
use Rattle.plain_table.specs.History.{IsLegalHistory, after}
use Rattle.plain_table.specs.Shapes.{external_field}
use Rattle.plain_table.specs.Sweeps.{MayScanAtMeet, Is_root, meeting}
use Rattle.plain_table.specs.Scans.{IsReadAtMeet, Rest, Begins, Passes, Stays, Marks, Takes, Fills, Fails, Aborts, Says, Scans, Ends, Turn, Make}
use Rattle.plain_table.specs.Sound.{IsSound}
use Rattle.plain_table.specs.Belongs.{Belongs, HasTotals, whole}
use Rattle.plain_table.proofs.CallsMade.{IsLegalHistory-append}
use Rattle.worked_outcomes.specs.Compactions.{limits, script, parts, outcome_moving, filled, started, given_up, evacuated, finish, loaded}
use Rattle.plain_table.proofs.ObjectFields.{fields_of, AreFieldsOf-three}
use Rattle.worked_outcomes.proofs.Phases.{numbers-by, own-by, one-mutator}
use Rattle.worked_outcomes.proofs.Objects.{IsInRange-small, IsSound-history, finish-by, complete-by, scan-by}

pub in_range : IsInRange limits
in_range = IsInRange-small 2 1 0 (omega arith) (omega arith) (omega arith) (omega arith) (omega arith)

-- what happens up to the first finish
abbrev first : List Event
first = filled ++ started ++ given_up

abbrev at_first : Table
at_first = after (opening limits) first

-- the table at the first pause
abbrev first_pause : Table
first_pause = after (opening limits) (filled ++ started)

legal-first : IsLegalHistory (opening limits) first
legal-first = (
  ((omega arith, omega arith), refl),
  (
    (tt, refl),
    (
      ((refl, (omega arith, omega arith), omega arith, tt), refl),
      (
        (((0, omega arith, refl), omega arith, inl refl), refl),
        (
          (tt, refl),
          (
            ((refl, (omega arith, omega arith), omega arith, tt), refl),
            (
              (((0, omega arith, refl), omega arith, inl refl), refl),
              (
                (tt, refl),
                (
                  ((refl, (omega arith, omega arith), omega arith, tt), refl),
                  (
                    (((0, omega arith, refl), omega arith, inl refl), refl),
                    (
                      (tt, refl),
                      (
                        ((refl, (omega arith, omega arith), omega arith, tt), refl),
                        (
                          (((0, omega arith, refl), omega arith, inl refl), refl),
                          (
                            ((refl, refl), refl),
                            (
                              ((refl, (external_field 0 0, word_of 1, refl, refl, inl (By_variable 0 0 0 refl, refl, λ e. absurd (omega (arith, e))))), refl),
                              (
                                ((refl, (external_field 0 1, word_of 4, refl, refl, inl (By_variable 0 0 0 refl, refl, λ e. absurd (omega (arith, e))))), refl),
                                (
                                  (refl, refl),
                                  (
                                    (refl, refl),
                                    (
                                      (
                                        scan-by (after first_pause (take 4 given_up)) 0
                                            (By_variable 0 0 0 refl, refl, λ id e. (e, refl, inl refl), λ id e. (e, refl, inl refl), λ id e. absurd (cc)),
                                        refl,
                                      ),
                                      tt,
                                    ),
                                  ),
                                ),
                              ),
                            ),
                          ),
                        ),
                      ),
                    ),
                  ),
                ),
              ),
            ),
          ),
        ),
      ),
    ),
  ),
)

sound-first : IsSound at_first
sound-first = IsSound-history limits first in_range legal-first

-- what happens from the first finish up to the second one
abbrev second : List Event
second = finish ∷ started ++ evacuated

abbrev at_second : Table
at_second = after at_first second

abbrev second_pause : Table
second_pause = after at_first (finish ∷ started)

legal-second : IsLegalHistory (opening limits) (first ++ second)
legal-second =
    IsLegalHistory-append (opening limits) first second legal-first (
      ((refl, finish-by at_first sound-first refl refl), refl),
      (
        ((refl, refl), refl),
        (
          ((refl, (external_field 0 0, word_of 1, refl, refl, inl (By_variable 0 0 0 refl, refl, λ e. absurd (omega (arith, e))))), refl),
          (
            ((refl, (external_field 0 1, word_of 4, refl, refl, inl (By_variable 0 0 0 refl, refl, λ e. absurd (omega (arith, e))))), refl),
            (
              (refl, refl),
              (
                ((refl, omega arith, By_variable 0 0 0 refl), refl),
                (
                  (
                    scan-by (after second_pause (take 4 evacuated)) 0
                        (By_variable 0 0 0 refl, refl, λ id e. (e, refl, inl refl), λ id e. (e, refl, inr refl), λ id e. absurd (cc)),
                    refl,
                  ),
                  tt,
                ),
              ),
            ),
          ),
        ),
      ),
    )

sound-second : IsSound at_second
sound-second = IsSound-history limits (first ++ second) in_range legal-second

legal : IsLegalHistory (opening limits) (whole parts)
legal =
    IsLegalHistory-append (opening limits) (first ++ second) (finish ∷ loaded) legal-second (
      ((refl, finish-by at_second sound-second refl refl), refl),
      (
        ((0, omega arith, refl), refl),
        (
          (tt, refl),
          tt,
        ),
      ),
    )

totals : HasTotals (after (opening limits) (whole parts)) (whole parts) (outcome_moving 1)
totals = record { live = refl; trusted = refl; objects = refl; sum = refl; puts = refl }

first-scans : Scans (MayScanAtMeet []) IsReadAtMeet meeting Rest first_pause given_up Rest
first-scans =
    Turn _ _ _ _ _ (Begins 0 (fields_of 0) (Is_root 0 (inr (0, 0, refl))) (AreFieldsOf-three 0))
    (Make _ _ _ _ _ _ refl (Marks 0 (external_field 0 0) (word_of 1) _ refl)
    (Turn _ _ _ _ _ (Stays _ _ _ _ (inl refl))
    (Make _ _ _ _ _ _ refl (Marks 0 (external_field 0 1) (word_of 4) _ refl)
    (Make _ _ _ _ _ _ refl (Fails _ _ _ _ _ (refl, refl))
    (Make _ _ _ _ _ _ refl (Aborts _ _)
    (Turn _ _ _ _ _ (Passes _ _ 0 _ refl refl)
    (Make _ _ _ _ _ _ refl (Says 0)
    (Ends _ _))))))))

second-scans : Scans (MayScanAtMeet []) IsReadAtMeet meeting Rest second_pause evacuated Rest
second-scans =
    Turn _ _ _ _ _ (Begins 0 (fields_of 0) (Is_root 0 (inr (0, 0, refl))) (AreFieldsOf-three 0))
    (Make _ _ _ _ _ _ refl (Marks 0 (external_field 0 0) (word_of 1) _ refl)
    (Turn _ _ _ _ _ (Stays _ _ _ _ (inl refl))
    (Make _ _ _ _ _ _ refl (Marks 0 (external_field 0 1) (word_of 4) _ refl)
    (Make _ _ _ _ _ _ refl (Takes _ _ _ _ _ _ (refl, refl))
    (Make _ _ _ _ _ _ refl (Fills _ _ _ _)
    (Turn _ _ _ _ _ (Passes _ _ 0 _ refl refl)
    (Make _ _ _ _ _ _ refl (Says 0)
    (Ends _ _))))))))

pub compactions-belong : Belongs script parts (outcome_moving 1)
compactions-belong = record {
  legal = legal;
  phases = (
    record {
      calls = one-mutator _ (
        take 1 filled,
        drop 1 filled,
        refl,
        refl,
        (
          take 3 (drop 1 filled),
          drop 4 filled,
          refl,
          inr (1, refl),
          (
            take 3 (drop 4 filled),
            drop 7 filled,
            refl,
            inr (2, refl),
            (
              take 3 (drop 7 filled),
              drop 10 filled,
              refl,
              inr (3, refl),
              (drop 10 filled, [], refl, inr (4, refl), refl),
            ),
          ),
        ),
      );
      scans = λ b is. absurd (omega (arith, is.0, is.1));
      numbers = numbers-by limits filled refl;
      roots = λ begins. absurd (cc);
      old = λ begins. absurd (cc);
      lists = refl;
      meet = (refl, refl);
    },
    (
      record {
        calls = one-mutator _ refl;
        scans = λ b is. absurd (omega (arith, is.0, is.1));
        numbers = numbers-by limits [] refl;
        roots = λ begins some. absurd (omega (arith, some));
        old = λ begins some. absurd (omega (arith, some));
        lists = refl;
        meet = (
          given_up,
          refl,
          record {
            own = own-by meeting given_up refl;
            scans = first-scans;
            complete = complete-by at_first _ sound-first refl refl refl;
          },
          record { kept = refl; freed = refl; moved = refl; segs = refl; trusted = refl; tfreed = refl; compaction = refl },
        );
      },
      (
        record {
          calls = one-mutator _ refl;
          scans = λ b is. absurd (omega (arith, is.0, is.1));
          numbers = numbers-by limits [] refl;
          roots = λ begins. absurd (cc);
          old = λ begins. absurd (cc);
          lists = refl;
          meet = (refl, refl);
        },
        (
          record {
            calls = one-mutator _ refl;
            scans = λ b is. absurd (omega (arith, is.0, is.1));
            numbers = numbers-by limits [] refl;
            roots = λ begins some. absurd (omega (arith, some));
            old = λ begins some. absurd (omega (arith, some));
            lists = refl;
            meet = (
              evacuated,
              refl,
              record {
                own = own-by meeting evacuated refl;
                scans = second-scans;
                complete = complete-by at_second _ sound-second refl refl refl;
              },
              record { kept = refl; freed = refl; moved = refl; segs = refl; trusted = refl; tfreed = refl; compaction = refl },
            );
          },
          (
            record {
              calls = one-mutator _ (loaded, [], refl, (word_of 2, refl), refl);
              scans = λ b is. absurd (omega (arith, is.0, is.1));
              numbers = numbers-by limits loaded refl;
              roots = λ begins. absurd (cc);
              old = λ begins. absurd (cc);
              lists = refl;
              meet = refl;
            },
            tt,
          ),
        ),
      ),
    ),
  );
  totals = totals;
}
