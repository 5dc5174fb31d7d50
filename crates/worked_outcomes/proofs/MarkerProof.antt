-- The outcome of a marker concurrently with a mutator belongs to its script.
use Rattle.std.proofs.Common.{ℕ, ◌<◌, [], ◌∷◌, ◌++◌, List, refl, arith, inl, inr, take, drop}
use Rattle.plain_table.specs.declared.events.Event.{Event}
use Rattle.plain_table.specs.declared.events.Act.TheVariants.{Start, Finish, Scan}
use Rattle.plain_table.specs.declared.scripts.Policy.TheVariants.{Never}
use Rattle.plain_table.specs.declared.reports.Reply.TheVariants as reply
use Rattle.plain_table.specs.Index.{word_of}
use Rattle.plain_table.specs.Ranges.{IsInRange}
use Rattle.plain_table.specs.Table.{Table, opening}
use Rattle.plain_table.specs.Reachable.{By_variable}
use Rattle.plain_table.specs.History.{IsLegalHistory, after}
use Rattle.plain_table.specs.Shapes.{event, external_field}
use Rattle.plain_table.specs.Scans.{IsReadConcurrently, Rest, Begins, Passes, Stays, Marks, Says, Scans, Ends, Others, Turn, Make}
use Rattle.plain_table.specs.Sound.{IsSound}
use Rattle.plain_table.specs.Belongs.{Belongs, HasTotals, IsScannedIn, whole, events_by}
use Rattle.plain_table.proofs.CallsMade.{IsLegalHistory-append}
use Rattle.worked_outcomes.specs.ConcurrentMarker.{limits, script, parts, outcome, before, concurrent, loaded}
use Rattle.plain_table.proofs.ObjectFields.{fields_of, AreFieldsOf-three}
use Rattle.worked_outcomes.proofs.Phases.{numbers-by, one-mutator, one-marker, scans-nothing}
use Rattle.table_laws.proofs.KeepsTraced.{IsReachable-made}
use Rattle.worked_outcomes.proofs.Objects.{IsInRange-small, IsSound-history, IsLegalHistory-take, root-reachable, finish-by, complete-by, scan-by}

in_range : IsInRange limits
in_range = IsInRange-small 1 2 1 (omega arith) (omega arith) (omega arith) (omega arith) (omega arith)

-- what happens up to the finish
abbrev so_far : List Event
so_far = before ++ (event 12 (Start Never) reply.Ok ∷ concurrent)

legal-so-far : IsLegalHistory (opening limits) so_far
legal-so-far = (
  ((omega arith, omega arith), refl),
  (
    (tt, refl),
    (
      ((refl, (omega arith, omega arith), omega arith, tt), refl),
      (
        (((0, omega arith, refl), omega arith, inl refl), refl),
        (
          ((refl, refl), refl),
          (
            ((omega arith, omega arith), refl),
            (
              ((refl, (external_field 0 0, word_of 1, refl, refl, inl (By_variable 0 0 0 refl, refl, λ e. absurd (omega (arith, e))))), refl),
              (
                (tt, refl),
                (
                  ((refl, (omega arith, omega arith), omega arith, tt), refl),
                  (
                    (
                      scan-by (after (opening limits) (take 9 so_far)) 0
                          (By_variable 0 0 0 refl, refl, λ id e. (e, refl, inl refl), λ id e. absurd (cc), λ id e. absurd (cc)),
                      refl,
                    ),
                    (
                      (((1, omega arith, refl), omega arith, inl refl), refl),
                      (
                        ((((0, omega arith, refl), omega arith), (omega arith, refl)), refl),
                        tt,
                      ),
                    ),
                  ),
                ),
              ),
            ),
          ),
        ),
      ),
    ),
  ),
)

sound-so-far : IsSound (after (opening limits) so_far)
sound-so-far = IsSound-history limits so_far in_range legal-so-far

legal : IsLegalHistory (opening limits) (whole parts)
legal =
    IsLegalHistory-append (opening limits) so_far (event 12 Finish reply.Ok ∷ loaded) legal-so-far (
      ((refl, finish-by (after (opening limits) so_far) sound-so-far refl refl), refl),
      (
        ((0, omega arith, refl), refl),
        (
          (tt, refl),
          tt,
        ),
      ),
    )

totals : HasTotals (after (opening limits) (whole parts)) (whole parts) outcome
totals = record { live = refl; trusted = refl; objects = refl; sum = refl; puts = refl }

-- the table at the start of the second phase
abbrev at_start : Table
at_start = after (opening limits) (take 5 so_far)

sound-start : IsSound at_start
sound-start = IsSound-history limits (take 5 so_far) in_range (IsLegalHistory-take (opening limits) 5 so_far legal-so-far)

-- the marker marks the cell of the first field, passes over the two others, and says that the object is scanned
marker-scans : Scans (λ t o. Unit {0}) IsReadConcurrently 8 Rest at_start concurrent Rest
marker-scans =
    Others _ _ _ _ _ (λ e. absurd (omega (arith, e)))
    (Turn _ _ _ _ _ (Begins 0 (fields_of 0) tt (AreFieldsOf-three 0))
    (Make _ _ _ _ _ _ refl (Marks 0 (external_field 0 0) (word_of 1) _ (inl refl))
    (Turn _ _ _ _ _ (Stays _ _ _ _ (inl refl))
    (Others _ _ _ _ _ (λ e. absurd (omega (arith, e)))
    (Turn _ _ _ _ _ (Passes _ _ 0 _ (inl refl) refl)
    (Turn _ _ _ _ _ (Stays _ _ _ _ (inl refl))
    (Others _ _ _ _ _ (λ e. absurd (omega (arith, e)))
    (Turn _ _ _ _ _ (Passes _ _ 0 _ (inl refl) refl)
    (Make _ _ _ _ _ _ refl (Says 0)
    (Others _ _ _ _ _ (λ e. absurd (omega (arith, e)))
    (Others _ _ _ _ _ (λ e. absurd (omega (arith, e)))
    (Ends _ _))))))))))))

scanned : (o : ℕ) → o < 1 → IsScannedIn limits concurrent o
scanned = one-mutator (IsScannedIn limits concurrent) (4, event 8 (Scan 0) reply.Ok, omega arith, refl, ((omega arith, omega arith), refl))

abbrev mine : List Event
mine = events_by 0 concurrent

pub marker-belongs : Belongs script parts outcome
marker-belongs = record {
  legal = legal;
  phases = (
    record {
      calls = one-mutator _ (
        take 1 before,
        drop 1 before,
        refl,
        refl,
        (drop 1 before, [], refl, inr (1, refl), refl),
      );
      scans = one-marker _ (scans-nothing 8 _ _ refl);
      numbers = numbers-by limits before refl;
      roots = λ begins. absurd (cc);
      old = λ begins. absurd (cc);
      lists = refl;
      meet = (refl, refl);
    },
    (
      record {
        calls = one-mutator _ (
          take 1 mine,
          drop 1 mine,
          refl,
          refl,
          (
            take 3 (drop 1 mine),
            drop 4 mine,
            refl,
            inr (2, refl),
            (drop 4 mine, [], refl, refl, refl),
          ),
        );
        scans = one-marker _ marker-scans;
        numbers = numbers-by limits concurrent refl;
        roots = λ begins some o r. scanned o (IsReachable-made at_start sound-start o (root-reachable at_start o r));
        old = λ begins some none o r. scanned o (IsReachable-made at_start sound-start o r);
        lists = refl;
        meet = (
          [],
          refl,
          record {
            own = λ k d within. absurd (omega arith);
            scans = Ends _ _;
            complete = complete-by (after (opening limits) so_far) _ sound-so-far refl refl refl;
          },
          record { kept = refl; freed = refl; moved = refl; segs = refl; trusted = refl; tfreed = refl; compaction = refl },
        );
      },
      (
        record {
          calls = one-mutator _ (loaded, [], refl, (word_of 1, refl), refl);
          scans = one-marker _ (scans-nothing 8 _ _ refl);
          numbers = numbers-by limits loaded refl;
          roots = λ begins. absurd (cc);
          old = λ begins. absurd (cc);
          lists = refl;
          meet = refl;
        },
        tt,
      ),
    ),
  );
  totals = totals;
}
