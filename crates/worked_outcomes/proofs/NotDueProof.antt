-- An object that is not due: the outcome without its scan belongs, and the history with its scan is legal.
use Rattle.std.proofs.Common.{◌≡◌, ℕ, ◌<◌, [], ◌∷◌, List, Some, None, refl, arith, inl, inr, take, drop, subst, sym, Option, true, false}
use Rattle.std.specs.Prelude.{◌||◌}
use Rattle.plain_table.specs.declared.events.Event.{Event}
use Rattle.plain_table.specs.declared.events.Act.TheVariants.{Finish}
use Rattle.plain_table.specs.declared.reports.Reply.TheVariants as reply
use Rattle.plain_table.specs.Ranges.{IsInRange}
use Rattle.plain_table.specs.Table.{Table, opening}
use Rattle.plain_table.specs.Reachable.{By_global, By_variable, By_reference, IsRoot}
use Rattle.plain_table.specs.Places.{put_at}
use Rattle.plain_table.specs.Shapes.{event}
use Rattle.plain_table.specs.Finish.{IsReachable}
use Rattle.plain_table.specs.Cycle.{Cycle}
use Rattle.plain_table.specs.History.{IsLegalHistory, after}
use Rattle.plain_table.specs.Sweeps.{IsDue, Was_root, Was_linked, Is_root, Is_referred, meeting}
use Rattle.plain_table.specs.Scans.{Begins, Passes, Stays, Says, Ends, Turn, Make}
use Rattle.plain_table.specs.Belongs.{Belongs, whole}
use Rattle.plain_table.proofs.CallsMade.{IsLegalHistory-append}
use Rattle.table_laws.proofs.FinishLaws.{CanFinish-scanned}
use Rattle.worked_outcomes.specs.NotDue.{limits, script, parts_scanning, due_scans, more_scans, linked, emptied, outcome}
use Rattle.plain_table.proofs.ObjectFields.{fields_of, AreFieldsOf-three}
use Rattle.worked_outcomes.proofs.Phases.{numbers-by, own-by, one-mutator}
use Rattle.worked_outcomes.proofs.Objects.{IsInRange-small, IsSound-history, IsLegalHistory-take, finish-by, scan-by}

-- the table at the pause
abbrev pub pause : Table
pause = after (opening limits) (take 6 (whole (parts_scanning due_scans)))

-- the one root is the first object, now as at the start
variable-zero : (b v o : ℕ) → pause.vars b v ≡ Some o → o ≡ 0
variable-zero b v o e = grind arith

root-zero : (globals : ℕ → Option ℕ) (vars : ℕ → ℕ → Option ℕ) → globals ≡ pause.globals → vars ≡ pause.vars →
    (o : ℕ) → IsRoot globals vars o → o ≡ 0
root-zero globals vars e1 e2 o (inl r) =
    let none : None ≡ Some o = subst (λ (g : ℕ → Option ℕ). g r.0 ≡ Some o) e1 r.1 in absurd (cc)
root-zero globals vars e1 e2 o (inr r) = variable-zero r.0 r.1 o (subst (λ (v : ℕ → ℕ → Option ℕ). v r.0 r.1 ≡ Some o) e2 r.2)

no-reference : (o k q : ℕ) → pause.refs o k ≡ Some q → ⊥
no-reference o k q e = grind arith

-- so only the first object is due, or reachable
pub due-zero : (s : Table) (c : Cycle) → c.globals ≡ pause.globals → c.vars ≡ pause.vars → s.globals ≡ pause.globals → s.vars ≡ pause.vars → s.refs ≡ pause.refs →
    (o : ℕ) → IsDue s c [] o → o ≡ 0
due-zero s c e1 e2 e3 e4 e5 _ (Was_root o r) = root-zero c.globals c.vars e1 e2 o r
due-zero s c e1 e2 e3 e4 e5 _ (Was_linked o within) = absurd (let least : within.0 < 0 = within.1 in omega arith)
due-zero s c e1 e2 e3 e4 e5 _ (Is_root o r) = root-zero s.globals s.vars e3 e4 o r
due-zero s c e1 e2 e3 e4 e5 _ (Is_referred o k q due e) =
    absurd (no-reference o k q (subst (λ (refs : ℕ → ℕ → Option ℕ). refs o k ≡ Some q) e5 e))

reachable-zero : (s : Table) → s.globals ≡ pause.globals → s.vars ≡ pause.vars → s.refs ≡ pause.refs → (o : ℕ) → IsReachable s o → o ≡ 0
reachable-zero s e1 e2 e3 _ (By_global g o e) = root-zero s.globals s.vars e1 e2 o (inl (g, e))
reachable-zero s e1 e2 e3 _ (By_variable b v o e) = root-zero s.globals s.vars e1 e2 o (inr (b, v, e))
reachable-zero s e1 e2 e3 _ (By_reference o k q r e) =
    absurd (no-reference o k q (subst (λ (refs : ℕ → ℕ → Option ℕ). refs o k ≡ Some q) e3 e))

in_range : IsInRange limits
in_range = IsInRange-small 1 2 0 (omega arith) (omega arith) (omega arith) (omega arith) (omega arith)

-- what happens up to the finish, with both scans
abbrev so_far : List Event
so_far = take 8 (whole (parts_scanning more_scans))

legal-so-far : IsLegalHistory (opening limits) so_far
legal-so-far = (
  ((omega arith, omega arith), refl),
  (
    ((omega arith, omega arith), refl),
    (
      ((((0, omega arith, refl), omega arith), (omega arith, refl)), refl),
      (
        ((omega arith, omega arith), refl),
        (
          ((refl, refl), refl),
          (
            ((((0, omega arith, refl), omega arith), tt), refl),
            (
              (scan-by pause 0 (By_variable 0 0 0 refl, refl, λ id e. absurd (cc), λ id e. absurd (cc), λ id e. absurd (cc)), refl),
              (
                (
                  scan-by (after pause due_scans) 1
                      (By_reference 0 0 1 (By_variable 0 0 0 refl) refl, refl, λ id e. absurd (cc), λ id e. absurd (cc), λ id e. absurd (cc)),
                  refl,
                ),
                tt,
              ),
            ),
          ),
        ),
      ),
    ),
  ),
)

pub legal-more : IsLegalHistory (opening limits) (whole (parts_scanning more_scans))
legal-more =
    IsLegalHistory-append (opening limits) so_far (event meeting Finish reply.Ok ∷ []) legal-so-far
    (((refl, finish-by (after (opening limits) so_far) (IsSound-history limits so_far in_range legal-so-far) refl refl), refl), tt)

-- the table before the finish, where only what is due is scanned
abbrev at_finish : Table
at_finish = after pause due_scans

legal-due : IsLegalHistory (opening limits) (take 7 so_far)
legal-due = IsLegalHistory-take (opening limits) 7 so_far legal-so-far

legal : IsLegalHistory (opening limits) (whole (parts_scanning due_scans))
legal =
    IsLegalHistory-append (opening limits) (take 7 so_far) (event meeting Finish reply.Ok ∷ []) legal-due (
      (
        (
          refl,
          CanFinish-scanned at_finish _ (IsSound-history limits (take 7 so_far) in_range legal-due) refl
              (λ o r. inl (subst (λ (q : ℕ). put_at (λ p. false) 0 true q ≡ true) (sym (reachable-zero at_finish refl refl refl o r)) refl)),
        ),
        refl,
      ),
      tt,
    )

pub belongs : Belongs script (parts_scanning due_scans) outcome
belongs = record {
  legal = legal;
  phases = (
    record {
      calls = one-mutator _ (
        take 1 linked,
        drop 1 linked,
        refl,
        refl,
        (
          take 1 (drop 1 linked),
          drop 2 linked,
          refl,
          refl,
          (
            take 1 (drop 2 linked),
            drop 3 linked,
            refl,
            refl,
            (drop 3 linked, [], refl, refl, refl),
          ),
        ),
      );
      scans = λ b is. absurd (omega (arith, is.0, is.1));
      numbers = numbers-by limits linked refl;
      roots = λ begins. absurd (cc);
      old = λ begins. absurd (cc);
      lists = refl;
      meet = (refl, refl);
    },
    (
      record {
        calls = one-mutator _ (emptied, [], refl, refl, refl);
        scans = λ b is. absurd (omega (arith, is.0, is.1));
        numbers = numbers-by limits emptied refl;
        roots = λ begins some. absurd (omega (arith, some));
        old = λ begins some. absurd (omega (arith, some));
        lists = refl;
        meet = (
          due_scans,
          refl,
          record {
            own = own-by meeting due_scans refl;
            scans =
                Turn _ _ _ _ _ (Begins 0 (fields_of 0) (Is_root 0 (inr (0, 0, refl))) (AreFieldsOf-three 0))
                (Turn _ _ _ _ _ (Passes _ _ 0 _ refl refl)
                (Turn _ _ _ _ _ (Stays _ _ _ _ (inl refl))
                (Turn _ _ _ _ _ (Passes _ _ 0 _ refl refl)
                (Turn _ _ _ _ _ (Stays _ _ _ _ (inl refl))
                (Turn _ _ _ _ _ (Passes _ _ 0 _ refl refl)
                (Make _ _ _ _ _ _ refl (Says 0)
                (Ends _ _)))))));
            complete = λ o due. subst (λ (q : ℕ). (put_at (λ p. false) 0 true q || false) ≡ true) (sym (due-zero at_finish _ refl refl refl refl refl o due)) refl;
          },
          record { kept = refl; freed = refl; moved = refl; segs = refl; trusted = refl; tfreed = refl; compaction = refl },
        );
      },
      (
        record {
          calls = one-mutator _ refl;
          scans = λ b is. absurd (omega (arith, is.0, is.1));
          numbers = numbers-by limits [] refl;
          roots = λ begins. absurd (cc);
          old = λ begins. absurd (cc);
          lists = refl;
          meet = refl;
        },
        tt,
      ),
    ),
  );
  totals = record { live = refl; trusted = refl; objects = refl; sum = refl; puts = refl };
}
