-- By any history by which the outcome of two compactions belongs, the second sweep moves one cell. Whatever the pauses do, the
-- second field's word names index 4 up to the second finish, which has to keep its cell, and so to move it, since the area
-- begins there and the compaction is not aborted; and no cell stands above it.
use Rattle.std.proofs.Common.{◌≡◌, ◌≢◌, ℕ, ◌+◌, ◌≤◌, inl, inr, Bool, true, false, Option, Some, None, List, [], ◌∷◌, ◌++◌, refl, sym, ap, subst, ◌∙◌, arith}
use Rattle.std.specs.Prelude.{if◌then◌else◌, is_some, IsSome}
use Rattle.std.specs.Option.{option_map, option_map_or}
use Rattle.std.proofs.lemmas.Bool.Decides.{nat_tests}
use Rattle.std.proofs.lemmas.Option.{same_Some}
use Rattle.plain_table.specs.declared.scripts.Meet.{Meet}
use Rattle.plain_table.specs.declared.scripts.Meet.TheVariants as meet
use Rattle.plain_table.specs.declared.scripts.Op.{Op}
use Rattle.plain_table.specs.declared.scripts.Op.TheVariants as op
use Rattle.plain_table.specs.declared.scripts.Policy.TheVariants.{Always}
use Rattle.plain_table.specs.declared.events.Event.{Event}
use Rattle.plain_table.specs.declared.events.Cell.{Cell}
use Rattle.plain_table.specs.declared.events.Space.{Space}
use Rattle.plain_table.specs.declared.events.Space.TheVariants.{External}
use Rattle.plain_table.specs.declared.events.Field.{Field}
use Rattle.plain_table.specs.declared.events.Field.TheVariants as field
use Rattle.plain_table.specs.declared.events.Act.TheVariants.{New}
use Rattle.plain_table.specs.declared.reports.Compaction.TheVariants.{Done, Aborted}
use Rattle.plain_table.specs.declared.reports.SweepReport.{SweepReport}
use Rattle.plain_table.specs.declared.reports.MeetReport.{MeetReport}
use Rattle.plain_table.specs.declared.reports.MeetReport.TheVariants as report
use Rattle.plain_table.specs.declared.reports.Reply.{Reply}
use Rattle.plain_table.specs.declared.reports.Reply.TheVariants as reply
use Rattle.plain_table.specs.Index.{index_of, word_of}
use Rattle.plain_table.specs.Reachable.{By_variable}
use Rattle.plain_table.specs.Cycle.{Cycle, is_from, start_in, moves_from}
use Rattle.plain_table.specs.Table.{Table, opening, limit_in, limit_of}
use Rattle.plain_table.specs.Finish.{CanFinish, started as started_at, finished, id_at, place, swept, target}
use Rattle.plain_table.specs.Rows.{finished_in}
use Rattle.plain_table.specs.History.{IsLegalHistory, after}
use Rattle.plain_table.specs.Shapes.{MakesCalls, event, with_ticket}
use Rattle.plain_table.specs.Scans.{IsReadAtMeet, Rest}
use Rattle.plain_table.specs.Sweeps.{IsSweep, MayScanAtMeet, MeetBelongs, compaction_by, linked_after, meeting}
use Rattle.plain_table.specs.Sound.{IsSound, CycleSound}
use Rattle.plain_table.specs.Belongs.{Part, PhaseBelongs, events_of, whole}
use Rattle.plain_table.proofs.CallsMade.{after-append}
use Rattle.plain_table.proofs.CycleParts.{CycleSound-is}
use Rattle.plain_table.proofs.FreeLists.{count_below-less, count_below-none}
use Rattle.plain_table.proofs.Options.{IsSome-none, IsSome-value, None-if_not_some, IsSomeAnd-is, IsSomeAnd-some}
use Rattle.table_laws.proofs.FinishMoves.{place-is, swept-from, target-is, target-outside}
use Rattle.table_laws.proofs.Soundness.{events-sound}
use Rattle.table_laws.proofs.SoundHistories.{IsSound-after}
use Rattle.worked_outcomes.specs.Compactions.{limits, init, filled, started, finish}
use Rattle.worked_outcomes.specs.WorkedLaws.{OtherMovesDoNotBelong}
use Rattle.worked_outcomes.proofs.CompactionProof.{in_range}
use Rattle.worked_outcomes.proofs.Objects.{IsSound-history}
use Rattle.table_laws.proofs.PauseActs.{pause-scans}
use Rattle.table_laws.proofs.PauseKeeps.{IsCalm, calm-after, calm-start}
use Rattle.worked_outcomes.proofs.ForcedCalls.{legal-parts, events-mine, none-forced, new-forced, init-forced}

-- the calls of the first phase, and their replies
abbrev filling : List Op
filling = op.New 0 ∷ op.Init 0 0 0x0f 5 ∷ op.Init 0 0 0x0f 6 ∷ op.Init 0 0 0x0f 7 ∷ op.Init 0 1 0x17 8 ∷ []

abbrev replies : List Reply
replies = reply.Obj 0 ∷ reply.Ok ∷ reply.Taken (word_of 1) ∷ reply.Taken (word_of 1) ∷ reply.Ok ∷ []

-- they have no choice
filled-forced : (es : List Event) → MakesCalls 0 None ((opening limits).vars 0) (with_ticket None) filling replies es →
    IsLegalHistory (opening limits) es → es ≡ filled
filled-forced es made legal =
    let z = none-forced (opening limits) ((opening limits).vars 0) (with_ticket None) filling replies es made legal in
    let a = new-forced 0 (reply.Obj 0) z in
    let b = init-forced 0 1 0x0f 5 reply.Ok a refl (λ e. absurd (cc)) refl in
    let c = init-forced 0 2 0x0f 6 (reply.Taken (word_of 1)) b refl (λ e. absurd (cc)) refl in
    let d = init-forced 0 3 0x0f 7 (reply.Taken (word_of 1)) c refl (λ e. absurd (cc)) refl in
    let f = init-forced 1 4 0x17 8 reply.Ok d refl (λ e. absurd (cc)) refl in
    let last : d.later ≡ init 1 4 0x17 8 reply.Ok = f.is ∙ ap (λ (x : List Event). init 1 4 0x17 8 reply.Ok ++ x) f.made in
    let third : c.later ≡ init 0 3 0x0f 7 (reply.Taken (word_of 1)) ++ init 1 4 0x17 8 reply.Ok =
    d.is ∙ ap (λ (x : List Event). init 0 3 0x0f 7 (reply.Taken (word_of 1)) ++ x) last in
    let second : b.later ≡ init 0 2 0x0f 6 (reply.Taken (word_of 1)) ++ init 0 3 0x0f 7 (reply.Taken (word_of 1)) ++ init 1 4 0x17 8 reply.Ok =
    c.is ∙ ap (λ (x : List Event). init 0 2 0x0f 6 (reply.Taken (word_of 1)) ++ x) third in
    z.is ∙ a.is ∙ ap (λ (x : List Event). event 0 (New 0) (reply.Obj 0) ∷ x) (b.is ∙ ap (λ (x : List Event). init 0 1 0x0f 5 reply.Ok ++ x) second)

-- the second field of the first object has its cell at index 4, and there is none above
record IsReady (s : Table) : Type 0 where
  sizes : s.sizes ≡ (opening limits).sizes
  word : s.words (field.External 1) ≡ word_of 4
  bound : s.bound (field.External 1) ≡ Some 3
  held : s.vars 0 0 ≡ Some 0
  few : (i : ℕ) → 5 ≤ i → s.cells External i ≡ None

ready-keeps : (s t : Table) → IsReady s → IsCalm s t → IsReady t
ready-keeps s t h k = record {
  sizes = k.sizes ∙ h.sizes;
  word = ap (λ (words : Field → ℕ). words (field.External 1)) k.words ∙ h.word;
  bound = ap (λ (bound : Field → Option ℕ). bound (field.External 1)) k.bound ∙ h.bound;
  held = ap (λ (vars : ℕ → ℕ → Option ℕ). vars 0 0) k.vars ∙ h.held;
  few = λ i above. ap (λ (cells : Space → ℕ → Option Cell). cells External i) k.cells ∙ h.few i above;
}

if_same : {A : Type 0} (test : Bool) (x : A) → (if test then x else x) ≡ x
if_same true x = refl
if_same false x = refl

ready-finish : (s : Table) (c : Cycle) → IsReady s → c.aborted ≡ true → IsReady (finished s c)
ready-finish s c h aborted =
    let moves : moves_from c ≡ None = ap (λ (b : Bool). if b then None else c.start) aborted in
    let none : target c s.words (index_of (s.words (field.External 1))) ≡ None =
    target-outside c s.words (index_of (s.words (field.External 1))) (ap (λ (o : Option ℕ). is_from o (index_of (s.words (field.External 1)))) moves) in
    record {
      sizes = h.sizes;
      word =
          ap (λ (o : Option ℕ). if c.visited 1 then option_map_or word_of o (s.words (field.External 1)) else s.words (field.External 1)) none
          ∙ if_same (c.visited 1) (s.words (field.External 1)) ∙ h.word;
      bound = h.bound;
      held = h.held;
      few = λ i above. None-if_not_some (swept s c External i) (λ some.
          let cell = IsSome-value (swept s c External i) some in
          let came = swept-from s c External i cell.0 cell.1 in
          let none : s.cells External i ≡ None = h.few i above in
          elim (place-is c s.words External came.index i came.place_is) [
            | inl stays ↦
                let there : s.cells External i ≡ Some cell.0 = subst (λ (k : ℕ). s.cells External k ≡ Some cell.0) stays.same came.cell_is in
                absurd (cc)
            | inr to ↦ let area = (target-is c s.words came.index i to.to).moves in absurd (cc)
          ]);
    }

aborted-by : (start : Option ℕ) (aborted : Bool) → Aborted ≡ compaction_by start aborted → aborted ≡ true
aborted-by None aborted e = absurd (cc)
aborted-by (Some start) true e = refl
aborted-by (Some start) false e = absurd (cc)

done-by : (start : Option ℕ) (aborted : Bool) → Done ≡ compaction_by start aborted → aborted ≡ false
done-by None aborted e = absurd (cc)
done-by (Some start) true e = absurd (cc)
done-by (Some start) false e = refl

-- a pause and its finish, in the table that the pause leaves
record Met (s : Table) (events : List Event) (sweep : SweepReport) : Type 0 where
  scans : List Event
  is : events ≡ scans ++ finish ∷ []
  calm : IsCalm s (after s scans)
  cycle : Cycle
  at : (after s scans).cycle ≡ Some cycle
  sweeps : IsSweep (after s scans) cycle (finished (after s scans) cycle) sweep

met-by : (linked : List ℕ) (s : Table) (events : List Event) (sweep : SweepReport) → MeetBelongs linked s meet.Finish events (report.Swept sweep) → Met s events sweep
met-by linked s events sweep h =
    let t = after s h.0 in
    let found = IsSome-value t.cycle (IsSomeAnd-some t.cycle (λ c. IsSweep t c (finished t c) sweep) h.3) in
    record {
      scans = h.0;
      is = h.1;
      calm = calm-after h.0 s (pause-scans IsReadAtMeet meeting (MayScanAtMeet linked) Rest s h.0 Rest h.2.scans h.2.own);
      cycle = found.0;
      at = found.1;
      sweeps = IsSomeAnd-is t.cycle (λ c. IsSweep t c (finished t c) sweep) found.0 found.1 h.3;
    }

-- after an abort the cell stays where it is
ready-aborted : (s : Table) (events : List Event) (sweep : SweepReport) → IsReady s → sweep.compaction ≡ Aborted → Met s events sweep → IsReady (after s events)
ready-aborted s events sweep h aborted met =
    let t = after s met.scans in
    let there : after s events ≡ finished t met.cycle =
    ap (after s) met.is ∙ after-append s met.scans (finish ∷ []) ∙ ap (finished_in t) met.at in
    subst IsReady (sym there)
    (ready-finish t met.cycle (ready-keeps s t h met.calm) (aborted-by met.cycle.start met.cycle.aborted (sym aborted ∙ met.sweeps.compaction)))

-- no other index has a target, since no cell stands above index 4
moves-no_other : (t : Table) (c : Cycle) → IsReady t → CycleSound t c → moves_from c ≡ Some 4 → (i : ℕ) → 4 ≢ i → IsSome (target c t.words i) → ⊥
moves-no_other t c r k moves i other some =
    let found = IsSome-value (target c t.words i) some in
    let is = target-is c t.words i found.0 found.1 in
    let same : is.start ≡ 4 = same_Some is.start 4 (sym is.moves ∙ moves) in
    let above : is.start ≤ i = is.above in
    let none : id_at t External i ≡ None = ap (option_map (λ (cell : Cell). cell.id)) (r.few i (omega (arith, other))) in
    IsSome-none (id_at t External i) none (k.marks.cells External i is.marked)

-- a compaction that is done moves it, and no other
moves-done : (s : Table) (events : List Event) (sweep : SweepReport) → IsSound s → IsReady s → start_in s.cycle ≡ Some 4 → sweep.compaction ≡ Done →
    IsLegalHistory s events → Met s events sweep → sweep.moved ≡ 1
moves-done s events sweep sound h start done legal met =
    let t = after s met.scans in
    let c = met.cycle in
    let r : IsReady t = ready-keeps s t h met.calm in
    let parts = legal-parts s met.scans (finish ∷ []) (subst (IsLegalHistory s) met.is legal) in
    let k : CycleSound t c = CycleSound-is t c (IsSound-after events-sound met.scans s sound parts.0) met.at in
    let begins : c.start ≡ Some 4 = sym (ap start_in met.at) ∙ calm-start s t met.calm ∙ start in
    let aborted : c.aborted ≡ false = done-by c.start c.aborted (sym done ∙ met.sweeps.compaction) in
    let moves : moves_from c ≡ Some 4 = ap (λ (b : Bool). if b then None else c.start) aborted ∙ begins in
    let from : is_from (moves_from c) 4 ≡ true = ap (λ (o : Option ℕ). is_from o 4) moves in
    let can : CanFinish t c = IsSomeAnd-is t.cycle (CanFinish t) c met.at parts.1.0.0.1 in
    let kept = (can.kept (field.External 1) 3 r.bound (By_variable 0 0 0 r.held)).1 in
    let placed : IsSome (place c t.words External 4) = subst (λ (w : ℕ). IsSome (place c t.words External (index_of w))) r.word kept in
    let moved : IsSome (target c t.words 4) =
    subst (λ (b : Bool). IsSome (if b then target c t.words 4 else (if c.marks External 4 then Some 4 else None))) from placed in
    let within : limit_of t External ≡ 8 = ap (λ z. limit_in z External) r.sizes in
    let less = count_below-less (λ i. is_some (target c t.words i)) (λ i. false) (limit_of t External) 4 (omega (arith, within)) moved refl
    (λ i other. sym (ap is_some (None-if_not_some (target c t.words i) (moves-no_other t c r k moves i other)))) in
    let none = count_below-none (λ i. false) (limit_of t External) (λ i below. refl) in
    met.sweeps.moved ∙ less ∙ ap (λ (n : ℕ). n + 1) none

-- a phase without a call is its meet
record Quiet (linked : List ℕ) (s : Table) (m : Meet) (part : Part) (r : MeetReport) : Type 0 where
  is : events_of part ≡ part.meet
  met : MeetBelongs linked s m part.meet r

quiet-by : (begins : Bool) (linked : List ℕ) (s : Table) (m : Meet) (part : Part) (r : MeetReport) →
    PhaseBelongs limits begins linked s (record { calls = [] ∷ []; meet = m }) part (record { replies = [] ∷ []; meet = r }) → Quiet linked s m part r
quiet-by begins linked s m part r h =
    let none : part.during ≡ [] = sym (events-mine limits part.during refl refl h.numbers) ∙ h.calls 0 (omega arith) in
    record {
      is = ap (λ (es : List Event). es ++ part.meet) none;
      met = subst (λ (es : List Event). MeetBelongs (linked_after s linked es) (after s es) m part.meet r) none h.meet;
    }

-- the table at the first pause
abbrev first_pause : Table
first_pause = after (opening limits) (filled ++ started)

ready-first : IsReady first_pause
ready-first = record { sizes = refl; word = refl; bound = refl; held = refl; few = λ i above. grind (arith, nat_tests) }

ready-started : (s : Table) → IsReady s → IsReady (started_at s Always)
ready-started s h = record { sizes = h.sizes; word = h.word; bound = h.bound; held = h.held; few = h.few }

-- it is reached by any history
ready-filled : (part : Part) → IsLegalHistory (opening limits) (events_of part) →
    PhaseBelongs limits false [] (opening limits) (record { calls = filling ∷ []; meet = meet.Start Always }) part
    (record { replies = replies ∷ []; meet = report.Started (Some 4) }) → IsReady (after (opening limits) (events_of part))
ready-filled part legal h =
    let made : MakesCalls 0 None ((opening limits).vars 0) (with_ticket None) filling replies part.during =
    subst (MakesCalls 0 None ((opening limits).vars 0) (with_ticket None) filling replies) (events-mine limits part.during refl refl h.numbers) (h.calls 0 (omega arith)) in
    let same : part.during ≡ filled = filled-forced part.during made (legal-parts (opening limits) part.during part.meet legal).0 in
    subst (λ (es : List Event). IsReady (after (opening limits) (es ++ part.meet))) (sym same)
    (subst (λ (es : List Event). IsReady (after (opening limits) (filled ++ es))) (sym h.meet.0) ready-first)

pub one-move : OtherMovesDoNotBelong
one-move moved [] h = absurd h.phases
one-move moved (p1 ∷ []) h = absurd h.phases.1
one-move moved (p1 ∷ p2 ∷ []) h = absurd h.phases.1.1
one-move moved (p1 ∷ p2 ∷ p3 ∷ []) h = absurd h.phases.1.1.1
one-move moved (p1 ∷ p2 ∷ p3 ∷ p4 ∷ more) h =
    let s1 = after (opening limits) (events_of p1) in
    let s2 = after s1 (events_of p2) in
    let s3 = after s2 (events_of p3) in
    let l1 = legal-parts (opening limits) (events_of p1) (whole (p2 ∷ p3 ∷ p4 ∷ more)) h.legal in
    let l2 = legal-parts s1 (events_of p2) (whole (p3 ∷ p4 ∷ more)) l1.1 in
    let l3 = legal-parts s2 (events_of p3) (whole (p4 ∷ more)) l2.1 in
    let l4 = legal-parts s3 (events_of p4) (whole more) l3.1 in
    let sound1 : IsSound s1 = IsSound-history limits (events_of p1) in_range l1.0 in
    let sound2 : IsSound s2 = IsSound-after events-sound (events_of p2) s1 sound1 l2.0 in
    let sound3 : IsSound s3 = IsSound-after events-sound (events_of p3) s2 sound2 l3.0 in
    let r1 : IsReady s1 = ready-filled p1 l1.0 h.phases.0 in
    let q2 = quiet-by _ _ s1 meet.Finish p2 _ h.phases.1.0 in
    let m2 = met-by _ s1 p2.meet _ q2.met in
    let r2 : IsReady s2 = subst (λ (es : List Event). IsReady (after s1 es)) (sym q2.is) (ready-aborted s1 p2.meet _ r1 refl m2) in
    let q3 = quiet-by _ _ s2 (meet.Start Always) p3 _ h.phases.1.1.0 in
    let starts : events_of p3 ≡ started = q3.is ∙ q3.met.0 in
    let r3 : IsReady s3 = subst (λ (es : List Event). IsReady (after s2 es)) (sym starts) (ready-started s2 r2) in
    let start : start_in s3.cycle ≡ Some 4 =
    subst (λ (es : List Event). start_in (after s2 es).cycle ≡ Some 4) (sym starts) (sym q3.met.1) in
    let q4 = quiet-by _ _ s3 meet.Finish p4 _ h.phases.1.1.1.0 in
    moves-done s3 p4.meet _ sound3 r3 start refl (subst (IsLegalHistory s3) q4.is l4.0) (met-by _ s3 p4.meet _ q4.met)
