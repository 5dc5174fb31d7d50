-- With markers in a cycle, and without them, the work is whole.
use Rattle.std.proofs.Common.{◌≡◌, ◌≢◌, ◌⊎◌, ◌≤◌, ◌==◌, true, length, map, sym, ap, subst, ◌∙◌, inl, inr, arith}
use Rattle.std.proofs.lemmas.Bool.Decides.{nat_tests}
use Rattle.entry_base.specs.Histories.{IsPhaseHistory}
use Rattle.entry_base.specs.Openings.{phase_of}
use Rattle.entry_base.specs.Sessions.{opened_with, view}
use Rattle.phases.specs.declared.markers.Marking.{Marking}
use Rattle.phases.proofs.Marked.{MarkersWorked-marked}
use Rattle.phases.proofs.Working.{first_numbers, owed-few, owed-held, worked-alone, worked-marking}
use Rattle.phases.proofs.work.work.Goals.{else-in_cycle-via-then-in_cycle+else-limits-gt0, else-in_cycle-via-else-in_cycle}
use Rattle.phases.proofs.work.work.Goals as goal

pub make_markings-requires-clause-numbers : goal.make_markings-requires-clause-numbers
make_markings-requires-clause-numbers g c =
    let r = c.requires in (
      λ n from below. r.gave.rest n (first_numbers (opened_with c.args.shared.now) n (omega (arith, below))) (inr (let l = r.can.lists in let m = r.can.range.mutators.1 in omega (arith, l, m, from))),
      r.gave.number,
    )

pub make_markings-requires-clause-owed : goal.make_markings-requires-clause-owed
make_markings-requires-clause-owed g c = λ o.
    let h = owed-held (opened_with c.args.shared.now) (length c.args.calls.now) (view c.args.first.now) c.requires.gave c.args.owed.now c.requires.owed o in omega (arith, h)

pub make_markings-requires-clause-few : goal.make_markings-requires-clause-few
make_markings-requires-clause-few g c = owed-few (opened_with c.args.shared.now) c.requires.openable.small c.args.owed.now c.requires.owed

pub returns-in_ok-pool-clause-worked : goal.returns-in_ok-pool-clause-worked
returns-in_ok-pool-clause-worked g c =
    let r = c.requires in
    let key = opened_with c.args.shared.now in
    let w = c.work_marking-scans.ensures.worked in
    let last = c.work_marking-scans.ensures.caller.1 in
    let some : 1 ≤ c.args.limits.now.markers = let t = c.if-limits-gt0.true in omega (arith, t) in
    let marks = MarkersWorked-marked key (view c.args.first.now) r.gave.opening r.gave.seen c.args.shared.now c.in_ok-pool.pool c.args.owed.now c.args.limits.now.markers some c.in_ok-pool.markings.items w.marked
    c.in_ok-pool.ensures.ready c.in_ok-pool.ensures.given w.lists w.each w.once c.work_marking-scans.result w.counted in
    worked-marking c.args.limits.now key r.openable c.args.calls.now r.can c.args.owed.now r.owed c.args.shared.now (view c.args.first.now) r.gave c.args.workers.items r.given r.may.lists
    c.work_marking-scans.new.replies.items w.after w.all (view c.make_markings.new.first) (map (λ (m : Marking). view m.session) w.marked) c.work_marking-scans.result (view c.work_marking-scans.new.first) some
    c.in_ok-pool.ensures.dealt marks w.took (subst (λ k. IsPhaseHistory k (view c.work_marking-scans.new.first).seen) (sym last.opened) last.lawful)

pub returns-else-in_cycle-clause-worked : goal.returns-else-in_cycle-clause-worked
returns-else-in_cycle-clause-worked g c =
    let r = c.requires in
    let key = opened_with c.args.shared.now in
    let w = c.work_alone.ensures.worked in
    let last = c.work_alone.ensures.caller.1 in
    let idle : (c.args.limits.now.markers ≡ 0) ⊎ (phase_of key ≢ 1) = elim c.else-in_cycle.branch [
      | else-in_cycle-via-then-in_cycle+else-limits-gt0 b ↦ inl (let t = b.if-limits-gt0.false in omega (arith, t))
      | else-in_cycle-via-else-in_cycle b ↦ inr (λ is.
          let cycle : c.in_cycle.result ≡ (phase_of key == 1) = c.in_cycle.ensures ∙ ap (λ o. phase_of o == 1) r.gave.opening in
          absurd (let one : (phase_of key == 1) ≡ true = grind (arith, nat_tests) in let f = b.if-in_cycle.false in cc))
    ] in
    worked-alone c.args.limits.now key r.openable c.args.calls.now r.can c.args.owed.now r.owed c.args.shared.now (view c.args.first.now) r.gave c.args.workers.items r.given r.may.lists
    c.work_alone.new.replies.items w.after w.all (view c.work_alone.new.first) w.took (subst (λ k. IsPhaseHistory k (view c.work_alone.new.first).seen) (sym last.opened) last.lawful) idle
