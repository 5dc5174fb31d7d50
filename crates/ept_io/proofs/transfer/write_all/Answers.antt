use Rattle.std.proofs.Common.{arith, ◌≡◌, ◌-◌, ◌+◌, ◌∙◌, ℕ, refl, rules, subst}
use native.Mathlib.Numerals.{unary_clauses}
use Rattle.ept_io.specs.Calls.InCalls.{none}
use Rattle.ept_io.proofs.Pieces.{Took-nil, took_more, one_more_write, rest-fits}
use Rattle.ept_io.proofs.transfer.write_all.Goals as goal

-- nothing is taken yet
pub loop-done-init : goal.loop-done-init
loop-done-init g c = record {
  within = search rules;
  appended = Took-nil _;
  writes = none;
  no_fault = refl;
  room = λ room has fits. simp unary_clauses has;
}

-- a write takes a front part of the bytes after `done`, and where there was room for all of them, there is room for
-- those after that part
pub loop-done-preserved : goal.loop-done-preserved
loop-done-preserved g c = record {
  within = omega (arith, c.in_ok-done.ensures.count);
  appended = took_more _ _ _ c.args.bytes.now c.loop-done.done c.in_ok-done.field-0
      c.loop-done.invariant.appended c.in_ok-done.ensures.bytes;
  writes = one_more_write g.K.Sink.takes _ _ _ c.args.bytes.now c.loop-done.done c.in_ok-done.field-0
      c.loop-done.invariant.writes c.in_ok-done.ensures.some c.in_ok-done.ensures.count c.in_ok-done.ensures.took;
  no_fault = c.in_ok-done.ensures.no_fault ∙ c.loop-done.invariant.no_fault;
  room = λ room has fits.
      let n = c.in_ok-done.field-0 in
      let before = c.loop-done.invariant.room room has fits in
      let rest = rest-fits c.args.bytes.now c.loop-done.done room fits in
      let after = c.in_ok-done.ensures.room (room - c.loop-done.done) before rest in
      let same : room - c.loop-done.done - n ≡ room - (c.loop-done.done + n) = omega arith in
      subst (λ (left : ℕ). g.K.Sink.has_room c.write.new.self left) same after.0;
}
