use Rattle.std.proofs.Common.{◌+◌, ◌≤◌, inl, inr, arith}
use Rattle.plain_table.specs.declared.events.Act.TheVariants as act
use Rattle.plain_table.specs.declared.events.Space.TheVariants.{External}
use Rattle.plain_table.specs.declared.reports.Reply.TheVariants as reply
use Rattle.entry_base.specs.Ranks.{takes_in}
use Rattle.entry_base.specs.Sessions.{view}
use Rattle.freelist_rule.specs.Freelists.{IsOutOfRoom}
use Rattle.space_steps.specs.declared.tickets.Taken.TheVariants as taken
use Rattle.space_steps.proofs.TakeTurns.{no_step, measure_falls, rank_rises, room_or_not, take_loads, takes_of-below, tries_few, turn_moves, turn_takes}
use Rattle.space_steps.proofs.takes.below.Goals as goal
use Rattle.space_steps.proofs.takes.below.Goals.{then-word-eq0-via-then-word-eq0, then-word-eq0-via-else-word-eq0+then-start-word}

pub loop-word-init : goal.loop-word-init
loop-word-init g c =
    let r = c.load_freelist_for_below-word in
    let l = r.ensures.learned in
    let none = no_step (view c.args.s.now) in record {
      caller = r.ensures.caller;
      full = λ out. (l.full out).1;
      so_far = take_loads (view c.args.s.now) (view c.args.s.now) (view r.new.s) External (act.Below c.args.start) reply.NoRoom
          (IsOutOfRoom c.args.start r.result) r.result c.args.steps.now c.args.steps.now
          c.requires.caller.1.own none.0 none.1 (omega arith) (room_or_not c.args.start r.result) l.loaded (λ out. (l.full out).0) l.left;
    }

pub returns-then-word-eq0-clause-called : goal.returns-then-word-eq0-clause-called
returns-then-word-eq0-clause-called g c =
    (c.loop-word.invariant.so_far.over (elim c.then-word-eq0.branch [
      | then-word-eq0-via-then-word-eq0 w ↦ inl (let empty = w.if-word-eq0.true in omega (arith, empty))
      | then-word-eq0-via-else-word-eq0+then-start-word w ↦ inr (let above = w.if-start-word.true in omega (arith, above))
    ])).0

pub returns-then-word-eq0-clause-few : goal.returns-then-word-eq0-clause-few
returns-then-word-eq0-clause-few g c =
    let called =
    (c.loop-word.invariant.so_far.over (elim c.then-word-eq0.branch [
      | then-word-eq0-via-then-word-eq0 w ↦ inl (let empty = w.if-word-eq0.true in omega (arith, empty))
      | then-word-eq0-via-else-word-eq0+then-start-word w ↦ inr (let above = w.if-start-word.true in omega (arith, above))
    ])).0 in
    tries_few _ _ External (act.Below c.args.start) reply.NoRoom _ _ (takes_of-below c.args.start taken.NoRoom) called c.loop-word.invariant.so_far.bound

pub returns-in-Some-clause-called : goal.returns-in-Some-clause-called
returns-in-Some-clause-called g c =
    let i = c.loop-word.invariant.so_far in
    let left : IsOutOfRoom c.args.start c.loop-word.word → ⊥ = λ out. (let some = c.if-word-eq0.false in let below = c.if-start-word.false in elim out [
      | inl empty ↦ omega (arith, some, empty)
      | inr above ↦ omega (arith, below, above)
    ]) in
    let bound : c.try_below.new.steps + takes_in External (view c.loop-word.s).seen ≤ c.loop-word.steps + takes_in External (view c.try_below.new.s).seen = (let one = c.try_below.ensures.ticked in let more = c.try_below.ensures.more in omega (arith, one, more)) in
    (turn_takes (view c.args.s.now) (view c.loop-word.s) (view c.try_below.new.s) External (act.Below c.args.start) reply.NoRoom c.loop-word.word c.args.steps.now c.loop-word.steps c.try_below.new.steps
    c.requires.caller.1.own (i.on left) i.leaves i.bound c.in-Some.ticket c.in-Some.ensures.took.1 bound (takes_of-below c.args.start (taken.At c.in-Some.ticket))).0

pub returns-in-Some-clause-few : goal.returns-in-Some-clause-few
returns-in-Some-clause-few g c =
    let i = c.loop-word.invariant.so_far in
    let left : IsOutOfRoom c.args.start c.loop-word.word → ⊥ = λ out. (let some = c.if-word-eq0.false in let below = c.if-start-word.false in elim out [
      | inl empty ↦ omega (arith, some, empty)
      | inr above ↦ omega (arith, below, above)
    ]) in
    let bound : c.try_below.new.steps + takes_in External (view c.loop-word.s).seen ≤ c.loop-word.steps + takes_in External (view c.try_below.new.s).seen = (let one = c.try_below.ensures.ticked in let more = c.try_below.ensures.more in omega (arith, one, more)) in
    (turn_takes (view c.args.s.now) (view c.loop-word.s) (view c.try_below.new.s) External (act.Below c.args.start) reply.NoRoom c.loop-word.word c.args.steps.now c.loop-word.steps c.try_below.new.steps
    c.requires.caller.1.own (i.on left) i.leaves i.bound c.in-Some.ticket c.in-Some.ensures.took.1 bound (takes_of-below c.args.start (taken.At c.in-Some.ticket))).3

pub loop-word-smaller : goal.loop-word-smaller
loop-word-smaller g c =
    let r = c.load_freelist_for_below-word-in-loop-word in
    measure_falls c.loop-word.word r.result r.type_inv
    (rank_rises (view c.try_below.new.s) (view r.new.s) External c.loop-word.word r.result (c.try_below.ensures.moved c.in_default.is).risen r.ensures.learned.loaded)

pub loop-word-preserved : goal.loop-word-preserved
loop-word-preserved g c =
    let i = c.loop-word.invariant.so_far in
    let r = c.load_freelist_for_below-word-in-loop-word in
    let l = r.ensures.learned in
    let left : IsOutOfRoom c.args.start c.loop-word.word → ⊥ = λ out. (let some = c.if-word-eq0.false in let below = c.if-start-word.false in elim out [
      | inl empty ↦ omega (arith, some, empty)
      | inr above ↦ omega (arith, below, above)
    ]) in
    let bound : c.try_below.new.steps + takes_in External (view c.loop-word.s).seen ≤ c.loop-word.steps + takes_in External (view c.try_below.new.s).seen = (let one = c.try_below.ensures.ticked in let more = c.try_below.ensures.more in omega (arith, one, more)) in record {
      caller = r.ensures.caller;
      full = λ out. (l.full out).1;
      so_far = turn_moves (view c.args.s.now) (view c.loop-word.s) (view c.try_below.new.s) External (act.Below c.args.start) reply.NoRoom c.loop-word.word c.args.steps.now c.loop-word.steps c.try_below.new.steps
          c.requires.caller.1.own (i.on left) i.leaves i.bound (IsOutOfRoom c.args.start r.result) r.result (view r.new.s) (c.try_below.ensures.moved c.in_default.is) bound
          (room_or_not c.args.start r.result) l.loaded (λ out. (l.full out).0) l.left;
    }
