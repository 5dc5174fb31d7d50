use Rattle.std.proofs.Common.{ap, arith}
use Rattle.plain_table.specs.declared.events.Act.TheVariants as act
use Rattle.plain_table.specs.declared.reports.Reply.TheVariants as reply
use Rattle.plain_table.specs.Table.{limit_in}
use Rattle.entry_base.specs.Openings.{sizes_in}
use Rattle.entry_base.specs.Sessions.{view}
use Rattle.freelist_rule.specs.Freelists.{IsSpent}
use Rattle.space_steps.specs.declared.tickets.Taken.TheVariants as taken
use Rattle.space_steps.proofs.TakeTurns.{no_step, measure_falls, rank_rises, same_after, spent_or_not, spent_same, spent_stays, take_loads, takes_of-few, tries_few, turn_moves, turn_takes}
use Rattle.space_steps.proofs.takes.take.Goals as goal
use Rattle.space_steps.proofs.takes.take.Goals.{else-word-eq0-via-then-word-eq0+else-word-limit, else-word-eq0-via-else-word-eq0}

pub loop-word-init : goal.loop-word-init
loop-word-init g c =
    let r = c.load_freelist_for_take-word in
    let l = r.ensures.learned in
    let none = no_step (view c.args.s.now) in record {
      caller = r.ensures.caller;
      so_far = take_loads (view c.args.s.now) (view c.args.s.now) (view r.new.s) c.args.space (act.Take c.args.space) reply.Full
          (IsSpent (view c.args.s.now) c.args.space r.result) r.result c.args.steps.now c.args.steps.now
          c.requires.caller.1.own none.0 none.1 (omega arith) (spent_or_not (view c.args.s.now) c.args.space r.result) l.loaded l.full l.left;
    }

pub returns-then-word-limit-clause-called : goal.returns-then-word-limit-clause-called
returns-then-word-limit-clause-called g c =
    let limit = ap (λ o. limit_in (sizes_in o) c.args.space) c.requires.caller.1.opened in
    let l = c.limit.ensures.limit in
    let above = c.if-word-limit.true in
    let empty = c.if-word-eq0.true in
    (c.loop-word.invariant.so_far.over (omega (arith, empty), omega (arith, limit, l, above, empty))).0

pub returns-then-word-limit-clause-few : goal.returns-then-word-limit-clause-few
returns-then-word-limit-clause-few g c =
    let limit = ap (λ o. limit_in (sizes_in o) c.args.space) c.requires.caller.1.opened in
    let l = c.limit.ensures.limit in
    let above = c.if-word-limit.true in
    let empty = c.if-word-eq0.true in
    let called = (c.loop-word.invariant.so_far.over (omega (arith, empty), omega (arith, limit, l, above, empty))).0 in
    tries_few _ _ c.args.space (act.Take c.args.space) reply.Full _ _ (takes_of-few c.args.space taken.Full) called c.loop-word.invariant.so_far.bound

pub returns-in-Some-clause-called : goal.returns-in-Some-clause-called
returns-in-Some-clause-called g c =
    let limit = ap (λ o. limit_in (sizes_in o) c.args.space) c.requires.caller.1.opened in
    let i = c.loop-word.invariant.so_far in
    let left : IsSpent (view c.args.s.now) c.args.space c.loop-word.word → ⊥ = λ spent. elim c.else-word-eq0.branch [
      | else-word-eq0-via-then-word-eq0+else-word-limit w ↦ (let l = w.limit.ensures.limit in let below = w.if-word-limit.false in let above = spent.1 in omega (arith, limit, l, below, above))
      | else-word-eq0-via-else-word-eq0 w ↦ (let some = w.if-word-eq0.false in let empty = spent.0 in omega (arith, some, empty))
    ] in
    (turn_takes (view c.args.s.now) (view c.loop-word.s) (view c.advance.new.s) c.args.space (act.Take c.args.space) reply.Full c.loop-word.word c.args.steps.now c.loop-word.steps c.advance.new.steps
    c.requires.caller.1.own (i.on left) i.leaves i.bound c.in-Some.ticket c.in-Some.ensures.took c.in-Some.ensures.bound (takes_of-few c.args.space (taken.At c.in-Some.ticket))).0

pub returns-in-Some-clause-few : goal.returns-in-Some-clause-few
returns-in-Some-clause-few g c =
    let limit = ap (λ o. limit_in (sizes_in o) c.args.space) c.requires.caller.1.opened in
    let i = c.loop-word.invariant.so_far in
    let left : IsSpent (view c.args.s.now) c.args.space c.loop-word.word → ⊥ = λ spent. elim c.else-word-eq0.branch [
      | else-word-eq0-via-then-word-eq0+else-word-limit w ↦ (let l = w.limit.ensures.limit in let below = w.if-word-limit.false in let above = spent.1 in omega (arith, limit, l, below, above))
      | else-word-eq0-via-else-word-eq0 w ↦ (let some = w.if-word-eq0.false in let empty = spent.0 in omega (arith, some, empty))
    ] in
    (turn_takes (view c.args.s.now) (view c.loop-word.s) (view c.advance.new.s) c.args.space (act.Take c.args.space) reply.Full c.loop-word.word c.args.steps.now c.loop-word.steps c.advance.new.steps
    c.requires.caller.1.own (i.on left) i.leaves i.bound c.in-Some.ticket c.in-Some.ensures.took c.in-Some.ensures.bound (takes_of-few c.args.space (taken.At c.in-Some.ticket))).3

pub loop-word-smaller : goal.loop-word-smaller
loop-word-smaller g c =
    let r = c.load_freelist_for_take-word-in-loop-word in
    measure_falls c.loop-word.word r.result r.type_inv
    (rank_rises (view c.advance.new.s) (view r.new.s) c.args.space c.loop-word.word r.result (c.advance.ensures.moved c.in_default.is).risen r.ensures.learned.loaded)

pub loop-word-preserved : goal.loop-word-preserved
loop-word-preserved g c =
    let limit = ap (λ o. limit_in (sizes_in o) c.args.space) c.requires.caller.1.opened in
    let i = c.loop-word.invariant.so_far in
    let r = c.load_freelist_for_take-word-in-loop-word in
    let l = r.ensures.learned in
    let moved = c.advance.ensures.moved c.in_default.is in
    let left : IsSpent (view c.args.s.now) c.args.space c.loop-word.word → ⊥ = λ spent. elim c.else-word-eq0.branch [
      | else-word-eq0-via-then-word-eq0+else-word-limit w ↦ (let l = w.limit.ensures.limit in let below = w.if-word-limit.false in let above = spent.1 in omega (arith, limit, l, below, above))
      | else-word-eq0-via-else-word-eq0 w ↦ (let some = w.if-word-eq0.false in let empty = spent.0 in omega (arith, some, empty))
    ] in record {
      caller = r.ensures.caller;
      so_far = turn_moves (view c.args.s.now) (view c.loop-word.s) (view c.advance.new.s) c.args.space (act.Take c.args.space) reply.Full c.loop-word.word c.args.steps.now c.loop-word.steps c.advance.new.steps
          c.requires.caller.1.own (i.on left) i.leaves i.bound (IsSpent (view c.args.s.now) c.args.space r.result) r.result (view r.new.s) moved c.advance.ensures.bound
          (spent_or_not (view c.args.s.now) c.args.space r.result) l.loaded
          (λ spent. l.full (spent_stays (view c.args.s.now) (view c.advance.new.s) c.args.space r.result (same_after (i.on left) moved.called) spent))
          (λ more. l.left (λ spent. more (spent_same (view c.args.s.now) (view c.advance.new.s) c.args.space r.result (same_after (i.on left) moved.called) spent)));
    }
