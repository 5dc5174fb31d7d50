use Rattle.std.proofs.Common.{◌≡◌, ◌∙◌, ap, length, arith}
use Rattle.code_steps.specs.Seats.{view}
use Rattle.code_steps.specs.Views.{giver}
use Rattle.code_run.proofs.Fresh.{quiet_open, quiet_giver, fresh_newcomer}
use Rattle.code_run.proofs.Finish.{ran}
use Rattle.code_run.proofs.run.run_codes.Goals as goal

pub run_four-first-requires-clause-fresh_writers : goal.run_four-first-requires-clause-fresh_writers
run_four-first-requires-clause-fresh_writers g c =
    let q0 = quiet_open (view c.args.s.now) c.requires.open c.requires.caller.0.1.shown in
    let q1 = quiet_giver (view c.args.s.now) (view c.split-first.new.self) c.split-first.ensures.left q0 in
    λ κs live. (fresh_newcomer (view c.args.s.now) (view c.split-first.result) c.split-first.ensures.right q0, fresh_newcomer (view c.split-first.new.self) (view c.split-second.result) c.split-second.ensures.right q1)

pub run_four-first-requires-clause-fresh_readers : goal.run_four-first-requires-clause-fresh_readers
run_four-first-requires-clause-fresh_readers g c =
    let q0 = quiet_open (view c.args.s.now) c.requires.open c.requires.caller.0.1.shown in
    let q1 = quiet_giver (view c.args.s.now) (view c.split-first.new.self) c.split-first.ensures.left q0 in
    let q2 = quiet_giver (view c.split-first.new.self) (view c.split-second.new.self) c.split-second.ensures.left q1 in
    let q3 = quiet_giver (view c.split-second.new.self) (view c.split-third.new.self) c.split-third.ensures.left q2 in
    λ κs live. (fresh_newcomer (view c.split-second.new.self) (view c.split-third.result) c.split-third.ensures.right q2, fresh_newcomer (view c.split-third.new.self) (view c.split-fourth.result) c.split-fourth.ensures.right q3)

pub returns-clause-ran : goal.returns-clause-ran
returns-clause-ran g c =
    let old = view c.args.s.now in
    let open_seat = c.requires.open in
    let q0 = quiet_open (view c.args.s.now) c.requires.open c.requires.caller.0.1.shown in
    let q1 = quiet_giver (view c.args.s.now) (view c.split-first.new.self) c.split-first.ensures.left q0 in
    let q2 = quiet_giver (view c.split-first.new.self) (view c.split-second.new.self) c.split-second.ensures.left q1 in
    let q3 = quiet_giver (view c.split-second.new.self) (view c.split-third.new.self) c.split-third.ensures.left q2 in
    let is_s : view c.split-fourth.new.self ≡ giver (giver (giver (giver (view c.args.s.now)))) =
    c.split-fourth.ensures.left ∙ ap giver (c.split-third.ensures.left ∙ ap giver (c.split-second.ensures.left ∙ ap giver c.split-first.ensures.left)) in
    let wrote = c.run_four-first.ensures.wrote in
    let read = c.run_four-first.ensures.read in
    let fa = fresh_newcomer (view c.args.s.now) (view c.split-first.result) c.split-first.ensures.right q0 in
    let fb = fresh_newcomer (view c.split-first.new.self) (view c.split-second.result) c.split-second.ensures.right q1 in
    let fc = fresh_newcomer (view c.split-second.new.self) (view c.split-third.result) c.split-third.ensures.right q2 in
    let fd = fresh_newcomer (view c.split-third.new.self) (view c.split-fourth.result) c.split-fourth.ensures.right q3 in
    let words : c.args.table.now.table.shared.table_id.words ≡ 12 = let a = c.requires.caller.0.1.sized in let b = ap length open_seat.seen in omega arith in
    ran (view c.args.s.now) (view c.split-fourth.new.self)
    (view c.run_four-first.result.0.0.0) (view c.run_four-first.result.0.1.0) (view c.run_four-first.result.1.0.0) (view c.run_four-first.result.1.1.0)
    (view c.join.new.self) (view c.join-2.new.self) (view c.join-3.new.self) (view c.join-4.new.self)
    (view c.split-first.result) (view c.split-second.result) (view c.split-third.result) (view c.split-fourth.result)
    c.args.n c.run_four-first.result.0.0.1 c.run_four-first.result.0.1.1 c.run_four-first.result.1.0.1 c.run_four-first.result.1.1.1
    c.requires.n.1 open_seat is_s wrote.one wrote.two read.one read.two
    (fa.parts, fb.parts, fc.parts, fd.parts) fc.start fd.start
    c.join.ensures.joined c.join-2.ensures.joined c.join-3.ensures.joined c.join-4.ensures.joined
    c.join.ensures.seen c.join-2.ensures.seen c.join-3.ensures.seen c.join-4.ensures.seen
    (let a = c.split-fourth.ensures.callers.0.0.1.sized in let b = c.split-fourth.ensures.callers.0.0.1.shown in omega arith)
    (let a = wrote.callers.0.0.1.sized in let b = wrote.callers.0.0.1.shown in omega arith)
    (let a = wrote.callers.1.0.1.sized in let b = wrote.callers.1.0.1.shown in omega arith)
    (let a = read.callers.0.0.1.sized in let b = read.callers.0.0.1.shown in omega arith)
    (let a = read.callers.1.0.1.sized in let b = read.callers.1.0.1.shown in omega arith)
    (let a = c.join.ensures.caller.0.1.sized in let b = c.join.ensures.caller.0.1.shown in omega arith)
    (let a = c.join-2.ensures.caller.0.1.sized in let b = c.join-2.ensures.caller.0.1.shown in omega arith)
    (let a = c.join-3.ensures.caller.0.1.sized in let b = c.join-3.ensures.caller.0.1.shown in omega arith)
    (let a = c.join-4.ensures.caller.0.1.sized in omega arith)
    (let a = read.callers.0.0.1.sized in omega arith)
    (let a = read.callers.1.0.1.sized in omega arith)
    c.join-4.ensures.whole c.join-4.ensures.own
    _ (omega arith) (omega arith) (omega arith) (omega arith) (omega arith)
