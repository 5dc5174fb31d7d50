use Rattle.std.proofs.Common.{ap, arith}
use Rattle.entry_base.specs.Openings.{sizes_in}
use Rattle.entry_base.specs.Sessions.{view}
use Rattle.graph_steps.proofs.NewCalls.{full_at, made_full, made_new, new_at, tried_more}
use Rattle.graph_steps.proofs.objects.new_object.Goals as goal

pub returns-then-count-shared-clause-made : goal.returns-then-count-shared-clause-made
returns-then-count-shared-clause-made c =
    let i = c.loop-var.invariant in
    let l = c.load_count_for_new-count.ensures.learned in
    let limit = ap (λ o. (sizes_in o).objects) i.caller.1.opened in
    let made = c.args.shared.now.made.1 in
    let most = c.if-count-shared.true in
    let low = l.loaded.low in
    made_full (view c.args.s.now) (view c.loop-var.s) (view c.load_count_for_new-count.new.s) c.args.var c.loop-var.least c.load_count_for_new-count.result i.caller.1.own i.tried l (omega (arith, limit, made, most, low))

pub returns-then-count-shared-clause-full : goal.returns-then-count-shared-clause-full
returns-then-count-shared-clause-full c =
    let i = c.loop-var.invariant in
    let l = c.load_count_for_new-count.ensures.learned in
    let limit = ap (λ o. (sizes_in o).objects) i.caller.1.opened in
    let made = c.args.shared.now.made.1 in
    let most = c.if-count-shared.true in
    let low = l.loaded.low in
    full_at (view c.args.s.now) (view c.loop-var.s) (view c.load_count_for_new-count.new.s) c.args.var c.loop-var.least c.load_count_for_new-count.result i.caller.1.own i.tried l (omega (arith, limit, made, most, low))

pub returns-then-found-count-clause-made : goal.returns-then-found-count-clause-made
returns-then-found-count-clause-made c =
    let i = c.loop-var.invariant in
    let l = c.load_count_for_new-count.ensures in
    let limit = ap (λ o. (sizes_in o).objects) i.caller.1.opened in
    let made = c.args.shared.now.made.1 in
    let less = c.if-count-shared.false in
    let won = c.if-found-count.true in
    made_new (view c.args.s.now) (view c.loop-var.s) (view c.load_count_for_new-count.new.s) c.args.var c.loop-var.least c.load_count_for_new-count.result i.caller.1.own i.tried l.learned
    (view c.new_step-found.new.s) c.new_step-found.result (omega (arith, limit, made, less)) l.caller.1.own c.new_step-found.ensures.learned (omega (arith, won)) c.requires.variable c.requires.mutator c.args.s.now.tied.many

pub returns-then-found-count-clause-full : goal.returns-then-found-count-clause-full
returns-then-found-count-clause-full c =
    let i = c.loop-var.invariant in
    let l = c.load_count_for_new-count.ensures in
    let limit = ap (λ o. (sizes_in o).objects) i.caller.1.opened in
    let made = c.args.shared.now.made.1 in
    let less = c.if-count-shared.false in
    let won = c.if-found-count.true in
    new_at (view c.args.s.now) (view c.loop-var.s) (view c.load_count_for_new-count.new.s) c.args.var c.loop-var.least c.load_count_for_new-count.result i.caller.1.own i.tried l.learned
    (view c.new_step-found.new.s) c.new_step-found.result (omega (arith, limit, made, less)) l.caller.1.own c.new_step-found.ensures.learned (omega (arith, won))

pub loop-var-preserved : goal.loop-var-preserved
loop-var-preserved c =
    let i = c.loop-var.invariant in
    let l = c.load_count_for_new-count.ensures in
    let limit = ap (λ o. (sizes_in o).objects) i.caller.1.opened in
    let made = c.args.shared.now.made.1 in
    let less = c.if-count-shared.false in
    let missed = c.if-found-count.false in
    record {
      caller = c.new_step-found.ensures.caller;
      tried = tried_more (view c.args.s.now) (view c.loop-var.s) (view c.load_count_for_new-count.new.s) c.args.var c.loop-var.least c.load_count_for_new-count.result i.caller.1.own i.tried l.learned
          (view c.new_step-found.new.s) c.new_step-found.result (omega (arith, limit, made, less)) l.caller.1.own c.new_step-found.ensures.learned (λ same. omega (arith, same, missed));
    }
