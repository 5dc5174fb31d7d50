-- Each worker makes the calls of its place.
use Rattle.std.proofs.Common.{[], slice_index_or, sym, subst, arith, rules}
use Rattle.phases.specs.declared.mutators.Worker.{Worker}
use Rattle.phases.specs.Workers.{HasCalled, MayCall}
use Rattle.phases.proofs.mutators.run_workers.Goals as goal

pub for_each_mut-requires-clause-accepts : goal.for_each_mut-requires-clause-accepts
for_each_mut-requires-clause-accepts g c κs within = λ i p low is.
    (((let l = c.requires.may.lists in omega arith), subst (MayCall c.args.shared.now (slice_index_or c.args.calls.now i [])) (sym is) (c.requires.may.each i p.now low)), search rules)

pub returns : goal.returns
returns g c = record {
  called = record {
    lists = search rules;
    each = λ i d low.
        let x = (c.for_each_mut.ensures i d low).1 in
        subst (λ (y : Worker). HasCalled c.args.shared.now (slice_index_or c.args.calls.now i []) (slice_index_or c.args.workers.now i d) y) x.left
        (subst (λ (z : Worker). HasCalled c.args.shared.now (slice_index_or c.args.calls.now i []) z x.after_call.now) x.argument_is x.call);
  };
}
