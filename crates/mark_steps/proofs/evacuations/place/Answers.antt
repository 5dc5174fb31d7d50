use Rattle.std.proofs.Common.{[], ◌∷◌, ◌<◌, ◌++◌, refl, sym, subst}
use Rattle.plain_table.specs.declared.events.Act.TheVariants as act
use Rattle.plain_table.specs.declared.reports.Reply.TheVariants as reply
use Rattle.entry_base.specs.Callers.{event_of}
use Rattle.entry_base.specs.Sessions.{view}
use Rattle.call_base.specs.Called.{Called}
use Rattle.call_base.proofs.CallsInOrder.{called_extends}
use Rattle.mark_steps.proofs.SeenWords.{lawful_after}
use Rattle.mark_steps.proofs.evacuations.place.Goals as goal

pub returns-in-At-clause-placed : goal.returns-in-At-clause-placed
returns-in-At-clause-placed g c =
    let b = c.in-At.ensures in
    let e = c.evacuate_step.ensures.learned in
    let called = subst (λ i. Called (view c.args.s.now) (event_of (view c.args.s.now) (act.Below c.args.start) (reply.Index i) ∷ []) (view c.below.new.s)) (sym c.index-index.ensures) b.called in (
      record {
        mid = view c.below.new.s;
        before = called;
        then_one = called_extends _ _ _ refl b.caller.1.own e.same e.extends;
        lawful = lawful_after _ _ _ _ called b.caller.1;
        ends = ((view c.below.new.s).seen ++ e.extends.between, e.extends.seen);
      },
      subst (λ i. i < c.args.start) (sym c.index-index.ensures) (b.below c.in-At.ticket refl),
      e.knows,
    )
