use Rattle.std.proofs.Common.{subst, sym}
use Rattle.plain_table.specs.declared.reports.Reply.{Reply}
use Rattle.plain_table.specs.declared.scripts.Op.TheVariants as op
use Rattle.mutator_calls.specs.Calls.{MakesEach}
use Rattle.plain_table.specs.declared.reports.Reply.TheVariants as reply
use Rattle.mutator_calls.proofs.Fields.{WithObject-none}
use Rattle.mutator_calls.proofs.Quiet.{Makes-nothing}
use Rattle.mutator_calls.proofs.Stores.{Makes-store}
use Rattle.mutator_calls.proofs.heap.Mutator.store.Goals as goal

pub returns-in-Some-clause-makes : goal.returns-in-Some-clause-makes
returns-in-Some-clause-makes c =
    let m = c.args.self.now in
    subst (λ (said : Reply). MakesEach m c.exchange.new.self (op.Store c.args.var c.args.f c.args.range.first c.args.range.last c.args.value) said) (sym c.stored.ensures)
    (λ s h. Makes-store m c.exchange.new.self s c.external_word-word.result c.args.range.first c.args.range.last c.args.value c.exchange.result c.requires.small (c.exchange.ensures.tables s h)
    c.args.var c.args.f c.in-Some.object c.requires.place.0 c.requires.place.1 (c.in-Some.ensures.tables s h) (c.external_word-word.ensures s h))

pub returns-in-None-clause-makes : goal.returns-in-None-clause-makes
returns-in-None-clause-makes c = λ s h.
    Makes-nothing c.args.self.now s h (op.Store c.args.var c.args.f c.args.range.first c.args.range.last c.args.value) reply.Empty (WithObject-none (s.vars 0) c.args.var _ (c.in-None.ensures.tables s h))
