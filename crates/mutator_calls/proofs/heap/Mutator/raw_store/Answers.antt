use Rattle.std.proofs.Common.{subst, sym}
use Rattle.plain_table.specs.declared.reports.Reply.{Reply}
use Rattle.plain_table.specs.declared.scripts.Op.TheVariants as op
use Rattle.mutator_calls.specs.Calls.{MakesEach}
use Rattle.mutator_calls.proofs.Stores.{Makes-raw_store}
use Rattle.mutator_calls.proofs.heap.Mutator.raw_store.Goals as goal

pub returns-clause-makes : goal.returns-clause-makes
returns-clause-makes c =
    let m = c.args.self.now in
    subst (λ (said : Reply). MakesEach m c.exchange.new.self (op.RawSet c.args.word c.args.range.first c.args.range.last c.args.value) said) (sym c.stored.ensures)
    (λ s h. Makes-raw_store m c.exchange.new.self s c.args.word c.args.range.first c.args.range.last c.args.value c.exchange.result c.requires.small (c.exchange.ensures.tables s h))
