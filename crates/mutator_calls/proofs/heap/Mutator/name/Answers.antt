use Rattle.plain_table.specs.declared.scripts.Op.TheVariants as op
use Rattle.plain_table.specs.declared.reports.Reply.TheVariants as reply
use Rattle.mutator_calls.proofs.Fields.{WithObject-none}
use Rattle.mutator_calls.proofs.Quiet.{Makes-nothing}
use Rattle.mutator_calls.proofs.FieldReads.{Makes-external_name}
use Rattle.mutator_calls.proofs.heap.Mutator.name.Goals as goal

pub returns-in-Some : goal.returns-in-Some
returns-in-Some c = record {
  makes = λ s h. Makes-external_name c.args.self.now s h c.args.var c.args.f c.in-Some.object c.external_word.result c.requires.place.0 c.requires.place.1
      (c.in-Some.ensures.tables s h) (c.external_word.ensures s h);
}

pub returns-in-None : goal.returns-in-None
returns-in-None c = record {
  makes = λ s h. Makes-nothing c.args.self.now s h (op.Name c.args.var c.args.f) reply.Empty
      (WithObject-none (s.vars 0) c.args.var _ (c.in-None.ensures.tables s h));
}
