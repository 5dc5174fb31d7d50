use Rattle.plain_table.specs.declared.scripts.Op.TheVariants as op
use Rattle.plain_table.specs.declared.reports.Reply.TheVariants as reply
use Rattle.mutator_calls.proofs.Fields.{WithObject-none}
use Rattle.mutator_calls.proofs.Quiet.{Makes-nothing}
use Rattle.mutator_calls.proofs.Seen.{shown-as}
use Rattle.mutator_calls.proofs.FieldReads.{Makes-external_load}
use Rattle.mutator_calls.proofs.heap.Mutator.load.Goals as goal

pub returns-in-Some : goal.returns-in-Some
returns-in-Some c =
    let m = c.args.self.now in
    record {
      makes = λ s h. Makes-external_load m s h c.args.var c.args.f c.in-Some.object c.external_word.result c.requires.place.0 c.requires.place.1
          (c.in-Some.ensures.tables s h) (c.external_word.ensures s h) c.args.range.first c.args.range.last c.look_external.result
          (c.look_external.ensures s (shown-as m s h));
    }

pub returns-in-None : goal.returns-in-None
returns-in-None c = record {
  makes = λ s h. Makes-nothing c.args.self.now s h (op.Load c.args.var c.args.f c.args.range.first c.args.range.last) reply.Empty
      (WithObject-none (s.vars 0) c.args.var _ (c.in-None.ensures.tables s h));
}
