use Rattle.std.proofs.Common.{refl}
use Rattle.plain_table.specs.declared.events.Space.TheVariants.{Trusted}
use Rattle.plain_table.specs.declared.scripts.Op.TheVariants as op
use Rattle.mutator_calls.proofs.Seen.{shown-as}
use Rattle.mutator_calls.proofs.Quiet.{Makes-look}
use Rattle.mutator_calls.proofs.heap.Mutator.traw.Goals as goal

pub returns : goal.returns
returns c =
    let m = c.args.self.now in
    record {
      makes = λ s h. Makes-look m s h (op.TRaw c.args.word c.args.range.first c.args.range.last) c.look_trusted.result Trusted c.args.word
          c.args.range.first c.args.range.last (c.look_trusted.ensures s (shown-as m s h)) refl;
    }
