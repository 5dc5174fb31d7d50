use Rattle.std.proofs.Common.{refl}
use Rattle.plain_table.specs.declared.events.Space.TheVariants.{External}
use Rattle.plain_table.specs.declared.scripts.Op.TheVariants as op
use Rattle.mutator_calls.proofs.Seen.{shown-as}
use Rattle.mutator_calls.proofs.Quiet.{Makes-look}
use Rattle.mutator_calls.proofs.heap.Mutator.raw_load.Goals as goal

pub returns : goal.returns
returns c =
    let m = c.args.self.now in
    record {
      makes = λ s h. Makes-look m s h (op.Raw c.args.word c.args.range.first c.args.range.last) c.look_external.result External c.args.word
          c.args.range.first c.args.range.last (c.look_external.ensures s (shown-as m s h)) refl;
    }
