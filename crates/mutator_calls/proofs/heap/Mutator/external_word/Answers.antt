use Rattle.std.proofs.Common.{arith}
use Rattle.plain_table.specs.Shapes.{external_field}
use Rattle.mutator_calls.proofs.heap.Mutator.external_word.Goals as goal

pub field_word-requires-clause-field : goal.field_word-requires-clause-field
field_word-requires-clause-field c = (external_field c.args.object c.args.f, omega arith, c.external_place.ensures)
