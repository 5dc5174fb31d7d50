use Rattle.std.proofs.Common.{slice_index, ap, ◌∙◌}
use Rattle.plain_table.specs.declared.events.Field.TheVariants as field
use Rattle.mutator_calls.proofs.Fields.{field_word-shown}
use Rattle.mutator_calls.proofs.heap.Mutator.trusted_word.Goals as goal

pub field_word-requires-clause-field : goal.field_word-requires-clause-field
field_word-requires-clause-field c = (field.Trusted c.args.object, c.requires.object.0, c.trusted_place.ensures)

pub returns : goal.returns
returns c =
    let m = c.args.self.now in
    λ s h.
    c.field_word.ensures ∙ ap (slice_index m.image.words.items) c.trusted_place.ensures ∙ field_word-shown m s h (field.Trusted c.args.object) c.requires.object.0
