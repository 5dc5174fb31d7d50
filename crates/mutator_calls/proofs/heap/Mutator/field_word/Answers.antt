-- The word of a field has 32 bits.
use Rattle.std.proofs.Common.{◌≡◌, ◌∙◌, ◌<◌, ◌^◌, ℕ, length, slice_index, ap, sym, subst}
use Rattle.std.proofs.lemmas.List.{get_or_read}
use Rattle.mutator_calls.proofs.Fields.{field_place-within, field_word-few}
use Rattle.mutator_calls.proofs.heap.Mutator.field_word.Goals as goal

pub overflow_cast-result : goal.overflow_cast-result
overflow_cast-result c =
    let m = c.args.self.now in
    let field = c.requires.field in
    let within : c.args.place < length m.image.words.items =
    subst (λ (at : ℕ). at < length m.image.words.items) (sym field.2) (field_place-within m c.requires.ready field.0 field.1) in
    let read : c.index.result.now ≡ slice_index m.image.words.items c.args.place = get_or_read m.image.words.items _ _ within c.index.ensures 0 in
    record { fits = subst (λ (w : ℕ). w < 2 ^ 32) (sym (read ∙ ap (slice_index m.image.words.items) field.2)) (field_word-few m c.requires.ready field.0 field.1) }
