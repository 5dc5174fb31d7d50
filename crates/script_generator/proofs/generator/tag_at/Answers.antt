use Rattle.std.proofs.Common.{◌<◌, ◌%◌, ap, length, arith, ◌∙◌, slice_index}
use Rattle.std.proofs.lemmas.List.{get_or_default}
use Rattle.script_generator.proofs.OldTags.{length-old_tags}
use Rattle.script_generator.proofs.generator.tag_at.Goals as goal

pub bounds-tags-number : goal.bounds-tags-number
bounds-tags-number c = omega (arith, ap length c.requires, length-old_tags)

pub returns : goal.returns
returns c =
    let at = c.args.number % 70 in
    let within : at < length c.args.tags.now = omega (arith, ap length c.requires, length-old_tags) in
    c.byte.ensures.value ∙ c.index-tags-number.is
    ∙ get_or_default c.args.tags.now at c.index-tags-number.result 0 within
    ∙ ap (λ tags. slice_index tags at) c.requires
