use Rattle.std.proofs.Common.{ℕ, List, ap, ◌∙◌, inr, arith, slice_index}
use Rattle.plain_table.specs.declared.events.Space.TheVariants.{External}
use Rattle.plain_table.specs.Index.{word_of}
use Rattle.entry_word.specs.Image.{sizes_of}
use Rattle.mutator_calls.specs.Inits.{bound_by, bound_said, filled_by}
use Rattle.mutator_calls.proofs.Fills.{filled_by-field, index-within}
use Rattle.mutator_calls.proofs.inits.fill.Goals as goal

pub put-requires-clause-within : goal.put-requires-clause-within
put-requires-clause-within c =
    index-within (sizes_of c.args.shape) External c.args.words.now c.take.new.words c.in-Some.index c.requires.shown.0 c.requires.shown.1 c.in-Some.ensures

pub bind-requires-clause-few : goal.bind-requires-clause-few
bind-requires-clause-few c =
    let sizes = sizes_of c.args.shape in
    let put = c.put.ensures.words ∙ ap (filled_by sizes External c.in-Some.index c.args.tag c.args.value) c.abort_above.ensures in
    let found = ap (λ (ws : List ℕ). slice_index ws c.args.place) put
    ∙ filled_by-field sizes c.in-Some.index c.args.tag c.args.value c.args.words.now c.take.new.words c.args.place _ c.in-Some.ensures c.requires.within.0 c.requires.within.1 in
    omega (arith, found, c.requires.few)

pub bind-requires-clause-index : goal.bind-requires-clause-index
bind-requires-clause-index c =
    let within = index-within (sizes_of c.args.shape) External c.args.words.now c.take.new.words c.in-Some.index c.requires.shown.0 c.requires.shown.1 c.in-Some.ensures in
    omega (arith, within, c.requires.shape.ext.1)

pub returns : goal.returns
returns c =
    let sizes = sizes_of c.args.shape in
    let put = c.put.ensures.words ∙ ap (filled_by sizes External c.in-Some.index c.args.tag c.args.value) c.abort_above.ensures in
    let found = ap (λ (ws : List ℕ). slice_index ws c.args.place) put
    ∙ filled_by-field sizes c.in-Some.index c.args.tag c.args.value c.args.words.now c.take.new.words c.args.place _ c.in-Some.ensures c.requires.within.0 c.requires.within.1 in
    inr (record {
      index = c.in-Some.index;
      taken = c.take.new.words;
      takes = c.in-Some.ensures;
      words = c.bind.ensures.words ∙ ap (bound_by c.args.place (word_of c.in-Some.index)) put;
      reply = c.bind.ensures.reply ∙ ap bound_said found;
      is_tag = c.put.ensures.tag;
    })
