-- The word is written at the place of the field.
use Rattle.std.proofs.Common.{◌≡◌, ◌∙◌, List, ℕ, ap, slice_set}
use Rattle.std.specs.Vec.{with_item}
use Rattle.plain_table.specs.Shapes.{external_field}
use Rattle.plain_table.specs.Words.{field_place}
use Rattle.plain_table.specs.declared.scripts.Op.TheVariants as op
use Rattle.plain_table.specs.declared.reports.Reply.TheVariants as reply
use Rattle.mutator_calls.proofs.Fields.{WithObject-none}
use Rattle.mutator_calls.proofs.Quiet.{Makes-nothing}
use Rattle.mutator_calls.proofs.Forged.{IsReady-forged, Makes-forge}
use Rattle.mutator_calls.proofs.heap.Mutator.forge.Goals as goal

words_are : (c : goal.After-self-1) → (with_item c.args.self.now.image.words c.external_place.result c.from.result).items
    ≡ slice_set c.args.self.now.image.words.items (field_place (external_field c.in-Some.object c.args.f)) c.args.word
words_are c =
    let words : List ℕ = c.args.self.now.image.words.items in
    ap (λ (place : ℕ). slice_set words place c.from.result) c.external_place.ensures
    ∙ ap (λ (w : ℕ). slice_set words (field_place (external_field c.in-Some.object c.args.f)) w) c.from.ensures

pub returns-in-Some-clause-ready : goal.returns-in-Some-clause-ready
returns-in-Some-clause-ready c =
    let m = c.args.self.now in
    IsReady-forged m (with_item m.image.words c.external_place.result c.from.result) c.args.var c.args.f c.in-Some.object c.args.word
    c.requires.place.0 c.requires.place.1 c.in-Some.ensures.few.0 c.ranges.word.fits (words_are c) c.in-Some.ensures.tables c.requires.ready

pub returns-in-Some-clause-makes : goal.returns-in-Some-clause-makes
returns-in-Some-clause-makes c = λ s h.
    let m = c.args.self.now in
    Makes-forge m (with_item m.image.words c.external_place.result c.from.result) c.args.var c.args.f c.in-Some.object c.args.word
    c.requires.place.0 c.requires.place.1 c.in-Some.ensures.few.0 c.ranges.word.fits (words_are c) s h (c.in-Some.ensures.tables s h)

pub returns-in-None-clause-makes : goal.returns-in-None-clause-makes
returns-in-None-clause-makes c = λ s h.
    Makes-nothing c.args.self.now s h (op.Forge c.args.var c.args.f c.args.word) reply.Empty (WithObject-none (s.vars 0) c.args.var _ (c.in-None.ensures.tables s h))
