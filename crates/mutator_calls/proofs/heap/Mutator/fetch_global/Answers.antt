use Rattle.std.proofs.Common.{◌∙◌, slice_index, refl, ap}
use Rattle.plain_table.specs.declared.events.Spot.TheVariants.{Global}
use Rattle.plain_table.specs.declared.scripts.Op.TheVariants as op
use Rattle.mutator_calls.proofs.ObjectCalls.{IsReady-held, Makes-get}
use Rattle.mutator_calls.proofs.heap.Mutator.fetch_global.Goals as goal

pub returns-clause-makes : goal.returns-clause-makes
returns-clause-makes c = λ s h.
    let m = c.args.self.now in
    Makes-get m c.hold_word.new.self c.args.into c.global_place.result c.requires.place.0 s h (Global c.args.g) c.requires.place.1
    (ap (slice_index m.image.words.items) c.global_place.ensures ∙ h.shows.words.globals c.args.g c.requires.place.1)
    c.hold_word.ensures.held (op.GetG c.args.into c.args.g) c.hold_word.result c.hold_word.ensures.said (λ r. refl)

pub returns-clause-ready : goal.returns-clause-ready
returns-clause-ready c =
    let m = c.args.self.now in
    IsReady-held m c.hold_word.new.self c.args.into (slice_index m.image.words.items c.global_place.result) c.hold_word.ensures.held
    (op.GetG c.args.into c.args.g) c.hold_word.result c.requires.ready (returns-clause-makes c)
