use Rattle.std.proofs.Common.{subst, sym, ◌∙◌, arith}
use Rattle.entry_word.specs.Image.{sizes_of}
use Rattle.sweeper.proofs.UsedIndexes.{IsUsageOf, IsUsageOf-outside}
use Rattle.sweeper.proofs.usage.area_start.Goals as goal

pub overflow_add-segments : goal.overflow_add-segments
overflow_add-segments c =
    let u = subst (IsUsageOf c.requires.shown.0 (sizes_of c.args.shape)) (sym c.used_indexes-usage.ensures)
    (IsUsageOf-outside c.requires.shown.0 c.args.words.now (sizes_of c.args.shape) c.requires.shown.1) in
    let below = u.below in
    let one = c.requires.shape.seg in
    omega arith

pub decide-requires-clause-room : goal.decide-requires-clause-room
decide-requires-clause-room c =
    let u = subst (IsUsageOf c.requires.shown.0 (sizes_of c.args.shape)) (sym c.used_indexes-usage.ensures)
    (IsUsageOf-outside c.requires.shown.0 c.args.words.now (sizes_of c.args.shape) c.requires.shown.1) in
    omega (arith, u.within, u.few)

pub decide-requires-clause-used : goal.decide-requires-clause-used
decide-requires-clause-used c =
    let u = subst (IsUsageOf c.requires.shown.0 (sizes_of c.args.shape)) (sym c.used_indexes-usage.ensures)
    (IsUsageOf-outside c.requires.shown.0 c.args.words.now (sizes_of c.args.shape) c.requires.shown.1) in
    (u.some, u.fits)

pub returns : goal.returns
returns c = λ s h.
    let u = subst (IsUsageOf s (sizes_of c.args.shape)) (sym c.used_indexes-usage.ensures) (IsUsageOf-outside s c.args.words.now (sizes_of c.args.shape) h) in
    c.decide.ensures.rule ∙ u.area c.args.policy
