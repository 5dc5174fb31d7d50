use Rattle.std.proofs.Common.{◌≡◌, ◌∙◌, Some, [], ◌∷◌, slice_index, refl, sym, ap, arith}
use Rattle.plain_table.specs.declared.events.Act.TheVariants.{Get}
use Rattle.plain_table.specs.declared.events.Spot.TheVariants.{Ref}
use Rattle.plain_table.specs.declared.scripts.Op.TheVariants as op
use Rattle.plain_table.specs.Shapes.{event}
use Rattle.mutator_calls.proofs.Fields.{WithObject-some}
use Rattle.mutator_calls.proofs.ObjectCalls.{IsReady-held, Makes-get}
use Rattle.mutator_calls.proofs.heap.Mutator.fetch.Goals as goal

pub returns-clause-makes : goal.returns-clause-makes
returns-clause-makes c = λ s h.
    let m = c.args.self.now in
    let object = c.in-Some.object in
    let there : s.vars 0 c.args.var ≡ Some object = sym (c.in-Some.ensures.tables s h) in
    let few = c.in-Some.ensures.few in
    let objects = ap (λ z. z.objects) h.shows.sizes in
    Makes-get m c.hold_word.new.self c.args.into c.reference_place.result c.requires.place.0 s h (Ref object c.args.k)
    ((c.args.var, c.requires.place.1, there), c.requires.place.2)
    (ap (slice_index m.image.words.items) c.reference_place.ensures ∙ h.shows.words.references object c.args.k (omega (arith, few, objects)) c.requires.place.2)
    c.hold_word.ensures.held (op.Fetch c.args.into c.args.var c.args.k) c.hold_word.result c.hold_word.ensures.said
    (λ r. WithObject-some (s.vars 0) c.args.var object r (event 0 (Get c.args.into (Ref object c.args.k)) r ∷ [])
    (λ o. event 0 (Get c.args.into (Ref object c.args.k)) r ∷ [] ≡ event 0 (Get c.args.into (Ref o c.args.k)) r ∷ []) there refl)

pub returns-clause-ready : goal.returns-clause-ready
returns-clause-ready c =
    let m = c.args.self.now in
    IsReady-held m c.hold_word.new.self c.args.into (slice_index m.image.words.items c.reference_place.result) c.hold_word.ensures.held
    (op.Fetch c.args.into c.args.var c.args.k) c.hold_word.result c.requires.ready (returns-clause-makes c)
