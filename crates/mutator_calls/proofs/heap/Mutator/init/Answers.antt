use Rattle.std.proofs.Common.{◌≡◌, ◌∙◌, ◌^◌, ◌<◌, ℕ, List, slice_index, sym, subst}
use Rattle.std.specs.Global.{Vec}
use Rattle.std.specs.Vec.{with_items}
use Rattle.std.proofs.lemmas.List.{with_items_is}
use Rattle.plain_table.specs.declared.scripts.Op.TheVariants as op
use Rattle.plain_table.specs.Shapes.{external_field}
use Rattle.plain_table.specs.Words.{field_place}
use Rattle.entry_word.specs.Image.{sizes_of}
use Rattle.mutator_calls.specs.Calls.{MakesEach}
use Rattle.mutator_calls.specs.Inits.{Fills}
use Rattle.mutator_calls.proofs.Fields.{field_word-few, field_word-shown, object_of-external_field}
use Rattle.mutator_calls.proofs.Fills.{KeepsHeaders-fills}
use Rattle.mutator_calls.proofs.InitCalls.{Makes-init}
use Rattle.mutator_calls.proofs.ValidShapes.{AreSmall-valid}
use Rattle.mutator_calls.proofs.Written.{IsReady-parts, with_parts}
use Rattle.mutator_calls.proofs.heap.Mutator.init.Goals as goal

pub fill-requires-clause-few : goal.fill-requires-clause-few
fill-requires-clause-few c =
    let m = c.args.self.now in
    let o = c.in-Some.object in
    let few = subst (λ (n : ℕ). n < m.image.shape.objects) (sym (object_of-external_field o c.args.f c.requires.place.1)) c.in-Some.ensures.few.0 in
    subst (λ (ws : List ℕ). slice_index ws c.external_place-place.result < 2 ^ 32) (sym c.deref_mut.ensures.value)
    (subst (λ (place : ℕ). slice_index m.image.words.items place < 2 ^ 32) (sym c.external_place-place.ensures)
    (field_word-few m c.requires.ready (external_field o c.args.f) few))

-- the words that the mutator has after it
abbrev made : goal.After-self-1 → Vec ℕ
made c = with_items c.args.self.now.image.words c.fill.new.words

made-is : (c : goal.After-self-1) → (made c).items ≡ c.fill.new.words
made-is c = with_items_is c.args.self.now.image.words c.fill.new.words (c.fill.auto.words ∙ c.deref_mut.ensures.len)

fills : (c : goal.After-self-1) →
    Fills c.args.self.now.image.words.items (made c).items (sizes_of c.args.self.now.image.shape) (field_place (external_field c.in-Some.object c.args.f)) c.args.tag c.args.value c.fill.result
fills c =
    let m = c.args.self.now in
    let sizes = sizes_of m.image.shape in
    subst (λ (ws : List ℕ). Fills m.image.words.items ws sizes (field_place (external_field c.in-Some.object c.args.f)) c.args.tag c.args.value c.fill.result) (sym (made-is c))
    (subst (λ (place : ℕ). Fills m.image.words.items c.fill.new.words sizes place c.args.tag c.args.value c.fill.result) c.external_place-place.ensures
    (subst (λ (ws : List ℕ). Fills ws c.fill.new.words sizes c.external_place-place.result c.args.tag c.args.value c.fill.result) c.deref_mut.ensures.value c.fill.ensures))

makes : (c : goal.After-self-1) →
    MakesEach c.args.self.now (with_parts c.args.self.now (made c) c.args.self.now.image.pending) (op.Init c.args.var c.args.f c.args.tag c.args.value) c.fill.result
makes c s h =
    let m = c.args.self.now in
    let o = c.in-Some.object in
    let few = subst (λ (n : ℕ). n < m.image.shape.objects) (sym (object_of-external_field o c.args.f c.requires.place.1)) c.in-Some.ensures.few.0 in
    Makes-init m (AreSmall-valid m.image.shape c.requires.ready.shape) s h c.args.var c.args.f o c.args.tag c.args.value c.requires.place.0 c.requires.place.1
    (c.in-Some.ensures.tables s h) c.requires.small c.fill.result (made c) (sym (field_word-shown m s h (external_field o c.args.f) few)) (fills c)

pub returns-clause-ready : goal.returns-clause-ready
returns-clause-ready c =
    let m = c.args.self.now in
    let keeps = KeepsHeaders-fills (sizes_of m.image.shape) (external_field c.in-Some.object c.args.f) c.args.tag c.args.value c.fill.result m.image.words.items (made c).items (fills c) in
    IsReady-parts m (made c) m.image.pending keeps (op.Init c.args.var c.args.f c.args.tag c.args.value) c.fill.result c.requires.ready (makes c)

pub returns-clause-makes : goal.returns-clause-makes
returns-clause-makes c = makes c
