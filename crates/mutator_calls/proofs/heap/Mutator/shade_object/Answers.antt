use Rattle.std.proofs.Common.{◌≡◌, ◌+◌, ◌≤◌, ℕ, List, length, slice_index, refl, sym, subst, ◌∙◌, inl, inr}
use Rattle.std.specs.Vec.{with_items}
use Rattle.std.proofs.lemmas.Bool.Decides.{eqb_tells}
use Rattle.std.proofs.lemmas.List.{with_items_is}
use Rattle.plain_table.specs.Words.{phase_place}
use Rattle.sweeper.specs.Shading.{Shades, names, white_in}
use Rattle.mutator_calls.proofs.LinkCalls.{shade-room}
use Rattle.mutator_calls.proofs.heap.Mutator.shade_object.Goals as goal

pub shade-self-requires-clause-room : goal.shade-self-requires-clause-room
shade-self-requires-clause-room c =
    let m = c.args.self.now in
    subst (λ (xs : List ℕ). m.owed + white_in c.deref_mut.result.now (length xs) ≤ length xs) (sym c.deref_mut-then-in_cycle.ensures.value)
    (subst (λ (ws : List ℕ). m.owed + white_in ws (length m.list.items) ≤ length m.list.items) (sym c.deref_mut.ensures.value) (shade-room m c.requires.ready))

pub returns-then-in_cycle : goal.returns-then-in_cycle
returns-then-in_cycle c =
    let m = c.args.self.now in
    let words = c.shade-self.new.words in
    let list = c.shade-self.new.list in
    let end = c.shade-self.result in
    let word = c.args.word in
    let one : slice_index m.image.words.items phase_place ≡ 1 = elim (eqb_tells (slice_index m.image.words.items phase_place) 1) [
      | inl e ↦ e.1
      | inr e ↦ absurd (cc (c.in_cycle.ensures.phase, c.if-in_cycle.true, e.0))
    ] in
    let words_is : (with_items m.image.words words).items ≡ words = with_items_is m.image.words words (c.shade-self.auto.words ∙ c.deref_mut.ensures.len) in
    let list_is : (with_items m.list list).items ≡ list = with_items_is m.list list (c.shade-self.auto.list ∙ c.deref_mut-then-in_cycle.ensures.len) in
    let from_words = subst (λ ws. Shades ws words c.deref_mut-then-in_cycle.result.now list m.owed end (names word)) c.deref_mut.ensures.value c.shade-self.ensures in
    let from_list = subst (λ xs. Shades m.image.words.items words xs list m.owed end (names word)) c.deref_mut-then-in_cycle.ensures.value from_words in
    let to_words = subst (λ ws. Shades m.image.words.items ws m.list.items list m.owed end (names word)) (sym words_is) from_list in
    record {
      variables = refl;
      pending = refl;
      shape = refl;
      area = refl;
      outside = λ none. absurd (none one);
      inside = λ under_way. subst (λ xs. Shades m.image.words.items (with_items m.image.words words).items m.list.items xs m.owed end (names word)) (sym list_is) to_words;
    }
