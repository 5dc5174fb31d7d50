use Rattle.std.proofs.Common.{◌≡◌, ◌+◌, ◌<◌, ℕ, List, length, slice_set, sym, ap, subst, ◌∙◌, arith}
use Rattle.std.specs.Vec.{with_item, with_items}
use Rattle.std.proofs.lemmas.List.{with_items_is}
use Rattle.plain_table.specs.declared.events.Field.TheVariants as field
use Rattle.plain_table.specs.declared.events.Space.TheVariants.{Trusted}
use Rattle.plain_table.specs.declared.scripts.Op.TheVariants as op
use Rattle.plain_table.specs.declared.reports.Reply.TheVariants as reply
use Rattle.plain_table.specs.Index.{index_of}
use Rattle.plain_table.specs.Words.{entry_place, field_place}
use Rattle.plain_table.proofs.WordPlaces.{entry_place-from}
use Rattle.entry_word.specs.Image.{image_of, sizes_of}
use Rattle.mutator_calls.specs.declared.heap.Mutator.{Mutator}
use Rattle.mutator_calls.specs.Calls.{Makes, Sees}
use Rattle.mutator_calls.specs.Marks.{marked_in_cycle}
use Rattle.mutator_calls.proofs.Commits.{entry_place-first}
use Rattle.mutator_calls.proofs.Marks.{entry_place-within}
use Rattle.mutator_calls.proofs.Written.{IsReady-parts, KeepsHeaders, KeepsHeaders-trans, with_parts}
use Rattle.mutator_calls.proofs.Shares.{KeepsHeaders-field, KeepsHeaders-marked, Makes-null, Makes-share_ok, Makes-share_taken, shared-cell}
use Rattle.mutator_calls.proofs.heap.Mutator.share.Goals as goal

pub returns-then-word-eq0-clause-makes : goal.returns-then-word-eq0-clause-makes
returns-then-word-eq0-clause-makes c =
    λ s h.
    Makes-null c.args.self.now s h c.args.from c.in-Some.source c.requires.place.0 (sym (c.in-Some.ensures.tables s h))
    c.args.to c.in-Some-held.target (sym (c.in-Some-held.ensures.tables s h)) (sym (c.trusted_word-word.ensures s h) ∙ c.if-word-eq0.true)

pub mark_in_cycle-requires : goal.mark_in_cycle-requires
mark_in_cycle-requires c =
    let m = c.args.self.now in
    let lawful = c.requires.ready.lawful in
    let s = lawful.0 in
    let h : Sees (image_of m.image) s = record { sound = lawful.1; shows = lawful.2; covered = lawful.3 } in
    let word = c.trusted_word-word.ensures s h in
    let cell = shared-cell (image_of m.image) s h c.args.from c.in-Some.source (sym (c.in-Some.ensures.tables s h)) (λ e. c.if-word-eq0.false (word ∙ e)) in
    let index : index_of (s.words (field.Trusted c.in-Some.source)) ≡ c.index_of.result = sym (c.index_of.ensures.index ∙ ap index_of word) in
    let within : entry_place (sizes_of m.image.shape) Trusted c.index_of.result < length m.image.words.items =
    subst (λ i. entry_place (sizes_of m.image.shape) Trusted i < length m.image.words.items) index
    (entry_place-within m s h Trusted (index_of (s.words (field.Trusted c.in-Some.source))) cell.0 cell.1) in
    let at = entry_place-first (sizes_of m.image.shape) Trusted c.index_of.result in
    let from = entry_place-from (sizes_of m.image.shape) Trusted c.index_of.result in
    let long : length c.deref_mut.result.now ≡ length m.image.words.items = ap (λ (ws : List ℕ). length ws) c.deref_mut.ensures.value in
    let first = c.first_entry.ensures in
    (omega (arith, within, from, long), omega (arith, within, at, first, long))

-- the words after the mark
marked_is : (m : Mutator) (first index : ℕ) (lent now : List ℕ) → lent ≡ m.image.words.items → length now ≡ m.image.words.len →
    now ≡ marked_in_cycle lent (first + index) → first ≡ entry_place (sizes_of m.image.shape) Trusted 0 →
    (with_items m.image.words now).items ≡ marked_in_cycle m.image.words.items (entry_place (sizes_of m.image.shape) Trusted index)
marked_is m first index lent now value long is place =
    with_items_is m.image.words now long ∙ is ∙ ap (λ ws. marked_in_cycle ws (first + index)) value
    ∙ ap (marked_in_cycle m.image.words.items) (ap (λ n. n + index) place ∙ entry_place-first (sizes_of m.image.shape) Trusted index)

pub returns-then-found-ne0-clause-makes : goal.returns-then-found-ne0-clause-makes
returns-then-found-ne0-clause-makes c =
    let m = c.args.self.now in
    let now = c.mark_in_cycle.new.words in
    let marked = marked_is m c.first_entry.result c.index_of.result c.deref_mut.result.now now c.deref_mut.ensures.value
    (c.mark_in_cycle.auto.words ∙ c.deref_mut.ensures.len) c.mark_in_cycle.ensures c.first_entry.ensures in
    λ s h.
    let word = c.trusted_word-word.ensures s h in
    let found = c.trusted_word-found.ensures s h in
    let index : c.index_of.result ≡ index_of (s.words (field.Trusted c.in-Some.source)) = c.index_of.ensures.index ∙ ap index_of word in
    subst (λ v. Makes m (with_parts m (with_items m.image.words now) m.image.pending) s (op.Share c.args.from c.args.to) (reply.Taken v)) (sym found)
    (Makes-share_taken m s h c.args.from c.in-Some.source c.requires.place.0 (sym (c.in-Some.ensures.tables s h)) (λ e. c.if-word-eq0.false (word ∙ e))
    c.args.to c.in-Some-held.target c.requires.place.1 (sym (c.in-Some-held.ensures.tables s h)) (with_items m.image.words now)
    (marked ∙ ap (λ i. marked_in_cycle m.image.words.items (entry_place (sizes_of m.image.shape) Trusted i)) index)
    (λ e. c.if-found-ne0.true (found ∙ e)))

pub returns-then-found-ne0-clause-ready : goal.returns-then-found-ne0-clause-ready
returns-then-found-ne0-clause-ready c =
    let m = c.args.self.now in
    let now = c.mark_in_cycle.new.words in
    let marked = marked_is m c.first_entry.result c.index_of.result c.deref_mut.result.now now c.deref_mut.ensures.value
    (c.mark_in_cycle.auto.words ∙ c.deref_mut.ensures.len) c.mark_in_cycle.ensures c.first_entry.ensures in
    IsReady-parts m (with_items m.image.words now) m.image.pending
    (subst (KeepsHeaders m.image.shape.objects m.image.words.items) (sym marked) (KeepsHeaders-marked (sizes_of m.image.shape) m.image.words.items c.index_of.result))
    (op.Share c.args.from c.args.to) (reply.Taken c.trusted_word-found.result) c.requires.ready (returns-then-found-ne0-clause-makes c)

pub returns-clause-makes : goal.returns-clause-makes
returns-clause-makes c =
    let m = c.args.self.now in
    let now = c.mark_in_cycle.new.words in
    let marked = marked_is m c.first_entry.result c.index_of.result c.deref_mut.result.now now c.deref_mut.ensures.value
    (c.mark_in_cycle.auto.words ∙ c.deref_mut.ensures.len) c.mark_in_cycle.ensures c.first_entry.ensures in
    λ s h.
    let word = c.trusted_word-word.ensures s h in
    let found = c.trusted_word-found.ensures s h in
    let wide = c.from.ensures in
    let written : c.from.result ≡ s.words (field.Trusted c.in-Some.source) = omega (arith, wide, word) in
    let index : c.index_of.result ≡ index_of (s.words (field.Trusted c.in-Some.source)) = c.index_of.ensures.index ∙ ap index_of word in
    let marked_now = marked_in_cycle m.image.words.items (entry_place (sizes_of m.image.shape) Trusted (index_of (s.words (field.Trusted c.in-Some.source)))) in
    Makes-share_ok m s h c.args.from c.in-Some.source c.requires.place.0 (sym (c.in-Some.ensures.tables s h)) (λ e. c.if-word-eq0.false (word ∙ e))
    c.args.to c.in-Some-held.target c.requires.place.1 (sym (c.in-Some-held.ensures.tables s h))
    (with_item (with_items m.image.words now) c.trusted_place.result c.from.result)
    (ap (λ ws. slice_set ws c.trusted_place.result c.from.result)
    (marked ∙ ap (λ i. marked_in_cycle m.image.words.items (entry_place (sizes_of m.image.shape) Trusted i)) index)
    ∙ ap (λ p. slice_set marked_now p c.from.result) c.trusted_place.ensures
    ∙ ap (slice_set marked_now (field_place (field.Trusted c.in-Some-held.target))) written)
    (sym found ∙ c.if-found-ne0.false)

pub returns-clause-ready : goal.returns-clause-ready
returns-clause-ready c =
    let m = c.args.self.now in
    let now = c.mark_in_cycle.new.words in
    let marked_now = marked_in_cycle m.image.words.items (entry_place (sizes_of m.image.shape) Trusted c.index_of.result) in
    let f = field.Trusted c.in-Some-held.target in
    let marked = marked_is m c.first_entry.result c.index_of.result c.deref_mut.result.now now c.deref_mut.ensures.value
    (c.mark_in_cycle.auto.words ∙ c.deref_mut.ensures.len) c.mark_in_cycle.ensures c.first_entry.ensures in
    IsReady-parts m (with_item (with_items m.image.words now) c.trusted_place.result c.from.result) m.image.pending
    (subst (KeepsHeaders m.image.shape.objects m.image.words.items)
    (sym (ap (λ ws. slice_set ws c.trusted_place.result c.from.result) marked ∙ ap (λ p. slice_set marked_now p c.from.result) c.trusted_place.ensures))
    (KeepsHeaders-trans m.image.shape.objects m.image.words.items marked_now (slice_set marked_now (field_place f) c.from.result)
    (KeepsHeaders-marked (sizes_of m.image.shape) m.image.words.items c.index_of.result)
    (KeepsHeaders-field m.image.shape.objects marked_now f c.from.result)))
    (op.Share c.args.from c.args.to) reply.Ok c.requires.ready (returns-clause-makes c)
