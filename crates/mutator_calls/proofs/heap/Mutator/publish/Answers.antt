use Rattle.std.proofs.Common.{◌≡◌, ◌+◌, true, Some, None, slice_set, refl, sym, ap, ◌∙◌, arith}
use Rattle.std.specs.Vec.{with_item}
use Rattle.std.proofs.lemmas.Option.{same_Some}
use Rattle.plain_table.specs.declared.events.Field.TheVariants as field
use Rattle.plain_table.specs.declared.events.Space.TheVariants.{Trusted}
use Rattle.plain_table.specs.declared.scripts.Op.TheVariants as op
use Rattle.plain_table.specs.declared.reports.Reply.TheVariants as reply
use Rattle.plain_table.specs.Index.{index_of}
use Rattle.plain_table.specs.Words.{entry_place}
use Rattle.entry_word.specs.Entry.{tagged_word}
use Rattle.entry_word.specs.Image.{image_of, sizes_of}
use Rattle.mutator_calls.specs.Calls.{Sees}
use Rattle.mutator_calls.proofs.Commits.{entry_place-first}
use Rattle.mutator_calls.proofs.Marks.{entry_place-within}
use Rattle.mutator_calls.proofs.Tickets.{IsOwnPending-shown, no_ticket-shown}
use Rattle.mutator_calls.proofs.Publishes.{KeepsHeaders-publish, Makes-not_yours, Makes-publish}
use Rattle.mutator_calls.proofs.Written.{IsReady-parts}
use Rattle.mutator_calls.proofs.heap.Mutator.publish.Goals as goal

pub encode-requires : goal.encode-requires
encode-requires c =
    let m = c.args.self.now in
    let lawful = c.requires.ready.lawful in
    let h : Sees (image_of m.image) lawful.0 = record { sound = lawful.1; shows = lawful.2; covered = lawful.3 } in
    let own = IsOwnPending-shown m lawful.0 h c.index.result.now c.in-Some-index.pending (sym c.index.ensures ∙ c.in-Some-index.is) in
    let good = lawful.1.cells.tags Trusted c.in-Some-index.pending.index own.cell own.stands in
    let tag = own.tag in
    let value = own.value in
    (omega (arith, good.0.0, tag), omega (arith, good.0.1, tag), omega (arith, good.1, value))

pub index_mut-requires : goal.index_mut-requires
index_mut-requires c =
    let m = c.args.self.now in
    let lawful = c.requires.ready.lawful in
    let h : Sees (image_of m.image) lawful.0 = record { sound = lawful.1; shows = lawful.2; covered = lawful.3 } in
    let own = IsOwnPending-shown m lawful.0 h c.index.result.now c.in-Some-index.pending (sym c.index.ensures ∙ c.in-Some-index.is) in
    let within = entry_place-within m lawful.0 h Trusted c.in-Some-index.pending.index own.cell own.stands in
    let at = entry_place-first (sizes_of m.image.shape) Trusted c.in-Some-index.pending.index in
    omega (arith, within, at, c.first_entry.ensures, c.if-pending-index.true, m.image.words.ok.0)

pub returns-in-Some-index-clause-makes : goal.returns-in-Some-index-clause-makes
returns-in-Some-index-clause-makes c =
    let m = c.args.self.now in
    let x = c.in-Some-index.pending in
    let place = c.first_entry.result + c.index_of-index.result in
    λ s h.
    let same : x.index ≡ index_of (s.words (field.Trusted c.in-Some.object)) =
    c.if-pending-index.true ∙ c.index_of-index.ensures.index ∙ ap index_of (c.trusted_word.ensures s h) in
    let at : place ≡ entry_place (sizes_of m.image.shape) Trusted (index_of (s.words (field.Trusted c.in-Some.object))) =
    ap (λ first. first + c.index_of-index.result) c.first_entry.ensures
    ∙ entry_place-first (sizes_of m.image.shape) Trusted c.index_of-index.result
    ∙ ap (entry_place (sizes_of m.image.shape) Trusted) (sym c.if-pending-index.true ∙ same) in
    let words_is : slice_set m.image.words.items place c.encode.result ≡ slice_set m.image.words.items (entry_place (sizes_of m.image.shape) Trusted (index_of (s.words (field.Trusted c.in-Some.object)))) (tagged_word x.tag x.value true) =
    ap (λ p. slice_set m.image.words.items p c.encode.result) at ∙ ap (slice_set m.image.words.items (entry_place (sizes_of m.image.shape) Trusted (index_of (s.words (field.Trusted c.in-Some.object))))) c.encode.ensures in
    Makes-publish m s h c.args.var c.in-Some.object c.requires.place (sym (c.in-Some.ensures.tables s h)) x
    (IsOwnPending-shown m s h c.index.result.now x (sym c.index.ensures ∙ c.in-Some-index.is)) same
    (with_item m.image.words place c.encode.result) (with_item m.image.pending 0 None) words_is refl

pub returns-in-Some-index-clause-ready : goal.returns-in-Some-index-clause-ready
returns-in-Some-index-clause-ready c =
    let m = c.args.self.now in
    let x = c.in-Some-index.pending in
    let place = c.first_entry.result + c.index_of-index.result in
    let lawful = c.requires.ready.lawful in
    let s = lawful.0 in
    let h : Sees (image_of m.image) lawful.0 = record { sound = lawful.1; shows = lawful.2; covered = lawful.3 } in
    let same : x.index ≡ index_of (s.words (field.Trusted c.in-Some.object)) =
    c.if-pending-index.true ∙ c.index_of-index.ensures.index ∙ ap index_of (c.trusted_word.ensures s h) in
    let at : place ≡ entry_place (sizes_of m.image.shape) Trusted (index_of (s.words (field.Trusted c.in-Some.object))) =
    ap (λ first. first + c.index_of-index.result) c.first_entry.ensures
    ∙ entry_place-first (sizes_of m.image.shape) Trusted c.index_of-index.result
    ∙ ap (entry_place (sizes_of m.image.shape) Trusted) (sym c.if-pending-index.true ∙ same) in
    let words_is : slice_set m.image.words.items place c.encode.result ≡ slice_set m.image.words.items (entry_place (sizes_of m.image.shape) Trusted (index_of (s.words (field.Trusted c.in-Some.object)))) (tagged_word x.tag x.value true) =
    ap (λ p. slice_set m.image.words.items p c.encode.result) at ∙ ap (slice_set m.image.words.items (entry_place (sizes_of m.image.shape) Trusted (index_of (s.words (field.Trusted c.in-Some.object))))) c.encode.ensures in
    IsReady-parts m (with_item m.image.words place c.encode.result) (with_item m.image.pending 0 None)
    (KeepsHeaders-publish m s h c.args.var c.in-Some.object c.requires.place (sym (c.in-Some.ensures.tables s h)) x
    (IsOwnPending-shown m s h c.index.result.now x (sym c.index.ensures ∙ c.in-Some-index.is)) same
    (with_item m.image.words place c.encode.result) (with_item m.image.pending 0 None) words_is refl)
    (op.TPub c.args.var) reply.Ok c.requires.ready (returns-in-Some-index-clause-makes c)

pub returns-in_default-index-clause-makes : goal.returns-in_default-index-clause-makes
returns-in_default-index-clause-makes c =
    let m = c.args.self.now in
    let x = c.in-Some-index.pending in
    λ s h.
    let own = IsOwnPending-shown m s h c.index.result.now x (sym c.index.ensures ∙ c.in-Some-index.is) in
    Makes-not_yours m s h c.args.var c.in-Some.object c.requires.place (sym (c.in-Some.ensures.tables s h))
    (λ ticket. c.if-pending-index.false (same_Some x.index (index_of (s.words (field.Trusted c.in-Some.object))) (sym own.ticket ∙ ticket)
    ∙ sym (c.index_of-index.ensures.index ∙ ap index_of (c.trusted_word.ensures s h))))

pub returns-in_default-index-2-clause-makes : goal.returns-in_default-index-2-clause-makes
returns-in_default-index-2-clause-makes c =
    let m = c.args.self.now in
    λ s h.
    let none : s.ticket 0 ≡ None = no_ticket-shown m s h c.index.result.now (sym c.index.ensures ∙ c.in_default-index.is) in
    Makes-not_yours m s h c.args.var c.in-Some.object c.requires.place (sym (c.in-Some.ensures.tables s h))
    (λ (ticket : s.ticket 0 ≡ Some (index_of (s.words (field.Trusted c.in-Some.object)))). absurd (cc))
