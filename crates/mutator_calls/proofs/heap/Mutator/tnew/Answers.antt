use Rattle.std.proofs.Common.{◌≡◌, ◌≢◌, ◌*◌, ◌<◌, ℕ, Bool, false, List, length, slice_index, slice_set, Option, Some, None, is_some, refl, sym, ap, subst, ◌∙◌, inl, inr, arith, true≢false, eq-eqb, ne_eqb}
use Rattle.std.specs.Prelude.{if◌then◌else◌}
use Rattle.std.specs.Global.{Vec}
use Rattle.std.specs.Vec.{with_item, with_items}
use Rattle.std.proofs.lemmas.Bool.Decides.{eqb_tells}
use Rattle.std.proofs.lemmas.List.{with_items_is}
use Rattle.plain_table.specs.declared.events.Field.TheVariants as field
use Rattle.plain_table.specs.declared.events.Space.TheVariants.{Trusted}
use Rattle.plain_table.specs.declared.scripts.Op.TheVariants as op
use Rattle.plain_table.specs.declared.reports.Reply.TheVariants as reply
use Rattle.plain_table.specs.Index.{word_of}
use Rattle.plain_table.specs.Words.{field_place}
use Rattle.plain_table.proofs.Options.{IsSome-value, None-if_not_some}
use Rattle.plain_table.proofs.WordPlaces.{freelist_place-below}
use Rattle.entry_word.specs.declared.image.Pending.{Pending}
use Rattle.entry_word.specs.Image.{sizes_of}
use Rattle.mutator_calls.specs.declared.heap.Mutator.{Mutator}
use Rattle.mutator_calls.specs.Calls.{IsReady, Makes, MakesEach}
use Rattle.mutator_calls.specs.Inits.{bound_by, bound_said, filled_by}
use Rattle.mutator_calls.specs.Words.{TakesIndex}
use Rattle.mutator_calls.proofs.Fields.{field_word-few, field_word-shown}
use Rattle.mutator_calls.proofs.Fills.{KeepsHeaders-take, filled_by-low, index-within}
use Rattle.mutator_calls.proofs.Seen.{shown-some}
use Rattle.mutator_calls.proofs.Tickets.{IsOwnPending-shown, no_ticket-shown}
use Rattle.mutator_calls.proofs.TrustedFills.{KeepsHeaders-filled, KeepsHeaders-tnew, Makes-pending, Makes-tnew_full, Makes-tnew_ok, Makes-tnew_taken}
use Rattle.mutator_calls.proofs.Written.{IsReady-parts, KeepsHeaders, with_parts}
use Rattle.mutator_calls.proofs.heap.Mutator.tnew.Goals as goal
use Rattle.mutator_calls.proofs.heap.Mutator.tnew.Goals.{After-take, After-trusted_place, After-bind}

-- words that are lent after others were written are these
lent_is : (words : Vec ℕ) (now lent : List ℕ) → length now ≡ words.len → lent ≡ (with_items words now).items → lent ≡ now
lent_is words now lent long is = is ∙ with_items_is words now long

-- a take from the words that were lent is one from the mutator's
takes_is : (m : Mutator) (lent now : List ℕ) (found : Option ℕ) → lent ≡ m.image.words.items → TakesIndex lent now (sizes_of m.image.shape) Trusted found →
    TakesIndex m.image.words.items now (sizes_of m.image.shape) Trusted found
takes_is m lent now found is takes = subst (λ ws. TakesIndex ws now (sizes_of m.image.shape) Trusted found) is takes

-- an index that was taken is within the limit
taken-below : (m : Mutator) (now : List ℕ) (i : ℕ) → IsReady m → TakesIndex m.image.words.items now (sizes_of m.image.shape) Trusted (Some i) →
    i < m.image.shape.seg * m.image.shape.tru
taken-below m now i ready takes =
    let some = shown-some m ready in
    index-within (sizes_of m.image.shape) Trusted m.image.words.items now i some.0 some.1 takes

pub put-requires-clause-within : goal.put-requires-clause-within
put-requires-clause-within c =
    taken-below c.args.self.now c.take.new.words c.in-Some-take.index c.requires.ready
    (takes_is c.args.self.now c.deref_mut.result.now c.take.new.words (Some c.in-Some-take.index) c.deref_mut.ensures.value c.in-Some-take.ensures)

pub bind-requires-clause-index : goal.bind-requires-clause-index
bind-requires-clause-index c =
    let below = taken-below c.args.self.now c.take.new.words c.in-Some-take.index c.requires.ready
    (takes_is c.args.self.now c.deref_mut.result.now c.take.new.words (Some c.in-Some-take.index) c.deref_mut.ensures.value c.in-Some-take.ensures) in
    let few = c.requires.ready.shape.tru.1 in
    omega (arith, below, few)

-- the field has its word still when the index was filled
filled-field : (m : Mutator) (o tag value i : ℕ) (now : List ℕ) → o < m.image.shape.objects → TakesIndex m.image.words.items now (sizes_of m.image.shape) Trusted (Some i) →
    slice_index (filled_by (sizes_of m.image.shape) Trusted i tag value now) (field_place (field.Trusted o)) ≡ slice_index m.image.words.items (field_place (field.Trusted o))
filled-field m o tag value i now few takes =
    filled_by-low (sizes_of m.image.shape) Trusted i tag value now (field_place (field.Trusted o)) (omega (arith, few))
    ∙ takes.rest (field_place (field.Trusted o)) (omega (arith, few)) (λ same. omega (arith, same, freelist_place-below Trusted))

-- the words that are lent to the bind, and what it finds in the field
module _ (c : After-trusted_place) where
  abbrev filled : List ℕ
  filled = filled_by (sizes_of c.args.self.now.image.shape) Trusted c.in-Some-take.index c.args.tag c.args.value c.take.new.words

  taken : TakesIndex c.args.self.now.image.words.items c.take.new.words (sizes_of c.args.self.now.image.shape) Trusted (Some c.in-Some-take.index)
  taken = takes_is c.args.self.now c.deref_mut.result.now c.take.new.words (Some c.in-Some-take.index) c.deref_mut.ensures.value c.in-Some-take.ensures

  filled-is : c.deref_mut-3.result.now ≡ filled
  filled-is =
      let words = c.args.self.now.image.words in
      let now = c.take.new.words in
      lent_is (with_items words now) c.put.new.words c.deref_mut-3.result.now (c.put.auto.words ∙ c.deref_mut-2.ensures.len) c.deref_mut-3.ensures.value
      ∙ c.put.ensures.words
      ∙ ap (filled_by (sizes_of c.args.self.now.image.shape) Trusted c.in-Some-take.index c.args.tag c.args.value)
      (lent_is words now c.deref_mut-2.result.now (c.take.auto.words ∙ c.deref_mut.ensures.len) c.deref_mut-2.ensures.value)

  field-is : slice_index filled (field_place (field.Trusted c.in-Some.object)) ≡ slice_index c.args.self.now.image.words.items (field_place (field.Trusted c.in-Some.object))
  field-is = filled-field c.args.self.now c.in-Some.object c.args.tag c.args.value c.in-Some-take.index c.take.new.words c.in-Some.ensures.few.0 taken

  found-is : slice_index c.deref_mut-3.result.now c.trusted_place.result ≡ slice_index c.args.self.now.image.words.items (field_place (field.Trusted c.in-Some.object))
  found-is = ap (λ ws. slice_index ws c.trusted_place.result) filled-is ∙ ap (slice_index filled) c.trusted_place.ensures ∙ field-is

pub bind-requires-clause-few : goal.bind-requires-clause-few
bind-requires-clause-few c =
    let found = found-is (goal.at.bind-requires-clause-few c).After-trusted_place in
    let few = field_word-few c.args.self.now c.requires.ready (field.Trusted c.in-Some.object) c.in-Some.ensures.few.0 in
    omega (arith, found, few)

-- a bind says which word it found
bound_said-ok : (found : ℕ) → reply.Ok ≡ bound_said found → found ≡ 0
bound_said-ok found is = elim (eqb_tells found 0) [
  | inl none ↦ none.1
  | inr some ↦
      let taken : reply.Ok ≡ reply.Taken found = is ∙ ap (λ (b : Bool). if b then reply.Ok else reply.Taken found) some.0 in
      absurd (cc)
]

not_pending : (x : Option Pending) → false ≡ is_some x → x ≡ None
not_pending x e = None-if_not_some x (λ some. true≢false (sym some ∙ sym e))

-- the words that the bind leaves, by what it found
module _ (c : After-bind) where
  abbrev m : Mutator
  m = c.args.self.now

  abbrev place : ℕ
  place = field_place (field.Trusted c.in-Some.object)

  abbrev put : List ℕ
  put = filled_by (sizes_of m.image.shape) Trusted c.in-Some-take.index c.args.tag c.args.value c.take.new.words

  abbrev new : Vec ℕ
  new = with_items (with_items (with_items m.image.words c.take.new.words) c.put.new.words) c.bind.new.words

  module _ (lent : c.deref_mut-3.result.now ≡ put) (kept : slice_index put place ≡ slice_index m.image.words.items place) where
    new-is : new.items ≡ bound_by place (word_of c.in-Some-take.index) put
    new-is =
        with_items_is (with_items (with_items m.image.words c.take.new.words) c.put.new.words) c.bind.new.words (c.bind.auto.words ∙ c.deref_mut-3.ensures.len)
        ∙ c.bind.ensures.words
        ∙ ap (bound_by c.trusted_place.result (word_of c.in-Some-take.index)) lent
        ∙ ap (λ p. bound_by p (word_of c.in-Some-take.index) put) c.trusted_place.ensures

    said-is : c.bind.result ≡ bound_said (slice_index m.image.words.items place)
    said-is = c.bind.ensures.reply ∙ ap bound_said (ap (λ ws. slice_index ws c.trusted_place.result) lent ∙ ap (slice_index put) c.trusted_place.ensures ∙ kept)

    new-free : slice_index m.image.words.items place ≡ 0 → new.items ≡ slice_set put place (word_of c.in-Some-take.index)
    new-free free = new-is ∙ ap (λ (b : Bool). if b then slice_set put place (word_of c.in-Some-take.index) else put) (eq-eqb (slice_index put place) 0 (kept ∙ free))

    new-taken : slice_index m.image.words.items place ≢ 0 → new.items ≡ put
    new-taken some =
        new-is ∙ ap (λ (b : Bool). if b then slice_set put place (word_of c.in-Some-take.index) else put) (ne_eqb (slice_index put place) 0 (λ e. some (sym kept ∙ e)))

-- the words of a full space
module _ (c : After-take) (ensures : TakesIndex c.deref_mut.result.now c.take.new.words (sizes_of c.args.self.now.image.shape) Trusted None) where
  full_is : TakesIndex c.args.self.now.image.words.items (with_items c.args.self.now.image.words c.take.new.words).items (sizes_of c.args.self.now.image.shape) Trusted None
  full_is =
      subst (λ ws. TakesIndex c.args.self.now.image.words.items ws (sizes_of c.args.self.now.image.shape) Trusted None)
      (sym (with_items_is c.args.self.now.image.words c.take.new.words (c.take.auto.words ∙ c.deref_mut.ensures.len)))
      (takes_is c.args.self.now c.deref_mut.result.now c.take.new.words None c.deref_mut.ensures.value ensures)

pub returns-then-is_some-clause-makes : goal.returns-then-is_some-clause-makes
returns-then-is_some-clause-makes c =
    let m = c.args.self.now in
    let x = IsSome-value c.index.result.now (sym c.if-is_some.ensures) in
    λ s h.
    Makes-pending m s h c.args.var c.in-Some.object c.requires.place (sym (c.in-Some.ensures.tables s h)) c.args.tag c.args.value x.0.index
    (IsOwnPending-shown m s h c.index.result.now x.0 (sym c.index.ensures ∙ x.1)).ticket

pub returns-in_default-take-clause-makes : goal.returns-in_default-take-clause-makes
returns-in_default-take-clause-makes c =
    let m = c.args.self.now in
    let t = (goal.at.returns-in_default-take-clause-makes c).After-take in
    λ s h.
    Makes-tnew_full m s h c.args.var c.in-Some.object c.requires.place (sym (c.in-Some.ensures.tables s h)) c.args.tag c.args.value
    (no_ticket-shown m s h c.index.result.now (sym c.index.ensures ∙ not_pending c.index.result.now c.if-is_some.ensures))
    (with_items m.image.words c.take.new.words) (full_is t c.in_default-take.ensures)

pub returns-in_default-take-clause-ready : goal.returns-in_default-take-clause-ready
returns-in_default-take-clause-ready c =
    let m = c.args.self.now in
    let t = (goal.at.returns-in_default-take-clause-ready c).After-take in
    let now = with_items m.image.words c.take.new.words in
    IsReady-parts m now m.image.pending
    (KeepsHeaders-take (sizes_of m.image.shape) Trusted m.image.words.items now.items None (full_is t c.in_default-take.ensures))
    (op.TNew c.args.var c.args.tag c.args.value) reply.Full c.requires.ready (returns-in_default-take-clause-makes c)

pub returns-in-Ok-clause-makes : goal.returns-in-Ok-clause-makes
returns-in-Ok-clause-makes c =
    let m = c.args.self.now in
    let at = goal.at.returns-in-Ok-clause-makes c in
    let lent = filled-is at.After-trusted_place in
    let kept = field-is at.After-trusted_place in
    let free = bound_said-ok (slice_index m.image.words.items (field_place (field.Trusted c.in-Some.object))) (sym c.in-Ok.is ∙ said-is at.After-bind lent kept) in
    let i = c.in-Some-take.index in
    λ s h.
    Makes-tnew_ok m s h c.args.var c.in-Some.object c.requires.place (sym (c.in-Some.ensures.tables s h)) c.args.tag c.args.value
    (no_ticket-shown m s h c.index.result.now (sym c.index.ensures ∙ not_pending c.index.result.now c.if-is_some.ensures))
    c.put.ensures.tag c.requires.small i c.take.new.words (taken at.After-trusted_place) c.requires.ready.shape.tru.1 (new at.After-bind)
    (with_item m.image.pending 0 (Some (record { index = i; tag = c.byte-tag.result; value = c.args.value })))
    (new-free at.After-bind lent kept free)
    (ap (λ t. slice_set m.image.pending.items 0 (Some (record { index = i; tag = t; value = c.args.value }))) c.byte-tag.ensures.value)
    (sym (field_word-shown m s h (field.Trusted c.in-Some.object) c.in-Some.ensures.few.0) ∙ free)

pub returns-in-Ok-clause-ready : goal.returns-in-Ok-clause-ready
returns-in-Ok-clause-ready c =
    let m = c.args.self.now in
    let at = goal.at.returns-in-Ok-clause-ready c in
    let lent = filled-is at.After-trusted_place in
    let kept = field-is at.After-trusted_place in
    let free = bound_said-ok (slice_index m.image.words.items (field_place (field.Trusted c.in-Some.object))) (sym c.in-Ok.is ∙ said-is at.After-bind lent kept) in
    let i = c.in-Some-take.index in
    IsReady-parts m (new at.After-bind) (with_item m.image.pending 0 (Some (record { index = i; tag = c.byte-tag.result; value = c.args.value })))
    (subst (KeepsHeaders m.image.shape.objects m.image.words.items) (sym (new-free at.After-bind lent kept free))
    (KeepsHeaders-tnew m c.in-Some.object c.args.tag c.args.value i c.take.new.words (taken at.After-trusted_place)))
    (op.TNew c.args.var c.args.tag c.args.value) reply.Ok c.requires.ready (returns-in-Ok-clause-makes c)

pub returns-in_default-bind : goal.returns-in_default-bind
returns-in_default-bind c =
    let m = c.args.self.now in
    let at = goal.at.returns-in_default-bind c in
    let lent = filled-is at.After-trusted_place in
    let kept = field-is at.After-trusted_place in
    let place = field_place (field.Trusted c.in-Some.object) in
    let some : slice_index m.image.words.items place ≢ 0 = λ e. c.in_default-bind.not-Ok (said-is at.After-bind lent kept ∙ ap bound_said e) in
    let said = said-is at.After-bind lent kept ∙ ap (λ (b : Bool). if b then reply.Ok else reply.Taken (slice_index m.image.words.items place))
    (ne_eqb (slice_index m.image.words.items place) 0 some) in
    let i = c.in-Some-take.index in
    let makes : MakesEach m (with_parts m (new at.After-bind) m.image.pending) (op.TNew c.args.var c.args.tag c.args.value) c.bind.result =
    λ s h.
    let shown = field_word-shown m s h (field.Trusted c.in-Some.object) c.in-Some.ensures.few.0 in
    subst (Makes m (with_parts m (new at.After-bind) m.image.pending) s (op.TNew c.args.var c.args.tag c.args.value)) (sym (said ∙ ap reply.Taken shown))
    (Makes-tnew_taken m s h c.args.var c.in-Some.object c.requires.place (sym (c.in-Some.ensures.tables s h)) c.args.tag c.args.value
    (no_ticket-shown m s h c.index.result.now (sym c.index.ensures ∙ not_pending c.index.result.now c.if-is_some.ensures))
    c.put.ensures.tag c.requires.small i c.take.new.words (taken at.After-trusted_place) c.requires.ready.shape.tru.1 (new at.After-bind)
    (new-taken at.After-bind lent kept some) (λ e. some (shown ∙ e))) in
    record {
      ready = IsReady-parts m (new at.After-bind) m.image.pending
          (subst (KeepsHeaders m.image.shape.objects m.image.words.items) (sym (new-taken at.After-bind lent kept some))
          (KeepsHeaders-filled m c.args.tag c.args.value i c.take.new.words (taken at.After-trusted_place)))
          (op.TNew c.args.var c.args.tag c.args.value) c.bind.result c.requires.ready makes;
      makes = makes;
      shape = refl;
    }
