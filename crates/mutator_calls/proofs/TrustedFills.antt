-- New trusted entries: an index is taken, filled with a cell that cannot be seen yet, and bound to a trusted field. It is the
-- mutator's ticket then, unless the field named something already.
use Rattle.std.proofs.Common.{◌≡◌, ◌≢◌, ℕ, ◌*◌, ◌^◌, ◌<◌, ◌≤◌, Bool, true, false, [], ◌∷◌, List, map, slice_set, Option, Some, None, refl, sym, ap, subst, ◌∙◌, inl, inr, arith, eq-eqb}
use Rattle.std.specs.Global.{Vec}
use Rattle.std.specs.Prelude.{if◌then◌else◌, IsTrue}
use Rattle.std.specs.Option.{option_map}
use Rattle.std.proofs.lemmas.List.{map-set}
use Rattle.plain_table.specs.declared.events.Act.TheVariants.{Bind, Put, Take}
use Rattle.plain_table.specs.declared.events.Cell.{Cell}
use Rattle.plain_table.specs.declared.events.Event.{Event}
use Rattle.plain_table.specs.declared.events.Field.{Field}
use Rattle.plain_table.specs.declared.events.Field.TheVariants as field
use Rattle.plain_table.specs.declared.events.Space.TheVariants.{Trusted}
use Rattle.plain_table.specs.declared.scripts.Op.TheVariants as op
use Rattle.plain_table.specs.declared.reports.Reply.{Reply}
use Rattle.plain_table.specs.declared.reports.Reply.TheVariants as reply
use Rattle.plain_table.specs.Index.{index_of, word_of}
use Rattle.plain_table.specs.Places.{put_at}
use Rattle.plain_table.specs.Table.{Table, Sizes, least_free}
use Rattle.plain_table.specs.Words.{field_place}
use Rattle.plain_table.specs.Rows.{IsTag, tickets_after, with_cell, with_taken}
use Rattle.plain_table.specs.History.{IsLegalHistory, after}
use Rattle.plain_table.specs.Shapes.{IsShape, IsTNew, event, own_bound, ticket_said, with_ticket}
use Rattle.plain_table.proofs.PlaceReads.{put_entry-same}
use Rattle.entry_word.specs.declared.image.Pending.{Pending}
use Rattle.entry_word.specs.Image.{image_of, pending_of, sizes_of}
use Rattle.mutator_calls.specs.declared.heap.Mutator.{Mutator}
use Rattle.mutator_calls.specs.Calls.{Makes, Sees}
use Rattle.mutator_calls.specs.Inits.{filled_by}
use Rattle.mutator_calls.specs.Words.{TakesIndex}
use Rattle.mutator_calls.proofs.Fields.{WithObject-some}
use Rattle.mutator_calls.proofs.Fills.{KeepsHeaders-put, KeepsHeaders-take, index-within}
use Rattle.mutator_calls.proofs.Puts.{IsLegal-put, Sees-put, put_claim-same}
use Rattle.mutator_calls.proofs.Quiet.{Makes-nothing}
use Rattle.mutator_calls.proofs.Seen.{shown-as}
use Rattle.mutator_calls.proofs.Shares.{KeepsHeaders-field}
use Rattle.mutator_calls.proofs.Takes.{IsLegal-take, Sees-take}
use Rattle.mutator_calls.proofs.TrustedBinds.{FollowsTo, FollowsTo-taken, FollowsTo-ticket, MayBind}
use Rattle.mutator_calls.proofs.Written.{HandsOver-parts, KeepsHeaders, KeepsHeaders-trans, with_parts}

-- the index of an index's word
index_of-word_of : (i : ℕ) → index_of (word_of i) ≡ i
index_of-word_of i = omega arith

-- the bind of the index that was filled
own_bound-filled : (ticket : Option ℕ) (i : ℕ) (said : Reply) →
    own_bound (record { filled = Some i; ticket = ticket }) (index_of (word_of i)) said ≡ with_ticket (ticket_said ticket i said)
own_bound-filled ticket i said =
    ap (λ j. own_bound (record { filled = Some i; ticket = ticket }) j said) (index_of-word_of i)
    ∙ ap (λ (test : Bool). if test then with_ticket (ticket_said ticket i said) else record { filled = Some i; ticket = ticket }) (eq-eqb i i refl)

-- headers, the count and the phase stay
pub KeepsHeaders-filled : (m : Mutator) (tag value i : ℕ) (taken : List ℕ) → TakesIndex m.image.words.items taken (sizes_of m.image.shape) Trusted (Some i) →
    KeepsHeaders m.image.shape.objects m.image.words.items (filled_by (sizes_of m.image.shape) Trusted i tag value taken)
KeepsHeaders-filled m tag value i taken takes =
    KeepsHeaders-trans m.image.shape.objects m.image.words.items taken (filled_by (sizes_of m.image.shape) Trusted i tag value taken)
    (KeepsHeaders-take (sizes_of m.image.shape) Trusted m.image.words.items taken (Some i) takes)
    (KeepsHeaders-put (sizes_of m.image.shape) Trusted i tag value taken)

pub KeepsHeaders-tnew : (m : Mutator) (o tag value i : ℕ) (taken : List ℕ) → TakesIndex m.image.words.items taken (sizes_of m.image.shape) Trusted (Some i) →
    KeepsHeaders m.image.shape.objects m.image.words.items (slice_set (filled_by (sizes_of m.image.shape) Trusted i tag value taken) (field_place (field.Trusted o)) (word_of i))
KeepsHeaders-tnew m o tag value i taken takes =
    let filled = filled_by (sizes_of m.image.shape) Trusted i tag value taken in
    KeepsHeaders-trans m.image.shape.objects m.image.words.items filled (slice_set filled (field_place (field.Trusted o)) (word_of i))
    (KeepsHeaders-filled m tag value i taken takes)
    (KeepsHeaders-field m.image.shape.objects filled (field.Trusted o) (word_of i))

module _ (m : Mutator) (s : Table) (h : Sees (image_of m.image) s) (var o : ℕ) (small : var < 16) (held : s.vars 0 var ≡ Some o) (tag value : ℕ) where
  abbrev f : Field
  f = field.Trusted o

  IsShape-tnew : (found : Option ℕ) → s.ticket 0 ≡ found → (said : Reply) (events : List Event) → IsTNew 0 found f tag value said events →
      IsShape 0 s.cycle (s.vars 0) (s.ticket 0) (op.TNew var tag value) said events
  IsShape-tnew found is said events new =
      WithObject-some (s.vars 0) var o said events (λ q. IsTNew 0 (s.ticket 0) (field.Trusted q) tag value said events) held
      (subst (λ t. IsTNew 0 t f tag value said events) (sym is) new)

  -- the mutator has a ticket
  pub Makes-pending : (i : ℕ) → s.ticket 0 ≡ Some i → Makes m m s (op.TNew var tag value) reply.Pending
  Makes-pending i is = Makes-nothing m s h (op.TNew var tag value) reply.Pending (IsShape-tnew (Some i) is reply.Pending [] (refl, refl))

  module _ (none : s.ticket 0 ≡ None) where
    -- no index is free
    pub Makes-tnew_full : (words : Vec ℕ) → TakesIndex m.image.words.items words.items (sizes_of m.image.shape) Trusted None →
        Makes m (with_parts m words m.image.pending) s (op.TNew var tag value) reply.Full
    Makes-tnew_full words takes =
        let found : None ≡ least_free s Trusted = (takes.tables s (shown-as m s h)).found_is in
        let events : List Event = event 0 (Take Trusted) reply.Full ∷ [] in
        let legal : IsLegalHistory s events = (IsLegal-take (image_of m.image) s h Trusted None found, tt) in
        record {
          events = events;
          legal = legal;
          own = (refl, tt);
          shape = IsShape-tnew None none reply.Full events (inl (refl, refl));
          held = ap (λ x. (with_taken s 0 Trusted x).vars 0) found;
          ticket = ap (λ x. with_ticket ((with_taken s 0 Trusted x).ticket 0)) found;
          sees = subst (λ x. Sees (record (image_of m.image) { words = words.items }) (with_taken s 0 Trusted x)) found
              (Sees-take (image_of m.image) s h Trusted words.items None takes);
          handed = λ linked. HandsOver-parts m words m.image.pending (KeepsHeaders-take (sizes_of m.image.shape) Trusted m.image.words.items words.items None takes)
              linked s events h legal (tt, tt);
        }

    module _ (is_tag : IsTag tag) (few : value < 2 ^ 48) (i : ℕ) (taken : List ℕ) (takes : TakesIndex m.image.words.items taken (sizes_of m.image.shape) Trusted (Some i))
        (limit : m.image.shape.seg * m.image.shape.tru ≤ 65536) where
      abbrev filled : List ℕ
      filled = filled_by (sizes_of m.image.shape) Trusted i tag value taken

      abbrev one : Table
      one = with_taken s 0 Trusted (Some i)

      abbrev two : Table
      two = with_cell one 0 Trusted i tag value

      abbrev cell : Cell
      cell = record { id = s.next; tag = tag; value = value; shown = false }

      abbrev bind : Reply → Event
      bind said = event 0 (Bind f (word_of i)) said

      abbrev put : Event
      put = event 0 (Put Trusted i tag value) reply.Ok

      found : Some i ≡ least_free s Trusted
      found = (takes.tables s (shown-as m s h)).found_is

      Sees-taken_one : Sees (record (image_of m.image) { words = taken }) one
      Sees-taken_one = Sees-take (image_of m.image) s h Trusted taken (Some i) takes

      owed : IsTrue (one.owed 0 Trusted i)
      owed = put_claim-same s.owed 0 Trusted i true

      Sees-filled : Sees (record (image_of m.image) { words = filled }) two
      Sees-filled =
          subst (λ (z : Sizes). Sees (record (image_of m.image) { words = filled_by z Trusted i tag value taken }) two) h.shows.sizes
          (Sees-put (record (image_of m.image) { words = taken }) one Sees-taken_one Trusted i tag value owed is_tag few tt)

      fresh : two.fresh 0 Trusted (index_of (word_of i)) ≡ true
      fresh = ap (two.fresh 0 Trusted) (index_of-word_of i) ∙ put_claim-same s.fresh 0 Trusted i true

      may : MayBind two f (word_of i)
      may =
          let within = index-within (sizes_of m.image.shape) Trusted m.image.words.items taken i s (shown-as m s h) takes in
          ((var, small, held), omega (arith, within, limit), inl fresh)

      -- the three events, with what the bind answers
      Makes-filled : (words : Vec ℕ) (pending : Vec (Option Pending)) (said : Reply) (ticket : ℕ → Option ℕ) →
          KeepsHeaders m.image.shape.objects m.image.words.items words.items →
          FollowsTo (image_of (with_parts m words pending).image) two (bind said) ticket → ticket_said (s.ticket 0) i said ≡ ticket 0 →
          Makes m (with_parts m words pending) s (op.TNew var tag value) said
      Makes-filled words pending said ticket keeps follow own =
          let events : List Event = event 0 (Take Trusted) (reply.Index i) ∷ put ∷ bind said ∷ [] in
          let later : IsLegalHistory one (put ∷ bind said ∷ []) =
          (IsLegal-put (record (image_of m.image) { words = taken }) one Sees-taken_one Trusted i tag value owed is_tag few tt, (follow.legal, tt)) in
          let legal : IsLegalHistory s events = (
            IsLegal-take (image_of m.image) s h Trusted (Some i) found,
            subst (λ x. IsLegalHistory (with_taken s 0 Trusted x) (put ∷ bind said ∷ [])) found later,
          ) in
          record {
            events = events;
            legal = legal;
            own = (refl, (refl, (refl, tt)));
            shape = IsShape-tnew None none said events (inr (i, refl));
            held = subst (λ x. s.vars 0 ≡ (after (with_taken s 0 Trusted x) (put ∷ bind said ∷ [])).vars 0) found
                (sym (ap (λ (vs : ℕ → ℕ → Option ℕ). vs 0) follow.vars));
            ticket = own_bound-filled (s.ticket 0) i said ∙ ap with_ticket own
                ∙ subst (λ x. with_ticket (ticket 0) ≡ with_ticket ((after (with_taken s 0 Trusted x) (put ∷ bind said ∷ [])).ticket 0)) found
                (ap (λ (tickets : ℕ → Option ℕ). with_ticket (tickets 0)) (sym follow.ticket_is));
            sees = subst (λ x. Sees (image_of (with_parts m words pending).image) (after (with_taken s 0 Trusted x) (put ∷ bind said ∷ []))) found follow.sees;
            handed = λ linked. HandsOver-parts m words pending keeps linked s events h legal (tt, (tt, (tt, tt)));
          }

      -- the field names something already
      pub Makes-tnew_taken : (words : Vec ℕ) → words.items ≡ filled → s.words f ≢ 0 →
          Makes m (with_parts m words m.image.pending) s (op.TNew var tag value) (reply.Taken (s.words f))
      Makes-tnew_taken words is some =
          Makes-filled words m.image.pending (reply.Taken (s.words f)) s.ticket
          (subst (KeepsHeaders m.image.shape.objects m.image.words.items) (sym is) (KeepsHeaders-filled m tag value i taken takes))
          (subst (λ ws. FollowsTo (record (image_of m.image) { words = ws }) two (bind (reply.Taken (s.words f))) s.ticket) (sym is)
          (FollowsTo-taken (record (image_of m.image) { words = filled }) two Sees-filled f (word_of i) may some)) refl

      -- it names nothing: the new entry waits to be published
      pub Makes-tnew_ok : (words : Vec ℕ) (pending : Vec (Option Pending)) → words.items ≡ slice_set filled (field_place f) (word_of i) →
          pending.items ≡ slice_set m.image.pending.items 0 (Some (record { index = i; tag = tag; value = value })) → s.words f ≡ 0 →
          Makes m (with_parts m words pending) s (op.TNew var tag value) reply.Ok
      Makes-tnew_ok words pending is waits empty =
          let x : Pending = record { index = i; tag = tag; value = value } in
          let becomes : tickets_after two 0 Trusted (index_of (word_of i)) ≡ put_at s.ticket 0 (Some i) =
          ap (λ (test : Bool). if test then put_at s.ticket 0 (Some (index_of (word_of i))) else s.ticket) fresh
          ∙ ap (λ j. put_at s.ticket 0 (Some j)) (index_of-word_of i) in
          Makes-filled words pending reply.Ok (put_at s.ticket 0 (Some i))
          (subst (KeepsHeaders m.image.shape.objects m.image.words.items) (sym is) (KeepsHeaders-tnew m o tag value i taken takes))
          (FollowsTo-ticket (record (image_of m.image) { words = filled }) two Sees-filled f (word_of i) may empty i cell
          (put_entry-same s.cells Trusted i (Some cell)) becomes (image_of (with_parts m words pending).image) refl refl is
          (ap (map (option_map pending_of)) waits ∙ map-set (option_map pending_of) m.image.pending.items 0 (Some x)))
          refl
