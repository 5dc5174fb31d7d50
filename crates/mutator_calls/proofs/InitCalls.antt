-- An init: a take, an abort where the index lies in the evacuation area, a put and a bind.
use Rattle.std.proofs.Common.{◌≡◌, ℕ, ◌+◌, ◌*◌, ◌%◌, ◌^◌, ◌<◌, ◌≤◌, Bool, true, false, List, [], ◌∷◌, ◌++◌, Option, Some, None, refl, sym, ap, subst, ◌∙◌, inl, inr, arith}
use Rattle.std.specs.Prelude.{if◌then◌else◌, IsTrue, slice_index, slice_set}
use Rattle.std.specs.Global.{Vec}
use Rattle.std.specs.List.{AllByRecursion}
use Rattle.plain_table.specs.declared.events.Act.TheVariants.{Abort, Bind, Put, Take}
use Rattle.plain_table.specs.declared.events.Event.{Event}
use Rattle.plain_table.specs.declared.events.Field.TheVariants as field
use Rattle.plain_table.specs.declared.events.Space.TheVariants.{External}
use Rattle.plain_table.specs.declared.reports.Reply.{Reply}
use Rattle.plain_table.specs.declared.reports.Reply.TheVariants as reply
use Rattle.plain_table.specs.declared.scripts.Op.TheVariants as op
use Rattle.plain_table.specs.Index.{index_of, word_of}
use Rattle.plain_table.specs.Places.{object_of}
use Rattle.plain_table.specs.Cycle.{aborted_in, is_in_area, start_in}
use Rattle.plain_table.specs.Table.{Sizes, Table, least_free}
use Rattle.plain_table.specs.Words.{area_place, field_place}
use Rattle.plain_table.specs.Rows.{Holds, IsTag, MayFill, free_below, with_cell, with_taken}
use Rattle.plain_table.specs.History.{IsLegalHistory, after}
use Rattle.plain_table.specs.Shapes.{Held, IsInit, OwnTicket, abort_before, event, external_field, held_after, own_after, with_ticket}
use Rattle.plain_table.specs.Sweeps.{linked_after}
use Rattle.plain_table.specs.Shows.{Image}
use Rattle.word_laws.specs.Small.{AreSmall}
use Rattle.word_laws.proofs.AreaReads.{AreaWordsTell-shown}
use Rattle.entry_word.specs.Image.{image_of, sizes_of}
use Rattle.mutator_calls.specs.declared.heap.Mutator.{Mutator}
use Rattle.mutator_calls.specs.Calls.{HandsOver, Makes, Sees}
use Rattle.mutator_calls.specs.Inits.{Fills, FillsTaken, aborted_by, bound_by, bound_said, filled_by}
use Rattle.mutator_calls.specs.Words.{TakesIndex}
use Rattle.mutator_calls.proofs.Aborts.{IfSome-aborted, IfSome-outside, IsLegal-abort, Sees-abort, free_below-taken, is_above-shown, start-above}
use Rattle.mutator_calls.proofs.Binds.{FollowsTo-bind}
use Rattle.mutator_calls.proofs.Fields.{Holds-variable, WithObject-some, object_of-external_field}
use Rattle.mutator_calls.proofs.Fills.{KeepsHeaders-fills, index-within}
use Rattle.mutator_calls.proofs.Kept.{AreDuringPhase}
use Rattle.mutator_calls.proofs.Puts.{IsLegal-put, Sees-put, fresh-put, put_claim-same}
use Rattle.mutator_calls.proofs.Takes.{IsLegal-take, Sees-take, with_taken-parts}
use Rattle.mutator_calls.proofs.Written.{HandsOver-parts, KeepsHeaders, with_parts}

-- events that an image shows after them, and that leave variables and tickets
record Leads (s : Table) (es : List Event) (now : Image) : Type 0 where
  legal : IsLegalHistory s es
  sees : Sees now (after s es)
  vars : (after s es).vars ≡ s.vars
  ticket : (after s es).ticket ≡ s.ticket

-- the put at an index, and the bind of a field to it
abbrev filling : (number i tag value : ℕ) → Reply → List Event
filling number i tag value said = event 0 (Put External i tag value) reply.Ok ∷ event 0 (Bind (field.External number) (word_of i)) said ∷ []

module _ (number i tag value : ℕ) (is_tag : IsTag tag) (few : value < 2 ^ 48) (small : i < 65536) (said : Reply) where
  Leads-fill : (image : Image) (s : Table) → Sees image s → IsTrue (s.owed 0 External i) → MayFill s External i →
      Holds s 0 (object_of (field.External number)) → said ≡ bound_said (s.words (field.External number)) →
      Leads s (filling number i tag value said)
      (record image { words = bound_by (field_place (field.External number)) (word_of i) (filled_by s.sizes External i tag value image.words) })
  Leads-fill image s h owed may holds is =
      let filled : Image = record image { words = filled_by s.sizes External i tag value image.words } in
      let t = with_cell s 0 External i tag value in
      let seen = Sees-put image s h External i tag value owed is_tag few may in
      let names : index_of (word_of i) ≡ i = omega arith in
      let fresh = subst (λ j. IsTrue (t.fresh 0 External j)) (sym names) (fresh-put image s h External i tag value owed is_tag few may) in
      let follows = FollowsTo-bind filled t seen (field.External number) (word_of i) (holds, omega (arith, small), inl fresh) refl said is in
      record {
        legal = (IsLegal-put image s h External i tag value owed is_tag few may, (follows.legal, tt));
        sees = follows.sees;
        vars = follows.vars;
        ticket = follows.ticket_is;
      }

  -- the abort comes first where the index lies in the area
  Leads-abort : (image : Image) (s : Table) → Sees image s → AreSmall s.sizes → IsTrue (s.owed 0 External i) →
      ((start : ℕ) → start ≤ i → free_below s start ≡ None) →
      Holds s 0 (object_of (field.External number)) → said ≡ bound_said (s.words (field.External number)) →
      Leads s (abort_before 0 s.cycle i ++ filling number i tag value said)
      (record image { words = bound_by (field_place (field.External number)) (word_of i) (filled_by s.sizes External i tag value (aborted_by i image.words)) })
  Leads-abort image s h sizes owed none holds is = by (is_in_area s.cycle i) refl
    where
      by : (test : Bool) → is_in_area s.cycle i ≡ test →
          Leads s ((if test then event 0 Abort reply.Ok ∷ [] else []) ++ filling number i tag value said)
          (record image { words = bound_by (field_place (field.External number)) (word_of i) (filled_by s.sizes External i tag value (aborted_by i image.words)) })
      by false outside =
          subst (λ (ws : List ℕ). Leads s (filling number i tag value said)
          (record image { words = bound_by (field_place (field.External number)) (word_of i) (filled_by s.sizes External i tag value ws) }))
          (sym (ap (λ (test : Bool). if test then slice_set image.words area_place (slice_index image.words area_place % 2 ^ 32 + 2 ^ 32) else image.words)
          (sym (is_above-shown image s h sizes i) ∙ outside)))
          (Leads-fill image s h owed (IfSome-outside s.cycle i outside) holds is)
      by true above =
          let area = slice_index image.words area_place in
          let start = start-above (start_in s.cycle) area i (AreaWordsTell-shown image.words s h.sound sizes h.shows.words).start above in
          let aborted : List ℕ = slice_set image.words area_place (area % 2 ^ 32 + 2 ^ 32) in
          let seen = Sees-abort image s h (area % 2 ^ 32) start.0 (none (area % 2 ^ 32) start.1) in
          let rest = Leads-fill (record image { words = aborted }) (record s { cycle = aborted_in s.cycle }) seen owed (IfSome-aborted s.cycle i) holds is in
          subst (λ (ws : List ℕ). Leads s (event 0 Abort reply.Ok ∷ filling number i tag value said)
          (record image { words = bound_by (field_place (field.External number)) (word_of i) (filled_by s.sizes External i tag value ws) }))
          (sym (ap (λ (test : Bool). if test then aborted else image.words) (sym (is_above-shown image s h sizes i) ∙ above)))
          (record {
            legal = (IsLegal-abort image s h (area % 2 ^ 32) start.0 (none (area % 2 ^ 32) start.1), rest.legal);
            sees = rest.sees;
            vars = rest.vars;
            ticket = rest.ticket;
          })

  -- and the take before all
  Leads-init : (image : Image) (s : Table) (taken : List ℕ) → Sees image s → AreSmall image.sizes → TakesIndex image.words taken image.sizes External (Some i) →
      Holds s 0 (object_of (field.External number)) → said ≡ bound_said (s.words (field.External number)) →
      Leads s (event 0 (Take External) (reply.Index i) ∷ abort_before 0 s.cycle i ++ filling number i tag value said)
      (record image { words = bound_by (field_place (field.External number)) (word_of i) (filled_by image.sizes External i tag value (aborted_by i taken)) })
  Leads-init image s taken h sizes takes holds is =
      let found : Some i ≡ least_free s External = (takes.tables s (record { sound = h.sound; same = h.shows.sizes; shows = h.shows.words })).found_is in
      let t = with_taken s 0 External (Some i) in
      let rest = Leads-abort (record image { words = taken }) t (Sees-take image s h External taken (Some i) takes) (subst AreSmall (sym h.shows.sizes) sizes)
      (put_claim-same s.owed 0 External i true) (λ start past. free_below-taken s i start (sym found) past) holds is in
      let sized = subst (λ (z : Sizes). Leads t (abort_before 0 s.cycle i ++ filling number i tag value said)
      (record image { words = bound_by (field_place (field.External number)) (word_of i) (filled_by z External i tag value (aborted_by i taken)) })) h.shows.sizes rest in
      let later = subst (λ (o : Option ℕ). Leads (with_taken s 0 External o) (abort_before 0 s.cycle i ++ filling number i tag value said)
      (record image { words = bound_by (field_place (field.External number)) (word_of i) (filled_by image.sizes External i tag value (aborted_by i taken)) })) found sized in
      let parts = with_taken-parts image s h External (least_free s External) in
      record {
        legal = (IsLegal-take image s h External (Some i) found, later.legal);
        sees = later.sees;
        vars = later.vars ∙ parts.1;
        ticket = later.ticket ∙ parts.2;
      }

  -- these events are the mutator's own, and change neither what it holds nor its ticket nor what was linked
  record IsOwn (es : List Event) : Type 0 where
    own : AllByRecursion (λ (e : Event). e.by ≡ 0) es
    during : AreDuringPhase es
    held : (held : Held) → held_after held es ≡ held
    ticket : (ticket : OwnTicket) → own_after ticket es ≡ ticket
    linked : (s : Table) (linked : List ℕ) → linked_after s linked es ≡ linked

  IsOwn-init : (test : Bool) → IsOwn (event 0 (Take External) (reply.Index i) ∷ (if test then event 0 Abort reply.Ok ∷ [] else []) ++ filling number i tag value said)
  IsOwn-init true = record {
    own = (refl, (refl, (refl, (refl, tt))));
    during = (tt, (tt, (tt, (tt, tt))));
    held = λ held. refl;
    ticket = λ ticket. refl;
    linked = λ s linked. refl;
  }
  IsOwn-init false = record {
    own = (refl, (refl, (refl, tt)));
    during = (tt, (tt, (tt, tt)));
    held = λ held. refl;
    ticket = λ ticket. refl;
    linked = λ s linked. refl;
  }

module _ (m : Mutator) (small : AreSmall (sizes_of m.image.shape)) (s : Table) (h : Sees (image_of m.image) s) (var f o tag value : ℕ) (few : var < 16) (pair : f < 2)
    (held : Some o ≡ s.vars 0 var) (is_value : value < 2 ^ 48) (said : Reply) (words : Vec ℕ) where
  holds : Holds s 0 (object_of (external_field o f))
  holds = Holds-variable s var o (external_field o f) few (sym held) (object_of-external_field o f pair)

  Makes-full : KeepsHeaders m.image.shape.objects m.image.words.items words.items →
      TakesIndex m.image.words.items words.items (sizes_of m.image.shape) External None → said ≡ reply.Full →
      Makes m (with_parts m words m.image.pending) s (op.Init var f tag value) said
  Makes-full keeps takes is =
      let image = image_of m.image in
      let found = (takes.tables s (record { sound = h.sound; same = h.shows.sizes; shows = h.shows.words })).found_is in
      let seen = Sees-take image s h External words.items None takes in
      let es : List Event = event 0 (Take External) reply.Full ∷ [] in
      let legal = IsLegal-take image s h External None found in
      let parts = with_taken-parts image s h External (least_free s External) in
      record {
        events = es;
        legal = (legal, tt);
        own = (refl, tt);
        shape = WithObject-some (s.vars 0) var o said es (λ q. IsInit 0 s.cycle (external_field q f) tag value said es) (sym held) (inl (is, refl));
        held = sym (ap (λ (vs : ℕ → ℕ → Option ℕ). vs 0) parts.1);
        ticket = sym (ap (λ (ts : ℕ → Option ℕ). with_ticket (ts 0)) parts.2);
        sees = subst (λ (fo : Option ℕ). Sees (record image { words = words.items }) (with_taken s 0 External fo)) found seen;
        handed = λ linked was. HandsOver-parts m words m.image.pending keeps linked s es h (legal, tt) (tt, tt) was;
      }

  Makes-filled : KeepsHeaders m.image.shape.objects m.image.words.items words.items → s.words (external_field o f) ≡ slice_index m.image.words.items (field_place (external_field o f)) →
      FillsTaken m.image.words.items words.items (sizes_of m.image.shape) (field_place (external_field o f)) tag value said →
      Makes m (with_parts m words m.image.pending) s (op.Init var f tag value) said
  Makes-filled keeps word filled =
      let image = image_of m.image in
      let i = filled.index in
      let number = 2 * o + f in
      let within = index-within (sizes_of m.image.shape) External m.image.words.items filled.taken i s (record { sound = h.sound; same = h.shows.sizes; shows = h.shows.words }) filled.takes in
      let most = small.few External in
      let fits : i < 65536 = omega (arith, within, most) in
      let is : said ≡ bound_said (s.words (external_field o f)) = filled.reply ∙ ap bound_said (sym word) in
      let leads = subst (λ (ws : List ℕ). Leads s (event 0 (Take External) (reply.Index i) ∷ abort_before 0 s.cycle i ++ filling number i tag value said) (record image { words = ws })) (sym filled.words)
      (Leads-init number i tag value filled.is_tag is_value fits said image s filled.taken h small filled.takes holds is) in
      let es : List Event = event 0 (Take External) (reply.Index i) ∷ abort_before 0 s.cycle i ++ filling number i tag value said in
      let quiet = IsOwn-init number i tag value filled.is_tag is_value fits said (is_in_area s.cycle i) in
      record {
        events = es;
        legal = leads.legal;
        own = quiet.own;
        shape = WithObject-some (s.vars 0) var o said es (λ q. IsInit 0 s.cycle (external_field q f) tag value said es) (sym held) (inr (i, refl));
        held = quiet.held (s.vars 0) ∙ sym (ap (λ (vs : ℕ → ℕ → Option ℕ). vs 0) leads.vars);
        ticket = quiet.ticket (with_ticket (s.ticket 0)) ∙ sym (ap (λ (ts : ℕ → Option ℕ). with_ticket (ts 0)) leads.ticket);
        sees = leads.sees;
        handed = λ linked was.
            subst (λ xs. HandsOver (with_parts m words m.image.pending) xs (after s es)) (sym (quiet.linked s linked))
            (HandsOver-parts m words m.image.pending keeps linked s es h leads.legal quiet.during was);
      }

  pub Makes-init : s.words (external_field o f) ≡ slice_index m.image.words.items (field_place (external_field o f)) →
      Fills m.image.words.items words.items (sizes_of m.image.shape) (field_place (external_field o f)) tag value said →
      Makes m (with_parts m words m.image.pending) s (op.Init var f tag value) said
  Makes-init word fills =
      let keeps = KeepsHeaders-fills (sizes_of m.image.shape) (external_field o f) tag value said m.image.words.items words.items fills in
      elim fills [
        | inl full ↦ Makes-full keeps full.0 full.1
        | inr filled ↦ Makes-filled keeps word filled
      ]
