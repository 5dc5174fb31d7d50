-- Sharing: a trusted field of an object that can be reached names a cell, which is marked in a cycle, and then bound to the
-- other field.
use Rattle.std.proofs.Common.{◌≡◌, ◌≢◌, ℕ, ◌<◌, ◌==◌, Bool, true, false, [], ◌∷◌, ◌++◌, List, slice_index, slice_set, Option, Some, None, refl, sym, ap, subst, ◌∙◌, inl, inr, arith, eq-eqb, ne_eqb}
use Rattle.std.specs.Global.{Vec}
use Rattle.std.specs.Prelude.{if◌then◌else◌, MatchOption, IsTrue, IfSome}
use Rattle.plain_table.specs.declared.events.Act.TheVariants.{Bind, Mark, Name}
use Rattle.plain_table.specs.declared.events.Cell.{Cell}
use Rattle.plain_table.specs.declared.events.Event.{Event}
use Rattle.plain_table.specs.declared.events.Field.{Field}
use Rattle.plain_table.specs.declared.events.Field.TheVariants as field
use Rattle.plain_table.specs.declared.events.Space.TheVariants.{Trusted}
use Rattle.plain_table.specs.declared.scripts.Op.TheVariants as op
use Rattle.plain_table.specs.declared.reports.Reply.{Reply}
use Rattle.plain_table.specs.declared.reports.Reply.TheVariants as reply
use Rattle.plain_table.specs.Index.{index_of}
use Rattle.plain_table.specs.Places.{put_at}
use Rattle.plain_table.specs.Reachable.{By_variable}
use Rattle.plain_table.specs.Cycle.{Cycle, marked_in}
use Rattle.plain_table.specs.Table.{Table, Sizes}
use Rattle.plain_table.specs.Rows.{IsNamed}
use Rattle.plain_table.specs.Words.{entry_place, field_place, phase_place, phase_word}
use Rattle.plain_table.specs.Finish.{IsReachable}
use Rattle.plain_table.specs.History.{IsLegalHistory, next}
use Rattle.plain_table.specs.Shapes.{IsEmptyCall, IsShape, IsShare, WithObject, event, mark_before, with_ticket}
use Rattle.plain_table.specs.Shows.{Image}
use Rattle.plain_table.proofs.CycleParts.{CycleSound-is}
use Rattle.plain_table.proofs.Options.{IsSome-some, IsSome-value, option_map-some}
use Rattle.plain_table.proofs.PlaceReads.{put_entry-same}
use Rattle.plain_table.proofs.WordPlaces.{entry_place-from, field_place-from, header-apart-field}
use Rattle.entry_word.specs.Image.{image_of, sizes_of}
use Rattle.mutator_calls.specs.declared.heap.Mutator.{Mutator}
use Rattle.mutator_calls.specs.Calls.{Makes, Sees}
use Rattle.mutator_calls.specs.Marks.{marked_in_cycle, with_mark}
use Rattle.mutator_calls.proofs.Fields.{Holds-variable, words-few}
use Rattle.mutator_calls.proofs.Marks.{IsLegal-mark, Sees-mark}
use Rattle.mutator_calls.proofs.Quiet.{IsLegal-name, Makes-name}
use Rattle.mutator_calls.proofs.TrustedBinds.{FollowsTo, FollowsTo-bound, FollowsTo-taken, MayBind}
use Rattle.mutator_calls.proofs.Written.{HandsOver-parts, KeepsHeaders, KeepsHeaders-same, KeepsHeaders-set, KeepsHeaders-trans, with_parts}

-- a word of an entry, and one of a field, are no headers
pub KeepsHeaders-entry : (sizes : Sizes) (words : List ℕ) (i w : ℕ) → KeepsHeaders sizes.objects words (slice_set words (entry_place sizes Trusted i) w)
KeepsHeaders-entry sizes words i w =
    let from = entry_place-from sizes Trusted i in
    KeepsHeaders-set sizes.objects words (slice_set words (entry_place sizes Trusted i) w) (entry_place sizes Trusted i) w refl (omega (arith, from))
    (λ o few is. absurd (omega (arith, from, few, is)))

pub KeepsHeaders-field : (objects : ℕ) (words : List ℕ) (f : Field) (w : ℕ) → KeepsHeaders objects words (slice_set words (field_place f) w)
KeepsHeaders-field objects words f w =
    let from = field_place-from f in
    KeepsHeaders-set objects words (slice_set words (field_place f) w) (field_place f) w refl (omega (arith, from)) (λ o few. header-apart-field o f)

pub KeepsHeaders-marked : (sizes : Sizes) (words : List ℕ) (i : ℕ) → KeepsHeaders sizes.objects words (marked_in_cycle words (entry_place sizes Trusted i))
KeepsHeaders-marked sizes words i = by (slice_index words phase_place == 1)
  where
    by : (test : Bool) → KeepsHeaders sizes.objects words
        (if test then slice_set words (entry_place sizes Trusted i) (with_mark (slice_index words (entry_place sizes Trusted i))) else words)
    by true = KeepsHeaders-entry sizes words i (with_mark (slice_index words (entry_place sizes Trusted i)))
    by false = KeepsHeaders-same sizes.objects words words refl

module _ (image : Image) (s : Table) (h : Sees image s) (var o : ℕ) (held : s.vars 0 var ≡ Some o) (some : s.words (field.Trusted o) ≢ 0) where
  abbrev w : ℕ
  w = s.words (field.Trusted o)

  abbrev i : ℕ
  i = index_of w

  reached : IsReachable s o
  reached = By_variable 0 var o held

  -- the cell that the field names
  pub shared-cell : (cell : Cell) × (s.cells Trusted i ≡ Some cell)
  shared-cell =
      let id = IsSome-value (s.bound (field.Trusted o)) (h.sound.fields.trusted o reached some) in
      let cell = option_map-some (λ (c : Cell). c.id) (s.cells Trusted i) id.0 (h.sound.fields.own (field.Trusted o) id.0 reached id.1) in
      (cell.0, cell.1)

  pub shared-settled : (b : ℕ) → s.fresh b Trusted i ≡ false
  shared-settled b = h.sound.fields.settled o b reached some

  pub shared-named : (c : Cycle) → s.cycle ≡ Some c → IsNamed c Trusted i
  shared-named c is =
      let sound = CycleSound-is s c h.sound is in
      (field.Trusted o, w, refl, refl, sound.touched.touched (field.Trusted o) (sound.traced.variables 0 var o held) some)

  -- once it is marked in a cycle, it may be bound to a trusted field of an object that the mutator holds
  MayBind-shared : (to q : ℕ) → to < 16 → s.vars 0 to ≡ Some q → (d : Option Cycle) → IfSome d (λ c. IsTrue (c.marks Trusted i)) →
      MayBind (record s { cycle = d }) (field.Trusted q) w
  MayBind-shared to q small holds d marked = (
    (to, small, holds),
    words-few s (field.Trusted o) h.sound,
    inr (record { trusted = refl; cell = IsSome-some (s.cells Trusted i) shared-cell.0 shared-cell.1; settled = shared-settled; marked = marked }),
  )

module _ (m : Mutator) (s : Table) (h : Sees (image_of m.image) s) (from o : ℕ) (small : from < 16) (held : s.vars 0 from ≡ Some o) where
  abbrev f : Field
  f = field.Trusted o

  abbrev word : ℕ
  word = s.words f

  abbrev index : ℕ
  index = index_of word

  abbrev name : Event
  name = event 0 (Name f) (reply.Word word)

  abbrev place : ℕ
  place = entry_place (sizes_of m.image.shape) Trusted index

  module _ (to q : ℕ) (holds : s.vars 0 to ≡ Some q) where
    IsShape-share : (said : Reply) (events : List Event) → IsShare 0 s.cycle f (field.Trusted q) said events →
        IsShape 0 s.cycle (s.vars 0) (s.ticket 0) (op.Share from to) said events
    IsShape-share said events is =
        subst (λ x. MatchOption x (IsEmptyCall said events) (λ o. WithObject (s.vars 0) to said events (λ q. IsShare 0 s.cycle (field.Trusted o) (field.Trusted q) said events))) (sym held)
        (subst (λ x. MatchOption x (IsEmptyCall said events) (λ q. IsShare 0 s.cycle f (field.Trusted q) said events)) (sym holds) is)

    -- the field names nothing
    pub Makes-null : word ≡ 0 → Makes m m s (op.Share from to) reply.Null
    Makes-null none =
        Makes-name m s h (op.Share from to) reply.Null f word (Holds-variable s from o f small held refl) refl
        (IsShape-share reply.Null (name ∷ []) (word, inl (none, refl, refl)))

  module _ (some : word ≢ 0) where
    abbrev marked : List ℕ
    marked = marked_in_cycle m.image.words.items place

    place_is : place ≡ entry_place s.sizes Trusted index
    place_is = ap (λ (z : Sizes). entry_place z Trusted index) (sym h.shows.sizes)

    -- in a cycle the image shows the mark
    Sees-marked : (c : Cycle) → s.cycle ≡ Some c →
        Sees (record (image_of m.image) { words = marked }) (next s (event 0 (Mark Trusted index) reply.Ok))
    Sees-marked c is =
        let cell = shared-cell (image_of m.image) s h from o held some in
        let phase : slice_index m.image.words.items phase_place ≡ 1 = h.shows.words.phase ∙ ap phase_word is in
        subst (λ ws. Sees (record (image_of m.image) { words = ws }) (next s (event 0 (Mark Trusted index) reply.Ok)))
        (sym (ap (λ (b : Bool). if b then slice_set m.image.words.items place (with_mark (slice_index m.image.words.items place)) else m.image.words.items)
        (eq-eqb (slice_index m.image.words.items phase_place) 1 phase)))
        (subst (λ p. Sees (record (image_of m.image) { words = slice_set m.image.words.items p (with_mark (slice_index m.image.words.items p)) }) (next s (event 0 (Mark Trusted index) reply.Ok)))
        (sym place_is)
        (Sees-mark (image_of m.image) s h index cell.0 cell.1 c is (shared-named (image_of m.image) s h from o held some c is)))

    -- and else the words stay
    marked-none : s.cycle ≡ None → marked ≡ m.image.words.items
    marked-none is =
        let phase : slice_index m.image.words.items phase_place ≡ 0 = h.shows.words.phase ∙ ap phase_word is in
        ap (λ (b : Bool). if b then slice_set m.image.words.items place (with_mark (slice_index m.image.words.items place)) else m.image.words.items)
        (ne_eqb (slice_index m.image.words.items phase_place) 1 (λ e. omega (arith, e, phase)))

    module _ (to q : ℕ) (small_to : to < 16) (holds : s.vars 0 to ≡ Some q) where
      abbrev bind : Reply → Event
      bind said = event 0 (Bind (field.Trusted q) word) said

      abbrev IsMarked : Cycle → Type 0
      IsMarked c = IsTrue (c.marks Trusted index)

      may : (d : Option Cycle) → IfSome d IsMarked → MayBind (record s { cycle = d }) (field.Trusted q) word
      may = MayBind-shared (image_of m.image) s h from o held some to q small_to holds

      -- the events, with what the bind answers
      module _ (words : Vec ℕ) (said : Reply) (keeps : KeepsHeaders m.image.shape.objects m.image.words.items words.items)
          (follows : (d : Option Cycle) → IfSome d IsMarked → Sees (record (image_of m.image) { words = marked }) (record s { cycle = d }) →
          FollowsTo (record (image_of m.image) { words = words.items }) (record s { cycle = d }) (bind said) s.ticket) where
        Makes-shared : (cycle : Option Cycle) → s.cycle ≡ cycle → Makes m (with_parts m words m.image.pending) s (op.Share from to) said
        Makes-shared None is =
            let events : List Event = name ∷ bind said ∷ [] in
            let follow = follows s.cycle (subst (λ d. IfSome d IsMarked) (sym is) tt)
            (subst (λ ws. Sees (record (image_of m.image) { words = ws }) s) (sym (marked-none is)) h) in
            let legal : IsLegalHistory s events = (IsLegal-name s f word (Holds-variable s from o f small held refl) refl, (follow.legal, tt)) in
            record {
              events = events;
              legal = legal;
              own = (refl, (refl, tt));
              shape = IsShape-share to q holds said events (word, inr (some, ap (λ d. name ∷ mark_before 0 d word ++ bind said ∷ []) (sym is)));
              held = sym (ap (λ (vs : ℕ → ℕ → Option ℕ). vs 0) follow.vars);
              ticket = ap (λ (tickets : ℕ → Option ℕ). with_ticket (tickets 0)) (sym follow.ticket_is);
              sees = follow.sees;
              handed = λ linked. HandsOver-parts m words m.image.pending keeps linked s events h legal (tt, (tt, tt));
            }
        Makes-shared (Some c) is =
            let mark = event 0 (Mark Trusted index) reply.Ok in
            let events : List Event = name ∷ mark ∷ bind said ∷ [] in
            let cell = shared-cell (image_of m.image) s h from o held some in
            let follow = follows (marked_in s.cycle Trusted index)
            (subst (λ d. IfSome (marked_in d Trusted index) IsMarked) (sym is) (put_entry-same c.marks Trusted index true)) (Sees-marked c is) in
            let legal : IsLegalHistory s events = (
              IsLegal-name s f word (Holds-variable s from o f small held refl) refl,
              (IsLegal-mark (image_of m.image) s h index cell.0 cell.1 c is (shared-named (image_of m.image) s h from o held some c is), (follow.legal, tt)),
            ) in
            record {
              events = events;
              legal = legal;
              own = (refl, (refl, (refl, tt)));
              shape = IsShape-share to q holds said events (word, inr (some, ap (λ d. name ∷ mark_before 0 d word ++ bind said ∷ []) (sym is)));
              held = sym (ap (λ (vs : ℕ → ℕ → Option ℕ). vs 0) follow.vars);
              ticket = ap (λ (tickets : ℕ → Option ℕ). with_ticket (tickets 0)) (sym follow.ticket_is);
              sees = follow.sees;
              handed = λ linked. HandsOver-parts m words m.image.pending keeps linked s events h legal (tt, (tt, (tt, tt)));
            }

      -- the other field names something already
      pub Makes-share_taken : (words : Vec ℕ) → words.items ≡ marked → s.words (field.Trusted q) ≢ 0 →
          Makes m (with_parts m words m.image.pending) s (op.Share from to) (reply.Taken (s.words (field.Trusted q)))
      Makes-share_taken words is taken =
          Makes-shared words (reply.Taken (s.words (field.Trusted q)))
          (subst (KeepsHeaders m.image.shape.objects m.image.words.items) (sym is) (KeepsHeaders-marked (sizes_of m.image.shape) m.image.words.items index))
          (λ d marks sees. subst (λ ws. FollowsTo (record (image_of m.image) { words = ws }) (record s { cycle = d }) (bind (reply.Taken (s.words (field.Trusted q)))) s.ticket) (sym is)
          (FollowsTo-taken (record (image_of m.image) { words = marked }) (record s { cycle = d }) sees (field.Trusted q) word (may d marks) taken))
          s.cycle refl

      -- it comes to name the cell
      pub Makes-share_ok : (words : Vec ℕ) → words.items ≡ slice_set marked (field_place (field.Trusted q)) word → s.words (field.Trusted q) ≡ 0 →
          Makes m (with_parts m words m.image.pending) s (op.Share from to) reply.Ok
      Makes-share_ok words is none =
          Makes-shared words reply.Ok
          (subst (KeepsHeaders m.image.shape.objects m.image.words.items) (sym is)
          (KeepsHeaders-trans m.image.shape.objects m.image.words.items marked (slice_set marked (field_place (field.Trusted q)) word)
          (KeepsHeaders-marked (sizes_of m.image.shape) m.image.words.items index)
          (KeepsHeaders-field m.image.shape.objects marked (field.Trusted q) word)))
          (λ d marks sees. subst (λ ws. FollowsTo (record (image_of m.image) { words = ws }) (record s { cycle = d }) (bind reply.Ok) s.ticket) (sym is)
          (FollowsTo-bound (record (image_of m.image) { words = marked }) (record s { cycle = d }) sees (field.Trusted q) word (may d marks) none
          (ap (λ (b : Bool). if b then put_at s.ticket 0 (Some index) else s.ticket) (shared-settled (image_of m.image) s h from o held some 0))))
          s.cycle refl
