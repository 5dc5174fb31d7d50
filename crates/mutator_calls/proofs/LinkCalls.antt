-- Links: the word of their target's object, a global that is written, and a reference that is written after its target was
-- shaded.
use Rattle.std.proofs.Common.{◌≡◌, ◌≢◌, ◌⊎◌, ℕ, ◌+◌, ◌%◌, ◌<◌, ◌≤◌, List, [], ◌∷◌, ◌++◌, length, map, take, slice_index, slice_set, Option, Some, None, IsSome, refl, sym, ap, subst, ◌∙◌, inl, inr, arith, get_or-set_other, length-take-le}
use Rattle.std.specs.Prelude.{IfSome, IsSomeAnd}
use Rattle.std.specs.Option.{option_map, option_to_list}
use Rattle.std.proofs.lemmas.Option.{same_Some}
use Rattle.plain_table.specs.declared.events.Act.TheVariants.{Link}
use Rattle.plain_table.specs.declared.events.Event.{Event}
use Rattle.plain_table.specs.declared.events.Spot.TheVariants.{Global, Ref}
use Rattle.plain_table.specs.declared.scripts.Op.{Op}
use Rattle.plain_table.specs.declared.scripts.Op.TheVariants as op
use Rattle.plain_table.specs.declared.reports.Reply.{Reply}
use Rattle.plain_table.specs.declared.reports.Reply.TheVariants as reply
use Rattle.plain_table.specs.Cycle.{Cycle}
use Rattle.plain_table.specs.Table.{Table}
use Rattle.plain_table.specs.Rows.{IsFull, object_in}
use Rattle.plain_table.specs.Words.{count_place, global_place, header_place, object_word, phase_place, phase_word, reference_place}
use Rattle.plain_table.specs.History.{IsLegal, next}
use Rattle.plain_table.specs.Shapes.{IsLink, WithTarget, event}
use Rattle.plain_table.specs.Shows.{IsCovered, IsCoveredIn, Shows}
use Rattle.plain_table.proofs.Options.{IfSome-is, IsSome-some, IsSome-value}
use Rattle.plain_table.proofs.PlaceReads.{read_pair}
use Rattle.plain_table.proofs.WordPlaces.{header-apart-reference}
use Rattle.table_laws.specs.Steady.{IsDuringPhase}
use Rattle.word_laws.specs.CoverLaws.{IsClear}
use Rattle.word_laws.proofs.CoverSteps.{IsStep-next}
use Rattle.word_laws.proofs.CoveredWords.{CoveredWordsStay-step}
use Rattle.word_laws.proofs.LinkWords.{LinkWordsFollow-row}
use Rattle.entry_word.specs.Image.{IsValidShape, image_of, pending_of, sizes_of}
use Rattle.sweeper.specs.Begin.{HasRoom}
use Rattle.sweeper.specs.Late.{AreOwed}
use Rattle.sweeper.specs.Shading.{Shades, names, white_in}
use Rattle.sweeper.proofs.OwedRoom.{OwedObjectsLeaveRoom-holds}
use Rattle.mutator_calls.specs.declared.heap.Mutator.{Mutator}
use Rattle.mutator_calls.specs.Calls.{AreHanded, HandsOver, IsReady, Makes, MakesEach, Sees, owed_of}
use Rattle.mutator_calls.specs.Objects.{IsShadedIn, Rewrites, target_word}
use Rattle.mutator_calls.proofs.Seen.{HasPending, HasVariables, IsCovered-next}
use Rattle.mutator_calls.proofs.Kept.{HandsOver-after, IsKept, IsLawful-made}
use Rattle.mutator_calls.proofs.ObjectCalls.{IsKept-word, IsReady-word, Sees-rewritten}
use Rattle.mutator_calls.proofs.Fields.{WithObject-some}
use Rattle.mutator_calls.proofs.Written.{count-few}
use Rattle.mutator_calls.proofs.ShadedTargets.{IsTargetShaded, IsTargetShaded-shades}

-- the word to link is that of the target's object
pub target-tells : (s : Table) (target : Option ℕ) (word : ℕ) → IfSome target (λ v. v < 16) → Some word ≡ target_word s target →
    (word ≡ object_word (object_in s 0 target)) × IsFull s 0 target
target-tells s None word small is = (same_Some word 0 is, tt)
target-tells s (Some var) word small is = by (s.vars 0 var) refl is
  where
    by : (found : Option ℕ) → s.vars 0 var ≡ found → Some word ≡ option_map (λ o. o + 1) found → (word ≡ object_word (s.vars 0 var)) × ((var < 16) × IsSome (s.vars 0 var))
    by None at is = absurd (cc)
    by (Some o) at is = (same_Some word (o + 1) is ∙ ap object_word (sym at), (small, IsSome-some (s.vars 0 var) o at))

pub WithTarget-full : (s : Table) (target : Option ℕ) (said : Reply) (events : List Event) (Shape : Type 0) → IsFull s 0 target → Shape →
    WithTarget (s.vars 0) target said events Shape
WithTarget-full s None said events Shape full shape = shape
WithTarget-full s (Some var) said events Shape full shape =
    let o = IsSome-value (s.vars 0 var) full.1 in
    WithObject-some (s.vars 0) var o.0 said events (λ o. Shape) o.1 shape

-- a global is written
module _ (old new : Mutator) (g word : ℕ) (few : g < 16) (w : Rewrites old new (slice_set old.image.words.items (global_place g) word) old.image.vars.items) where
  global-apart : (o : ℕ) → header_place o ≢ global_place g
  global-apart o = λ e. omega (arith, e, few)

  IsKept-global : IsKept old new
  IsKept-global = IsKept-word old new (global_place g) word old.image.vars.items w global-apart (λ e. omega (arith, e))

  pub IsReady-global : (call : Op) (said : Reply) → IsReady old → MakesEach old new call said → IsReady new
  IsReady-global call said ready makes =
      IsReady-word old new (global_place g) word old.image.vars.items w global-apart (λ e. omega (arith, e)) (λ e. omega (arith, e)) ready
      (IsLawful-made old new call said ready makes)

  pub Makes-link_global : (s : Table) → Sees (image_of old.image) s → (target : Option ℕ) → IfSome target (λ v. v < 16) → Some word ≡ target_word s target →
      Makes old new s (op.SetG g target) reply.Ok
  Makes-link_global s h target small is =
      let e = event 0 (Link (Global g) target) reply.Ok in
      let tells = target-tells s target word small is in
      let legal : IsLegal s e = ((few, tells.1), refl) in record {
        events = e ∷ [];
        legal = (legal, tt);
        own = (refl, tt);
        shape = WithTarget-full s target reply.Ok (e ∷ []) (IsLink 0 (Global g) target reply.Ok (e ∷ [])) tells.1 refl;
        held = refl;
        ticket = refl;
        sees = Sees-rewritten old new (slice_set old.image.words.items (global_place g) word) old.image.vars.items w s h e legal tt
            (subst (λ n. Shows (slice_set old.image.words.items (global_place g) n) (next s e)) (sym tells.0)
            (LinkWordsFollow-row old.image.words.items s e (Global g) target tt h.shows.words legal refl))
            (IsCovered-next (image_of old.image) s e h legal tt (slice_set old.image.words.items (global_place g) word)
            (λ o less. get_or-set_other old.image.words.items (global_place g) (header_place o) word 0 (global-apart o)) (λ o k. refl))
            h.shows.variables refl;
        handed = λ linked. HandsOver-after old new IsKept-global linked s (e ∷ []) h.sound (ap (λ z. z.objects) h.shows.sizes) (legal, tt) (tt, tt);
      }

-- the list has room for all white objects
pub shade-room : (m : Mutator) → IsReady m → m.owed + white_in m.image.words.items (length m.list.items) ≤ length m.list.items
shade-room m ready =
    let long : length (owed_of m) ≡ m.owed = length-take-le m.owed m.list.items (subst (λ n. m.owed ≤ n) (sym ready.room) ready.few) in
    subst (λ n. n + white_in m.image.words.items (length m.list.items) ≤ length m.list.items) long
    (OwedObjectsLeaveRoom-holds m.image.words.items (owed_of m) (length m.list.items) ready.owed
    (subst (λ n. slice_index m.image.words.items count_place ≤ n) (sym ready.room) (count-few m ready)))

-- the mutator after the object of a word was shaded, at a table
pub record IsShadedAt (old mid : Mutator) (x : Option ℕ) (s : Table) : Type 0 where
  pub sees : Sees (image_of mid.image) s
  pub clear : IfSome s.cycle (λ c. IsClear mid.image.words.items x)
  pub handed : (linked : List ℕ) → HandsOver old linked s → HandsOver mid (option_to_list x ++ linked) s
  pub phase : slice_index mid.image.words.items phase_place ≡ slice_index old.image.words.items phase_place
  pub room : length mid.list.items ≡ old.image.shape.objects
  pub few : mid.owed ≤ old.image.shape.objects
  pub owed : AreOwed mid.image.words.items (owed_of mid)

module _ (old mid : Mutator) (word : ℕ) (w : IsShadedIn old mid word) (ready : IsReady old) (s : Table) (h : Sees (image_of old.image) s)
    (x : Option ℕ) (word_is : word ≡ object_word x) (held : (o : ℕ) → x ≡ Some o → (b : ℕ) × (v : ℕ) × (s.vars b v ≡ Some o)) where
  Sees-mid : Shows mid.image.words.items s → IsCovered mid.image.words.items s → Sees (image_of mid.image) s
  Sees-mid shows covered = record {
    sound = h.sound;
    shows = record {
      sizes = h.shows.sizes ∙ ap sizes_of (sym w.shape);
      words = shows;
      variables = subst (λ vs. HasVariables vs.items s.vars) (sym w.variables) h.shows.variables;
      pending = subst (λ ps. HasPending (map (option_map pending_of) ps.items) s s.ticket) (sym w.pending) h.shows.pending;
    };
    covered = covered;
  }

  IsShadedAt-outside : s.cycle ≡ None → (mid.image.words.items ≡ old.image.words.items) × (mid.list ≡ old.list) × (mid.owed ≡ old.owed) → IsShadedAt old mid x s
  IsShadedAt-outside is same = record {
    sees = Sees-mid (subst (λ ws. Shows ws s) (sym same.0) h.shows.words) (subst (λ ws. IsCovered ws s) (sym same.0) h.covered);
    clear = subst (λ cycle. IfSome cycle (λ c. IsClear mid.image.words.items x)) (sym is) tt;
    handed = λ linked was. subst (λ cycle. IfSome cycle (AreHanded mid.image.words.items (owed_of mid) (option_to_list x ++ linked) s.count)) (sym is) tt;
    phase = ap (λ ws. slice_index ws phase_place) same.0;
    room = ap (λ l. length l.items) same.1 ∙ ready.room;
    few = subst (λ n. n ≤ old.image.shape.objects) (sym same.2) ready.few;
    owed = subst (λ ws. AreOwed ws (owed_of mid)) (sym same.0)
        (subst (AreOwed old.image.words.items) (sym (ap (λ n. take n mid.list.items) same.2 ∙ ap (λ l. take old.owed l.items) same.1)) ready.owed);
  }

  module _ (c : Cycle) (is : s.cycle ≡ Some c)
      (sh : Shades old.image.words.items mid.image.words.items old.list.items mid.list.items old.owed mid.owed (names word)) where
    many : length old.list.items ≡ s.sizes.objects
    many = ready.room ∙ sym (ap (λ z. z.objects) h.shows.sizes)

    covered : IsCoveredIn old.image.words.items s c
    covered = IfSome-is s.cycle (IsCoveredIn old.image.words.items s) c is h.covered

    shaded : IsTargetShaded old.image.words.items mid.image.words.items (owed_of old) (owed_of mid) s c x
    shaded =
        IsTargetShaded-shades old.image.words.items mid.image.words.items old.list.items mid.list.items old.owed mid.owed word sh s c h.sound is many h.shows.words
        covered x word_is held (shade-room old ready) ready.owed

    IsShadedAt-inside : IsShadedAt old mid x s
    IsShadedAt-inside = record {
      sees = Sees-mid shaded.shows (subst (λ cycle. IfSome cycle (IsCoveredIn mid.image.words.items s)) (sym is) shaded.covered);
      clear = subst (λ cycle. IfSome cycle (λ d. IsClear mid.image.words.items x)) (sym is) (clear x refl);
      handed = λ linked was. subst (λ cycle. IfSome cycle (AreHanded mid.image.words.items (owed_of mid) (option_to_list x ++ linked) s.count)) (sym is)
          (shaded.handed linked (IfSome-is s.cycle (AreHanded old.image.words.items (owed_of old) linked s.count) c is was));
      phase = sh.rest phase_place (λ o few e. omega (arith, e));
      room = sh.list_long ∙ ready.room;
      few = subst (λ n. mid.owed ≤ n) ready.room (omega (arith, sh.room, shade-room old ready));
      owed = shaded.owed;
    }
      where
        clear : (y : Option ℕ) → x ≡ y → IsClear mid.image.words.items y
        clear None eq = tt
        clear (Some q) eq = shaded.target q eq

  pub IsShadedAt-made : IsShadedAt old mid x s
  IsShadedAt-made = by s.cycle refl
    where
      by : (cycle : Option Cycle) → s.cycle ≡ cycle → IsShadedAt old mid x s
      by None is =
          let none : slice_index old.image.words.items phase_place ≡ 0 = h.shows.words.phase ∙ ap phase_word is in
          IsShadedAt-outside is (w.outside (λ one. omega (arith, one, none)))
      by (Some c) is = IsShadedAt-inside c is (w.inside (h.shows.words.phase ∙ ap phase_word is))

object_in-held : (s : Table) (target : Option ℕ) (o : ℕ) → object_in s 0 target ≡ Some o → (b : ℕ) × (v : ℕ) × (s.vars b v ≡ Some o)
object_in-held s None o is = absurd (cc)
object_in-held s (Some var) o is = (0, var, is)

-- a mutator that shades the target's object
module _ (old mid : Mutator) (word : ℕ) (w : IsShadedIn old mid word) (ready : IsReady old) (target : Option ℕ) (small : IfSome target (λ v. v < 16))
    (is : (s : Table) → Sees (image_of old.image) s → Some word ≡ target_word s target) where
  IsShadedAt-each : (s : Table) → Sees (image_of old.image) s → IsShadedAt old mid (object_in s 0 target) s
  IsShadedAt-each s h = IsShadedAt-made old mid word w ready s h (object_in s 0 target) (target-tells s target word small (is s h)).0 (object_in-held s target)

  IsReady-shaded : IsReady mid
  IsReady-shaded =
      let s = ready.lawful.0 in
      let at = IsShadedAt-each s (record { sound = ready.lawful.1; shows = ready.lawful.2; covered = ready.lawful.3 }) in
      let objects = ap (λ sh. sh.objects) (sym w.shape) in record {
        shape = subst IsValidShape (sym w.shape) ready.shape;
        lawful = (s, at.sees.sound, at.sees.shows, at.sees.covered);
        room = at.room ∙ objects;
        few = subst (λ n. mid.owed ≤ n) objects at.few;
        owed = at.owed;
        area = λ cycle. subst (λ a. IsSomeAnd a (λ a. HasRoom a mid.image.shape.objects)) (sym w.area)
            (subst (λ n. IsSomeAnd old.area (λ a. HasRoom a n)) objects (ready.area (sym at.phase ∙ cycle)));
      }

  -- and then writes the reference
  module _ (new : Mutator) (var k object : ℕ) (var_few : var < 16) (few : k < 4) (object_few : object < old.image.shape.objects)
      (there : (s : Table) → Sees (image_of old.image) s → s.vars 0 var ≡ Some object)
      (written : Rewrites mid new (slice_set mid.image.words.items (reference_place object k) word) mid.image.vars.items) where
    abbrev later : List ℕ
    later = slice_set mid.image.words.items (reference_place object k) word

    header-apart : (o : ℕ) → header_place o ≢ reference_place object k
    header-apart o = header-apart-reference o object k few

    later-header : (o : ℕ) → slice_index later (header_place o) ≡ slice_index mid.image.words.items (header_place o)
    later-header o = get_or-set_other mid.image.words.items (reference_place object k) (header_place o) word 0 (header-apart o)

    IsKept-link : IsKept mid new
    IsKept-link = IsKept-word mid new (reference_place object k) word mid.image.vars.items written header-apart (λ e. omega (arith, e))

    IsClear-later : (y : Option ℕ) → IsClear mid.image.words.items y → IsClear later y
    IsClear-later None clear = tt
    IsClear-later (Some q) clear = ap (λ n. n % 2) (later-header q) ∙ clear

    module _ (s : Table) (h : Sees (image_of old.image) s) where
      abbrev linking : Event
      linking = event 0 (Link (Ref object k) target) reply.Ok

      abbrev x : Option ℕ
      x = object_in s 0 target

      tells : (word ≡ object_word x) × IsFull s 0 target
      tells = target-tells s target word small (is s h)

      at : IsShadedAt old mid x s
      at = IsShadedAt-each s h

      legal-link : IsLegal s linking
      legal-link = ((((var, var_few, there s h), few), tells.1), refl)

      covered-link : IsCovered later (next s linking)
      covered-link =
          CoveredWordsStay-step mid.image.words.items later s (next s linking) (IsStep-next s linking h.sound (λ policy e. subst IsDuringPhase e tt))
          (λ o less. later-header o) (each s.cycle at.clear) at.sees.covered
        where
          each : (cycle : Option Cycle) → IfSome cycle (λ c. IsClear mid.image.words.items x) →
              IfSome cycle (λ c. (o i : ℕ) → o < s.sizes.objects → ((next s linking).refs o i ≡ s.refs o i) ⊎ IsClear later ((next s linking).refs o i))
          each None clear = tt
          each (Some c) clear = λ o i less. elim (read_pair x s.refs object k o i) [
            | inl r ↦ inr (subst (IsClear later) (sym r.1) (IsClear-later x clear))
            | inr r ↦ inl r.1
          ]

      pub Makes-link : Makes old new s (op.Link var k target) reply.Ok
      Makes-link = record {
        events = linking ∷ [];
        legal = (legal-link, tt);
        own = (refl, tt);
        shape = WithObject-some (s.vars 0) var object reply.Ok (linking ∷ []) (λ o. WithTarget (s.vars 0) target reply.Ok (linking ∷ []) (IsLink 0 (Ref o k) target reply.Ok (linking ∷ [])))
            (there s h) (WithTarget-full s target reply.Ok (linking ∷ []) (IsLink 0 (Ref object k) target reply.Ok (linking ∷ [])) tells.1 refl);
        held = refl;
        ticket = refl;
        sees = Sees-rewritten mid new later mid.image.vars.items written s at.sees linking legal-link tt
            (subst (λ n. Shows (slice_set mid.image.words.items (reference_place object k) n) (next s linking)) (sym tells.0)
            (LinkWordsFollow-row mid.image.words.items s linking (Ref object k) target
            (subst (λ n. object < n) (sym (ap (λ z. z.objects) h.shows.sizes)) object_few) at.sees.shows.words legal-link refl))
            covered-link at.sees.shows.variables refl;
        handed = λ linked was. HandsOver-after mid new IsKept-link (option_to_list x ++ linked) s (linking ∷ []) h.sound (ap (λ z. z.objects) at.sees.shows.sizes)
            (legal-link, tt) (tt, tt) (at.handed linked was);
      }

    pub IsReady-link : IsReady new
    IsReady-link =
        IsReady-word mid new (reference_place object k) word mid.image.vars.items written header-apart (λ e. omega (arith, e)) (λ e. omega (arith, e)) IsReady-shaded
        (IsLawful-made old new (op.Link var k target) reply.Ok ready Makes-link)
