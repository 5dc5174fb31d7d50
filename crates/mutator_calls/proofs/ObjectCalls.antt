-- The calls of objects at a table: what a mutator makes that writes words or variables with one event.
use Rattle.std.proofs.Common.{◌≡◌, ◌≢◌, ℕ, ◌+◌, ◌*◌, ◌-◌, ◌/◌, ◌%◌, ◌<◌, ◌≤◌, Bool, true, false, nat_lt, List, [], ◌∷◌, length, map, slice_index, slice_set, Option, Some, None, refl, sym, ap, subst, ◌∙◌, inl, inr, arith, ne_eqb, get_or-set_same, get_or-set_other, length-set}
use Rattle.std.specs.Prelude.{◌||◌, nat_le, if◌then◌else◌, IsSomeAnd}
use Rattle.std.specs.List.{Contains}
use Rattle.std.specs.Option.{option_map, option_map_or}
use Rattle.std.proofs.lemmas.Bool.{le-leb, lt-ltb}
use Rattle.std.proofs.lemmas.Bool.Decides.{eqb_tells}
use Rattle.plain_table.specs.declared.events.Act.TheVariants.{New, Drop, Get}
use Rattle.plain_table.specs.declared.events.Event.{Event}
use Rattle.plain_table.specs.declared.events.Spot.{Spot}
use Rattle.plain_table.specs.declared.scripts.Op.{Op}
use Rattle.plain_table.specs.declared.scripts.Op.TheVariants as op
use Rattle.plain_table.specs.declared.reports.Reply.{Reply}
use Rattle.plain_table.specs.declared.reports.Reply.TheVariants as reply
use Rattle.plain_table.specs.Cycle.{Cycle}
use Rattle.plain_table.specs.Places.{put_at, put_pair}
use Rattle.plain_table.specs.Table.{Table}
use Rattle.plain_table.specs.Rows.{IsSpotOf, at_spot, with_object}
use Rattle.plain_table.specs.Words.{count_place, header_place, object_word, phase_place}
use Rattle.plain_table.specs.History.{IsLegal, next}
use Rattle.plain_table.specs.Shapes.{Held, IsShape, event, held_next, with_ticket}
use Rattle.plain_table.specs.Shows.{IsCovered, IsHeader, IsLawful, IsScanned, IsShaded, Shows, is_black}
use Rattle.plain_table.proofs.PlaceReads.{read_pair}
use Rattle.table_laws.specs.Steady.{IsDuringPhase}
use Rattle.word_laws.specs.WordLaws.{WritesNothing}
use Rattle.word_laws.proofs.CountWords.{CountWordsFollow-row}
use Rattle.word_laws.proofs.CoveredWords.{header_word-half}
use Rattle.word_laws.proofs.QuietWords.{WordsStay-all}
use Rattle.entry_word.specs.Image.{IsValidShape, image_of, pending_of, sizes_of}
use Rattle.sweeper.specs.Begin.{HasRoom}
use Rattle.sweeper.specs.Late.{AreOwed}
use Rattle.mutator_calls.specs.declared.heap.Mutator.{Mutator}
use Rattle.mutator_calls.specs.Calls.{HandsOver, IsReady, Makes, MakesEach, Sees, owed_of}
use Rattle.mutator_calls.specs.Objects.{Rewrites, object_reply}
use Rattle.mutator_calls.proofs.Seen.{HasPending, HasPending-next, HasVariables, IsCovered-next, Sees-next}
use Rattle.mutator_calls.proofs.Written.{count-few}
use Rattle.mutator_calls.proofs.Kept.{HandsOver-after, IsKept, IsLawful-made, IsReady-kept, owed_of-kept}

-- a variable of mutator 0 comes to hold an object or nothing
pub HasVariables-put : (variables : List ℕ) (vars : ℕ → ℕ → Option ℕ) (var : ℕ) (x : Option ℕ) → var < 16 → HasVariables variables vars →
    HasVariables (slice_set variables var (object_word x)) (put_pair vars 0 var x)
HasVariables-put variables vars var x few h = (
  length-set variables var (object_word x) ∙ h.0,
  λ b v mutator small. elim (read_pair x vars 0 var b v) [
    | inl r ↦
        let first = r.0.0 in
        let second = r.0.1 in
        let here : 16 * b + v ≡ var = omega (arith, first, second) in
        let long = h.0 in
        ap (slice_index (slice_set variables var (object_word x))) here ∙ get_or-set_same variables var (object_word x) 0 (omega (arith, few, long)) ∙ ap object_word (sym r.1)
    | inr r ↦
        get_or-set_other variables var (16 * b + v) (object_word x) 0 (λ e. r.0 (omega (arith, e, few), omega (arith, e, few)))
        ∙ h.1 b v mutator small ∙ ap object_word (sym r.1)
  ],
)

object_reply-word : (x : Option ℕ) → object_reply (object_word x) ≡ option_map_or reply.Obj x reply.Nothing
object_reply-word None = refl
object_reply-word (Some o) =
    ap (λ (b : Bool). if b then reply.Nothing else reply.Obj (o + 1 - 1)) (ne_eqb (o + 1) 0 (λ e. omega (arith, e)))
    ∙ ap reply.Obj (omega arith)

module _ (old new : Mutator) (written held : List ℕ) (w : Rewrites old new written held) where
  pub IsKept-rewritten : ((o : ℕ) → o < old.image.shape.objects → slice_index written (header_place o) ≡ slice_index old.image.words.items (header_place o)) →
      slice_index written phase_place ≡ slice_index old.image.words.items phase_place → IsKept old new
  IsKept-rewritten headers phase = record {
    shape = w.shape;
    list = w.list;
    listed = w.listed;
    area = w.area;
    headers = λ o few. ap (λ ws. slice_index ws (header_place o)) w.words ∙ headers o few;
    phase = ap (λ ws. slice_index ws phase_place) w.words ∙ phase;
  }

  module _ (s : Table) (h : Sees (image_of old.image) s) (e : Event) (legal : IsLegal s e) (during : IsDuringPhase e.act) where
    pub Sees-rewritten : Shows written (next s e) → IsCovered written (next s e) → HasVariables held (next s e).vars → (next s e).ticket ≡ s.ticket →
        Sees (image_of new.image) (next s e)
    Sees-rewritten shows covered variables ticket =
        Sees-next (image_of old.image) s e h legal during (image_of new.image) (ap sizes_of w.shape)
        (subst (λ ws. Shows ws (next s e)) (sym w.words) shows)
        (subst (λ ws. IsCovered ws (next s e)) (sym w.words) covered)
        (subst (λ vs. HasVariables vs (next s e).vars) (sym w.variables) variables)
        (subst (λ ps. HasPending (map (option_map pending_of) ps.items) (next s e) (next s e).ticket) (sym w.pending)
        (subst (HasPending (image_of old.image).pending (next s e)) (sym ticket) (HasPending-next (image_of old.image) s e h legal during s.ticket h.shows.pending)))

-- one word is written, and it is no header and not the phase
module _ (old new : Mutator) (place word : ℕ) (held : List ℕ) (w : Rewrites old new (slice_set old.image.words.items place word) held)
    (headers : (o : ℕ) → header_place o ≢ place) (phase : phase_place ≢ place) where
  pub word-there : (other : ℕ) → other ≢ place → slice_index (slice_set old.image.words.items place word) other ≡ slice_index old.image.words.items other
  word-there other apart = get_or-set_other old.image.words.items place other word 0 apart

  pub IsKept-word : IsKept old new
  IsKept-word = IsKept-rewritten old new (slice_set old.image.words.items place word) held w (λ o few. word-there (header_place o) (headers o)) (word-there phase_place phase)

  -- nor the count
  pub IsReady-word : count_place ≢ place → IsReady old → IsLawful (image_of new.image) → IsReady new
  IsReady-word count ready lawful =
      IsReady-kept old new IsKept-word (ap (λ ws. slice_index ws count_place) w.words ∙ word-there count_place count) (count-few old ready) ready lawful

-- a variable changes, and nothing else
module _ (old new : Mutator) (var word : ℕ) (w : Rewrites old new old.image.words.items (slice_set old.image.vars.items var word)) where
  IsKept-held : IsKept old new
  IsKept-held = IsKept-rewritten old new old.image.words.items (slice_set old.image.vars.items var word) w (λ o few. refl) refl

  pub IsReady-held : (call : Op) (said : Reply) → IsReady old → MakesEach old new call said → IsReady new
  IsReady-held call said ready makes =
      IsReady-kept old new IsKept-held (ap (λ ws. slice_index ws count_place) w.words) (count-few old ready) ready (IsLawful-made old new call said ready makes)

module _ (old new : Mutator) (var : ℕ) (small : var < 16) (s : Table) (h : Sees (image_of old.image) s) (x : Option ℕ)
    (w : Rewrites old new old.image.words.items (slice_set old.image.vars.items var (object_word x))) where
  Sees-held : (e : Event) (legal : IsLegal s e) (during : IsDuringPhase e.act) → WritesNothing e.act e.said → (next s e).vars ≡ put_pair s.vars 0 var x →
      (next s e).refs ≡ s.refs → (next s e).ticket ≡ s.ticket → Sees (image_of new.image) (next s e)
  Sees-held e legal during quiet vars refs ticket =
      Sees-rewritten old new old.image.words.items (slice_set old.image.vars.items var (object_word x)) w s h e legal during
      (WordsStay-all old.image.words.items s e h.shows.words legal quiet)
      (IsCovered-next (image_of old.image) s e h legal during old.image.words.items (λ o few. refl) (λ o k. ap (λ (rs : ℕ → ℕ → Option ℕ). rs o k) refs))
      (subst (HasVariables (slice_set old.image.vars.items var (object_word x))) (sym vars) (HasVariables-put old.image.vars.items s.vars var x small h.shows.variables))
      ticket

  handed-held : (linked : List ℕ) (e : Event) → IsLegal s e → IsDuringPhase e.act → HandsOver old linked s → HandsOver new linked (next s e)
  handed-held linked e legal during =
      HandsOver-after old new (IsKept-held old new var (object_word x) w) linked s (e ∷ []) h.sound (ap (λ z. z.objects) h.shows.sizes) (legal, tt) (during, tt)

pub Makes-drop : (old new : Mutator) (var : ℕ) → var < 16 → (s : Table) → Sees (image_of old.image) s →
    Rewrites old new old.image.words.items (slice_set old.image.vars.items var 0) → Makes old new s (op.Drop var) reply.Ok
Makes-drop old new var small s h w =
    let e = event 0 (Drop var) reply.Ok in
    let legal : IsLegal s e = ((omega arith, small), refl) in record {
      events = e ∷ [];
      legal = (legal, tt);
      own = (refl, tt);
      shape = refl;
      held = refl;
      ticket = refl;
      sees = Sees-held old new var small s h None w e legal tt tt refl refl refl;
      handed = λ linked. handed-held old new var small s h None w linked e legal tt;
    }

-- the variables after a get
held_next-get : (held : Held) (into : ℕ) (spot : Spot) (x : Option ℕ) →
    held_next held (Get into spot) (option_map_or reply.Obj x reply.Nothing) ≡ put_at held into x
held_next-get held into spot None = refl
held_next-get held into spot (Some o) = refl

-- the object of a word comes into a variable, where the word is that of what stands at a spot
pub Makes-get : (old new : Mutator) (into place : ℕ) → into < 16 → (s : Table) → Sees (image_of old.image) s → (spot : Spot) → IsSpotOf s 0 spot →
    slice_index old.image.words.items place ≡ object_word (at_spot s spot) →
    Rewrites old new old.image.words.items (slice_set old.image.vars.items into (slice_index old.image.words.items place)) →
    (call : Op) (said : Reply) → said ≡ object_reply (slice_index old.image.words.items place) →
    ((r : Reply) → IsShape 0 s.cycle (s.vars 0) (s.ticket 0) call r (event 0 (Get into spot) r ∷ [])) → Makes old new s call said
Makes-get old new into place small s h spot here word w call said is shape =
    let x = at_spot s spot in
    let e = event 0 (Get into spot) said in
    let reply_is : said ≡ option_map_or reply.Obj x reply.Nothing = is ∙ ap object_reply word ∙ object_reply-word x in
    let legal : IsLegal s e = ((omega arith, small, here), reply_is) in
    let now = subst (λ n. Rewrites old new old.image.words.items (slice_set old.image.vars.items into n)) word w in record {
      events = e ∷ [];
      legal = (legal, tt);
      own = (refl, tt);
      shape = shape said;
      held = ap (held_next (s.vars 0) (Get into spot)) reply_is ∙ held_next-get (s.vars 0) into spot x;
      ticket = refl;
      sees = Sees-held old new into small s h x now e legal tt tt refl refl refl;
      handed = λ linked. handed-held old new into small s h x now linked e legal tt;
    }

-- an object that is not made is black in a cycle, and has a header of 0 outside one
or-last : (x y z : Bool) → z ≡ true → (x || y || z) ≡ true
or-last true y z is = refl
or-last false true z is = refl
or-last false false z is = is

unmade-apart : (s : Table) (cycle : Option Cycle) (o word : ℕ) → s.count ≤ o → IsHeader s cycle o word → word % 2 ≡ 1 → (word / 2 % 2 ≡ 1 → ⊥) → ⊥
unmade-apart s None o word past is shaded unscanned = omega (arith, is, shaded)
unmade-apart s (Some c) o word past is shaded unscanned =
    let black : is_black s c o ≡ true = or-last (c.scans o) (c.born o) (nat_le s.count o) (le-leb s.count o past) in
    unscanned (ap (λ w. w / 2 % 2) is.1 ∙ header_word-half is.0 (is_black s c o) ∙ ap (λ (b : Bool). if b then 1 else 0) black)

-- one word is written, and then one variable
pub Rewrites-both : (old mid new : Mutator) (written : List ℕ) (var word : ℕ) → Rewrites old mid written old.image.vars.items →
    Rewrites mid new mid.image.words.items (slice_set mid.image.vars.items var word) → Rewrites old new written (slice_set old.image.vars.items var word)
Rewrites-both old mid new written var word first second = record {
  words = second.words ∙ first.words;
  variables = second.variables ∙ ap (λ vs. slice_set vs var word) first.variables;
  pending = second.pending ∙ first.pending;
  shape = second.shape ∙ first.shape;
  list = second.list ∙ first.list;
  listed = second.listed ∙ first.listed;
  area = second.area ∙ first.area;
}

module _ (old new : Mutator) (var count : ℕ) (ready : IsReady old) (at : slice_index old.image.words.items count_place ≡ count) (room : count < old.image.shape.objects)
    (w : Rewrites old new (slice_set old.image.words.items count_place (count + 1)) (slice_set old.image.vars.items var (count + 1))) where
  abbrev counted : List ℕ
  counted = slice_set old.image.words.items count_place (count + 1)

  header-apart : (o : ℕ) → header_place o ≢ count_place
  header-apart o = λ e. omega (arith, e)

  counted-there : (place : ℕ) → place ≢ count_place → slice_index counted place ≡ slice_index old.image.words.items place
  counted-there place apart = get_or-set_other old.image.words.items count_place place (count + 1) 0 apart

  IsKept-new : IsKept old new
  IsKept-new = IsKept-word old new count_place (count + 1) (slice_set old.image.vars.items var (count + 1)) w header-apart (λ e. omega (arith, e))

  -- the new object is not among those that are owed
  pub IsReady-new : IsLawful (image_of new.image) → IsReady new
  IsReady-new lawful = record {
    shape = subst IsValidShape (sym w.shape) ready.shape;
    lawful = lawful;
    room = ap (λ l. length l.items) w.list ∙ ready.room ∙ ap (λ sh. sh.objects) (sym w.shape);
    few = subst (λ n. n ≤ new.image.shape.objects) (sym w.listed) (subst (λ sh. old.owed ≤ sh.objects) (sym w.shape) ready.few);
    owed = subst (AreOwed new.image.words.items) (sym (owed_of-kept old new IsKept-new)) (record { listed = listed; owed = owed; differ = ready.owed.differ });
    area = λ cycle. subst (λ a. IsSomeAnd a (λ a. HasRoom a new.image.shape.objects)) (sym w.area)
        (subst (λ sh. IsSomeAnd old.area (λ a. HasRoom a sh.objects)) (sym w.shape) (ready.area (sym IsKept-new.phase ∙ cycle)));
  }
    where
      count_is : slice_index new.image.words.items count_place ≡ count + 1
      count_is =
          let long = ready.lawful.2.words.whole in
          ap (λ ws. slice_index ws count_place) w.words ∙ get_or-set_same old.image.words.items count_place (count + 1) 0 (omega (arith, long))

      header_is : (o : ℕ) → o < old.image.shape.objects → slice_index new.image.words.items (header_place o) ≡ slice_index old.image.words.items (header_place o)
      header_is = IsKept-new.headers

      listed : (o : ℕ) → o < slice_index new.image.words.items count_place → IsShaded new.image.words.items o → (IsScanned new.image.words.items o → ⊥) → Contains (owed_of old) o
      listed o made shaded unscanned =
          let below : o < old.image.shape.objects = omega (arith, made, count_is, room) in
          let was_shaded : IsShaded old.image.words.items o = ap (λ n. n % 2) (sym (header_is o below)) ∙ shaded in
          let was_unscanned : IsScanned old.image.words.items o → ⊥ = λ scanned. unscanned (ap (λ n. n / 2 % 2) (header_is o below) ∙ scanned) in
          elim (eqb_tells o count) [
            | inl e ↦
                let s = ready.lawful.0 in
                let objects = ap (λ z. z.objects) ready.lawful.2.sizes in
                let counts = ready.lawful.2.words.count in
                let same = e.1 in
                absurd (unmade-apart s s.cycle o (slice_index old.image.words.items (header_place o)) (omega (arith, counts, at, same))
                (ready.lawful.2.words.headers o (omega (arith, below, objects))) was_shaded was_unscanned)
            | inr e ↦
                let apart = e.1 in
                ready.owed.listed o (omega (arith, made, count_is, at, apart)) was_shaded was_unscanned
          ]

      owed : (o : ℕ) → Contains (owed_of old) o → (o < slice_index new.image.words.items count_place) × IsShaded new.image.words.items o × (IsScanned new.image.words.items o → ⊥)
      owed o there =
          let was = ready.owed.owed o there in
          let made = was.0 in
          let below : o < old.image.shape.objects = omega (arith, made, at, room) in
          (omega (arith, made, at, count_is), ap (λ n. n % 2) (header_is o below) ∙ was.1, λ scanned. was.2 (ap (λ n. n / 2 % 2) (sym (header_is o below)) ∙ scanned))

  module _ (small : var < 16) (s : Table) (h : Sees (image_of old.image) s) where
    count-shown : count ≡ s.count
    count-shown = sym at ∙ h.shows.words.count

    abbrev born : Event
    born = event 0 (New var) (reply.Obj count)

    has_room : nat_lt s.count s.sizes.objects ≡ true
    has_room = let objects = ap (λ z. z.objects) h.shows.sizes in lt-ltb s.count s.sizes.objects (omega (arith, count-shown, room, objects))

    next-new : next s born ≡ with_object s 0 var
    next-new = ap (λ (b : Bool). if b then with_object s 0 var else s) has_room

    legal-new : IsLegal s born
    legal-new = (
      (omega arith, small),
      ap reply.Obj count-shown ∙ ap (λ (b : Bool). if b then reply.Obj s.count else reply.HeapFull) (sym has_room),
    )

    pub Makes-new : Makes old new s (op.New var) (reply.Obj count)
    Makes-new = record {
      events = born ∷ [];
      legal = (legal-new, tt);
      own = (refl, tt);
      shape = refl;
      held = ap (λ o. put_at (s.vars 0) var (Some o)) count-shown ∙ ap (λ (t : Table). t.vars 0) (sym next-new);
      ticket = ap (λ (t : Table). with_ticket (t.ticket 0)) (sym next-new);
      sees = Sees-rewritten old new counted (slice_set old.image.vars.items var (count + 1)) w s h born legal-new tt
          (subst (λ n. Shows (slice_set old.image.words.items count_place (n + 1)) (next s born)) (sym count-shown)
          (CountWordsFollow-row old.image.words.items s born var count h.shows.words legal-new refl refl))
          (IsCovered-next (image_of old.image) s born h legal-new tt counted (λ o few. counted-there (header_place o) (header-apart o))
          (λ o k. ap (λ (t : Table). t.refs o k) next-new))
          (subst (HasVariables (slice_set old.image.vars.items var (count + 1))) (ap (λ (t : Table). t.vars) (sym next-new))
          (subst (λ n. HasVariables (slice_set old.image.vars.items var (count + 1)) (put_pair s.vars 0 var (Some n))) count-shown
          (HasVariables-put old.image.vars.items s.vars var (Some count) small h.shows.variables)))
          (ap (λ (t : Table). t.ticket) next-new);
      handed = λ linked. HandsOver-after old new IsKept-new linked s (born ∷ []) h.sound (ap (λ z. z.objects) h.shows.sizes) (legal-new, tt) (tt, tt);
    }
