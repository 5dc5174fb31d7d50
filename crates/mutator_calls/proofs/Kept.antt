-- What a call keeps: a mutator that leaves headers and the count alone stays ready, and hands over what it handed over
-- before, after events that neither start nor finish a cycle and link no reference.
use Rattle.std.proofs.Common.{◌≡◌, ◌⊎◌, ℕ, ◌+◌, ◌/◌, ◌%◌, ◌<◌, ◌≤◌, List, [], ◌∷◌, length, take, slice_index, Option, Some, None, refl, sym, ap, subst, ◌∙◌, inl, inr, arith}
use Rattle.std.specs.Prelude.{IfSome, IsSomeAnd}
use Rattle.std.specs.List.{AllByRecursion, Contains}
use Rattle.plain_table.specs.declared.events.Act.{Act}
use Rattle.plain_table.specs.declared.events.Act.TheVariants.{Link, Start, Finish}
use Rattle.plain_table.specs.declared.events.Event.{Event}
use Rattle.plain_table.specs.declared.events.Spot.TheVariants.{Global, Ref}
use Rattle.plain_table.specs.declared.scripts.Op.{Op}
use Rattle.plain_table.specs.declared.reports.Reply.{Reply}
use Rattle.plain_table.specs.Reachable.{By_global, By_variable, IsRoot}
use Rattle.plain_table.proofs.CycleParts.{CycleSound-is}
use Rattle.plain_table.specs.Cycle.{Cycle}
use Rattle.plain_table.specs.Table.{Table}
use Rattle.plain_table.specs.Words.{count_place, header_place, phase_place}
use Rattle.plain_table.specs.History.{IsLegalHistory, after, next}
use Rattle.plain_table.specs.Sweeps.{linked_after, linked_next}
use Rattle.plain_table.specs.Sound.{IsSound}
use Rattle.plain_table.specs.Shows.{IsLawful, IsScanned, IsShaded}
use Rattle.table_laws.specs.Steady.{CycleSteady, CyclesSteady, IsDuringPhase}
use Rattle.table_laws.proofs.Soundness.{events-sound}
use Rattle.table_laws.proofs.Steadiness.{events-steady}
use Rattle.entry_word.specs.Image.{IsValidShape, image_of}
use Rattle.sweeper.specs.Begin.{HasRoom}
use Rattle.sweeper.specs.Late.{AreOwed}
use Rattle.mutator_calls.specs.declared.heap.Mutator.{Mutator}
use Rattle.mutator_calls.specs.Calls.{AreHanded, HandsOver, IsReady, MakesEach, Sees, owed_of}

-- the image of a call is lawful, where it was before
pub IsLawful-made : (old new : Mutator) (call : Op) (said : Reply) → IsReady old → MakesEach old new call said → IsLawful (image_of new.image)
IsLawful-made old new call said ready makes =
    let s = ready.lawful.0 in
    let made = makes s (record { sound = ready.lawful.1; shows = ready.lawful.2; covered = ready.lawful.3 }) in
    (after s made.events, made.sees.sound, made.sees.shows, made.sees.covered)

-- nothing that a cycle keeps changes: no header, no listed object
pub record IsKept (old new : Mutator) : Type 0 where
  pub shape : new.image.shape ≡ old.image.shape
  pub list : new.list ≡ old.list
  pub listed : new.owed ≡ old.owed
  pub area : new.area ≡ old.area
  pub headers : (o : ℕ) → o < old.image.shape.objects → slice_index new.image.words.items (header_place o) ≡ slice_index old.image.words.items (header_place o)
  pub phase : slice_index new.image.words.items phase_place ≡ slice_index old.image.words.items phase_place

module _ (old new : Mutator) (kept : IsKept old new) where
  pub owed_of-kept : owed_of new ≡ owed_of old
  owed_of-kept = ap (λ n. take n new.list.items) kept.listed ∙ ap (λ l. take old.owed l.items) kept.list

  IsShaded-kept : (o : ℕ) → o < old.image.shape.objects → IsShaded old.image.words.items o → IsShaded new.image.words.items o
  IsShaded-kept o few was = ap (λ w. w % 2) (kept.headers o few) ∙ was

  IsShaded-was : (o : ℕ) → o < old.image.shape.objects → IsShaded new.image.words.items o → IsShaded old.image.words.items o
  IsShaded-was o few now = ap (λ w. w % 2) (sym (kept.headers o few)) ∙ now

  IsScanned-kept : (o : ℕ) → o < old.image.shape.objects → IsScanned old.image.words.items o → IsScanned new.image.words.items o
  IsScanned-kept o few was = ap (λ w. w / 2 % 2) (kept.headers o few) ∙ was

  IsScanned-was : (o : ℕ) → o < old.image.shape.objects → IsScanned new.image.words.items o → IsScanned old.image.words.items o
  IsScanned-was o few now = ap (λ w. w / 2 % 2) (sym (kept.headers o few)) ∙ now

  -- where the count stays too, the mutator is ready after it
  pub IsReady-kept : slice_index new.image.words.items count_place ≡ slice_index old.image.words.items count_place →
      slice_index old.image.words.items count_place ≤ old.image.shape.objects → IsReady old → IsLawful (image_of new.image) → IsReady new
  IsReady-kept count few ready lawful = record {
    shape = subst IsValidShape (sym kept.shape) ready.shape;
    lawful = lawful;
    room = ap (λ l. length l.items) kept.list ∙ ready.room ∙ ap (λ sh. sh.objects) (sym kept.shape);
    few = subst (λ n. n ≤ new.image.shape.objects) (sym kept.listed) (subst (λ sh. old.owed ≤ sh.objects) (sym kept.shape) ready.few);
    owed = subst (AreOwed new.image.words.items) (sym owed_of-kept) (record {
      listed = λ o made shaded white.
          let below : o < old.image.shape.objects = omega (arith, made, count, few) in
          ready.owed.listed o (omega (arith, made, count)) (IsShaded-was o below shaded) (λ scanned. white (IsScanned-kept o below scanned));
      owed = λ o there.
          let was = ready.owed.owed o there in
          let below : o < old.image.shape.objects = omega (arith, was.0, few) in
          (omega (arith, was.0, count), IsShaded-kept o below was.1, λ scanned. was.2 (IsScanned-was o below scanned));
      differ = ready.owed.differ;
    });
    area = λ cycle. subst (λ a. IsSomeAnd a (λ a. HasRoom a new.image.shape.objects)) (sym kept.area)
        (subst (λ sh. IsSomeAnd old.area (λ a. HasRoom a sh.objects)) (sym kept.shape) (ready.area (sym kept.phase ∙ cycle)));
  }

-- a cycle keeps where its area begins, and what its roots were
abbrev pub HasSameStart : Option Cycle → Option Cycle → Type 0
HasSameStart None None = Unit {0}
HasSameStart (Some c) (Some d) = (d.start ≡ c.start) × (d.globals ≡ c.globals) × (d.vars ≡ c.vars)
HasSameStart _ _ = ⊥

HasSameStart-steady : (a b : Option Cycle) → CyclesSteady a b → HasSameStart a b
HasSameStart-steady None None steady = tt
HasSameStart-steady (Some c) (Some d) steady = (steady.start, steady.globals, steady.vars)
HasSameStart-steady None (Some d) steady = absurd steady
HasSameStart-steady (Some c) None steady = absurd steady

pub HasSameStart-trans : (a b c : Option Cycle) → HasSameStart a b → HasSameStart b c → HasSameStart a c
HasSameStart-trans None None None one two = tt
HasSameStart-trans (Some a) (Some b) (Some c) one two = (two.0 ∙ one.0, two.1 ∙ one.1, two.2 ∙ one.2)
HasSameStart-trans None None (Some c) one two = absurd two
HasSameStart-trans None (Some b) c one two = absurd one
HasSameStart-trans (Some a) None c one two = absurd one
HasSameStart-trans (Some a) (Some b) None one two = absurd two

-- events that neither start nor finish a cycle
abbrev pub AreDuringPhase : List Event → Type 0
AreDuringPhase es = AllByRecursion (λ (e : Event). IsDuringPhase e.act) es

pub sound-after : (es : List Event) (s : Table) → IsSound s → IsLegalHistory s es → IsSound (after s es)
sound-after [] s h legal = h
sound-after (e ∷ es) s h legal = sound-after es (next s e) (events-sound s e h legal.0) legal.1

pub same_start-after : (es : List Event) (s : Table) → IsSound s → IsLegalHistory s es → AreDuringPhase es → HasSameStart s.cycle (after s es).cycle
same_start-after [] s h legal during = HasSameStart-refl s.cycle
  where
    HasSameStart-refl : (a : Option Cycle) → HasSameStart a a
    HasSameStart-refl None = tt
    HasSameStart-refl (Some c) = (refl, refl, refl)
same_start-after (e ∷ es) s h legal during =
    HasSameStart-trans s.cycle (next s e).cycle (after (next s e) es).cycle
    (HasSameStart-steady s.cycle (next s e).cycle (events-steady s e h legal.0 during.0).cycle)
    (same_start-after es (next s e) (events-sound s e h legal.0) legal.1 during.1)

pub count-after : (es : List Event) (s : Table) → IsSound s → IsLegalHistory s es → AreDuringPhase es → s.count ≤ (after s es).count
count-after [] s h legal during = omega arith
count-after (e ∷ es) s h legal during =
    let here = (events-steady s e h legal.0 during.0).count in
    let later = count-after es (next s e) (events-sound s e h legal.0) legal.1 during.1 in
    omega (arith, here, later)

pub sizes-after : (es : List Event) (s : Table) → IsSound s → IsLegalHistory s es → AreDuringPhase es → (after s es).sizes ≡ s.sizes
sizes-after [] s h legal during = refl
sizes-after (e ∷ es) s h legal during =
    sizes-after es (next s e) (events-sound s e h legal.0) legal.1 during.1 ∙ (events-steady s e h legal.0 during.0).sizes

-- a root of the start is an object that is made
pub root-below : (s : Table) (c : Cycle) → IsSound s → s.cycle ≡ Some c → (o : ℕ) → IsRoot c.globals c.vars o → o < s.count
root-below s c h is o (inl (g, there)) = (CycleSound-is s c h is).traced.made o (inl (By_global g o there))
root-below s c h is o (inr (b, v, there)) = (CycleSound-is s c h is).traced.made o (inl (By_variable b v o there))

-- what is handed over stays so: each object that was shaded is shaded, and no object is listed or linked besides
pub HandsOver-after : (old new : Mutator) → IsKept old new → (linked : List ℕ) (s : Table) (es : List Event) → IsSound s →
    s.sizes.objects ≡ old.image.shape.objects → IsLegalHistory s es → AreDuringPhase es → HandsOver old linked s → HandsOver new linked (after s es)
HandsOver-after old new kept linked s es h objects legal during handed =
    by s.cycle (after s es).cycle (same_start-after es s h legal during) handed refl
  where
    by : (a b : Option Cycle) → HasSameStart a b → IfSome a (AreHanded old.image.words.items (owed_of old) linked s.count) → s.cycle ≡ a →
        IfSome b (AreHanded new.image.words.items (owed_of new) linked (after s es).count)
    by None None same was is = tt
    by (Some c) None same was is = absurd same
    by None (Some d) same was is = absurd same
    by (Some c) (Some d) same was is = record {
      due = λ o there. subst (λ gs. IsRoot gs d.vars o ⊎ Contains linked o) (sym same.1) (subst (λ vs. IsRoot c.globals vs o ⊎ Contains linked o) (sym same.2)
          (was.due o (subst (λ xs. Contains xs o) (owed_of-kept old new kept) there)));
      roots = λ o root.
          let before : IsRoot c.globals c.vars o =
          subst (λ gs. IsRoot gs c.vars o) same.1 (subst (λ vs. IsRoot d.globals vs o) same.2 root) in
          IsShaded-kept old new kept o (omega (arith, root-below s c h is o before, h.objects.few, objects)) (was.roots o before);
      links = λ o there.
          let before = was.links o there in
          (omega (arith, before.0, count-after es s h legal during), IsShaded-kept old new kept o (omega (arith, before.0, h.objects.few, objects)) before.1);
    }
