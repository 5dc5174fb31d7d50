-- The start and the finish of a cycle: that a mutator is ready after them, and what they leave for each table.
use Rattle.std.proofs.Common.{◌≡◌, ℕ, ◌%◌, ◌<◌, ◌≤◌, List, [], ◌∷◌, length, take, slice_index, Some, None, refl, sym, ap, subst, ◌∙◌, inl, inr, arith}
use Rattle.std.specs.Prelude.{◌||◌, IsTrue}
use Rattle.std.specs.List.{Contains}
use Rattle.plain_table.specs.declared.events.Act.TheVariants.{Start}
use Rattle.plain_table.specs.declared.scripts.Policy.{Policy}
use Rattle.plain_table.specs.declared.reports.SweepReport.{SweepReport}
use Rattle.plain_table.specs.Cycle.{Cycle}
use Rattle.plain_table.specs.Table.{Sizes, Table}
use Rattle.plain_table.specs.Words.{header_place, phase_place}
use Rattle.plain_table.specs.Finish.{CanFinish, finished}
use Rattle.plain_table.specs.History.{IsLegalHistory, after}
use Rattle.plain_table.specs.Rows.{finished_in}
use Rattle.plain_table.specs.Sweeps.{IsDue, IsPause, IsSweep, Was_linked, Was_root}
use Rattle.plain_table.specs.Sound.{IsSound}
use Rattle.plain_table.specs.Shows.{IsHeader, IsLawful}
use Rattle.plain_table.specs.Shows.{Image as ShownImage}
use Rattle.plain_table.proofs.CallsMade.{after-append, IsLegalHistory-append}
use Rattle.plain_table.proofs.Options.{IfSome-is, IsSomeAnd-by, IsSomeAnd-some, IsSome-value}
use Rattle.table_laws.proofs.FinishSound.{IsSound-finish}
use Rattle.table_laws.proofs.Soundness.{IsSound-row}
use Rattle.word_laws.proofs.PhaseReads.{cycle-none, cycle-some}
use Rattle.entry_word.specs.Image.{IsValidShape, image_of, sizes_of}
use Rattle.entry_word.specs.declared.image.Image.{Image}
use Rattle.sweeper.specs.declared.area.Area.{Area}
use Rattle.sweeper.specs.Begin.{Begins}
use Rattle.sweeper.specs.Images.{IsSweptTo, SweepsImage}
use Rattle.sweeper.specs.Late.{AreOwed, IsLateMarked, LateMarks}
use Rattle.sweeper.proofs.LateImages.{IsLateStart-image}
use Rattle.sweeper.proofs.LateSteps.{late-room}
use Rattle.sweeper.proofs.ValidShapes.{IsSmallShape-valid}
use Rattle.mutator_calls.specs.declared.heap.Mutator.{Mutator}
use Rattle.mutator_calls.specs.Calls.{AreHanded, IsReady, Sees, owed_of}
use Rattle.mutator_calls.specs.Cycles.{FinishesEach, StartsEach, finishing}
use Rattle.mutator_calls.proofs.Kept.{sound-after}

-- a mutator outside a cycle that lists no object is ready: all headers are 0
pub IsReady-idle : (m : Mutator) → IsValidShape m.image.shape → IsLawful (image_of m.image) → length m.list.items ≡ m.image.shape.objects → m.owed ≡ 0 →
    slice_index m.image.words.items phase_place ≡ 0 → IsReady m
IsReady-idle m shape lawful room idle phase = record {
  shape = shape;
  lawful = lawful;
  room = room;
  few = omega (arith, idle);
  owed = subst (λ n. AreOwed m.image.words.items (take n m.list.items)) (sym idle) (record {
    listed = λ o made shaded white. absurd (unshaded o made shaded);
    owed = λ o there. absurd (omega (arith, there.1));
    differ = λ i j order less. absurd (omega (arith, less));
  });
  area = λ one. let wrong : 0 ≡ 1 = sym phase ∙ one in absurd (omega (arith, wrong));
}
  where
    s : Table
    s = lawful.0

    outside : s.cycle ≡ None
    outside = cycle-none m.image.words.items s lawful.2.words phase

    unshaded : (o : ℕ) → o < slice_index m.image.words.items 3 → slice_index m.image.words.items (header_place o) % 2 ≡ 1 → ⊥
    unshaded o made shaded =
        let few = lawful.1.objects.few in
        let count : slice_index m.image.words.items 3 ≡ s.count = lawful.2.words.count in
        let header : slice_index m.image.words.items (header_place o) ≡ 0 =
        subst (λ cycle. IsHeader s cycle o (slice_index m.image.words.items (header_place o))) outside (lawful.2.words.headers o (omega (arith, few, count, made))) in
        let wrong : 0 ≡ 1 = ap (λ w. w % 2) (sym header) ∙ shaded in
        omega (arith, wrong)

-- the objects that are shaded and not scanned in a cycle are no more than all objects
pub owed-few : (image : Image) → IsValidShape image.shape → IsLawful (image_of image) → slice_index image.words.items phase_place ≡ 1 →
    (listed : List ℕ) → AreOwed image.words.items listed → length listed ≤ image.shape.objects
owed-few image shape lawful one listed owed =
    let s = lawful.0 in
    let cycle = cycle-some image.words.items s lawful.2.words one in
    let small = IsSmallShape-valid image.shape shape in
    let shown = image_of image in
    let start = IsLateStart-image image.shape image.words.items image.vars.items shown.pending small s cycle.0 lawful.1 cycle.1 lawful.2 lawful.3 in
    let room = late-room image.words.items image.vars.items listed (sizes_of image.shape) s cycle.0 start owed in
    let objects : s.sizes.objects ≡ image.shape.objects = ap (λ (z : Sizes). z.objects) lawful.2.sizes in
    omega (arith, room, objects)

-- a start hands over its roots
pub StartsEach-begun : (old new : Mutator) (policy : Policy) (area : Area) → Begins (image_of old.image) (image_of new.image) policy area →
    owed_of new ≡ area.roots.items → StartsEach old new policy area.start
StartsEach-begun old new policy area begins listed s sees none =
    let begun = begins s sees.sound none sees.shows in
    record {
      sees = record { sound = IsSound-row s 12 (Start policy) sees.sound (refl, none); shows = begun.shows; covered = begun.covered };
      area_is = begun.start;
      handed = record {
        due = λ o there. inl ((begun.listed o).0 (subst (λ xs. Contains xs o) listed there));
        roots = begun.shaded;
        links = λ o there. absurd (omega (arith, there.1));
      };
    }

-- the finish of a table in which a cycle is under way
module _ (s : Table) (c : Cycle) (is : s.cycle ≡ Some c) (can : CanFinish s c) where
  legal-finish : IsLegalHistory s (finishing ∷ [])
  legal-finish = (((refl, IsSomeAnd-by s.cycle c (CanFinish s) is can), refl), tt)

  after-finish : after s (finishing ∷ []) ≡ finished s c
  after-finish = ap (finished_in s) is

-- late marking and a sweep are a finish, where the objects that are listed were handed over
pub FinishesEach-swept : (old new : Mutator) (mid : ShownImage) (scanned : ℕ) (report : SweepReport) → LateMarks (image_of old.image) mid (owed_of old) scanned →
    SweepsImage mid (image_of new.image) report → FinishesEach old new report
FinishesEach-swept old new mid scanned report marks sweeps s c linked sees is handed = record {
  scans = late.events;
  legal = IsLegalHistory-append s late.events (finishing ∷ []) late.legal (legal-finish t d.0 d.1 swept.may);
  pause = pause;
  sees = subst (Sees (image_of new.image)) (sym (after-append s late.events (finishing ∷ []) ∙ after-finish t d.0 d.1 swept.may))
      (record { sound = IsSound-finish t d.0 sound d.1 swept.may; shows = swept.shows; covered = tt });
  reported = IsSomeAnd-by t.cycle d.0 (λ e. IsSweep t e (finished t e) report) d.1 swept.reported;
}
  where
    given : AreHanded old.image.words.items (owed_of old) linked s.count c
    given = IfSome-is s.cycle (AreHanded old.image.words.items (owed_of old) linked s.count) c is handed

    due : (o : ℕ) → Contains (owed_of old) o → IsDue s c linked o
    due o there = elim (given.due o there) [ inl root ↦ Was_root o root | inr link ↦ Was_linked o link ]

    late : IsLateMarked (image_of old.image) mid (owed_of old) linked scanned s c
    late = marks s c linked sees.sound is sees.shows sees.covered due

    pause : IsPause linked s late.events
    pause = late.pause (record { due = due; roots = given.roots; links = given.links })

    t : Table
    t = after s late.events

    d : (e : Cycle) × (t.cycle ≡ Some e)
    d = IsSome-value t.cycle (IsSomeAnd-some t.cycle (λ e. (o : ℕ) → IsDue t e linked o → IsTrue (e.scans o || e.born o)) pause.complete)

    sound : IsSound t
    sound = sound-after late.events s sees.sound late.legal

    swept : IsSweptTo mid (image_of new.image) report t d.0
    swept = sweeps t d.0 sound d.1 late.shows late.covered
