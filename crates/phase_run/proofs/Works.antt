-- A mutator whose image was taken through a phase: it is ready again, and what a cycle has to hand over is handed over.
use Rattle.std.proofs.Common.{◌≡◌, ◌⊎◌, ℕ, zero, suc, ◌/◌, ◌%◌, ◌<◌, ◌≤◌, Bool, true, false, List, [], ◌∷◌, ◌++◌, length, slice_index, Option, Some, None, IsTrue, refl, sym, ap, subst, ◌∙◌, inl, inr, arith}
use Rattle.std.specs.Prelude.{◌||◌, nat_le, slice_index_or, IfSome, IsSomeAnd}
use Rattle.std.specs.List.{Contains}
use Rattle.std.proofs.lemmas.Bool.{cases_lt}
use Rattle.std.proofs.lemmas.Bool.Decides.{nat_tests}
use Rattle.std.proofs.lemmas.List.Elements.{Contains-append_cases, Contains-append_left, Contains-append_right}
use Rattle.plain_table.specs.declared.scripts.Limits.{Limits}
use Rattle.plain_table.specs.declared.scripts.Op.{Op}
use Rattle.plain_table.specs.declared.events.Act.TheVariants.{Scan}
use Rattle.plain_table.specs.declared.events.Event.{Event}
use Rattle.plain_table.specs.Belongs.{IsScannedIn}
use Rattle.plain_table.specs.Reachable.{IsRoot}
use Rattle.plain_table.specs.Cycle.{Cycle}
use Rattle.plain_table.specs.Table.{Sizes, Table}
use Rattle.plain_table.specs.Words.{phase_place, phase_word}
use Rattle.plain_table.specs.History.{IsLegalHistory, after}
use Rattle.plain_table.specs.Shows.{IsLawful, IsShaded, is_black}
use Rattle.plain_table.specs.Sweeps.{linked_after}
use Rattle.table_laws.specs.Steady.{CycleSteady, CyclesSteady}
use Rattle.entry_word.specs.declared.image.Image.{Image}
use Rattle.entry_word.specs.declared.image.Shape.{Shape}
use Rattle.entry_word.specs.Image.{IsValidShape, image_of, sizes_of}
use Rattle.entry_base.specs.Lists.{Has}
use Rattle.entry_base.specs.Openings.{IsBase, opening_of}
use Rattle.phase_calls.proofs.LinkedObjects.{Contains-has, Has-contains}
use Rattle.sweeper.specs.Begin.{HasRoom}
use Rattle.sweeper.specs.Late.{AreOwed}
use Rattle.sweeper.specs.Shading.{header_of}
use Rattle.sweeper.proofs.HeaderReads.{header-black, header-scanned}
use Rattle.mutator_calls.specs.declared.heap.Mutator.{Mutator}
use Rattle.mutator_calls.specs.Calls.{AreHanded, HandsOver, IsReady, Sees, owed_of}
use Rattle.mutator_calls.proofs.Kept.{AreDuringPhase, count-after, root-below}
use Rattle.phases.specs.declared.phases.PhaseOut.{PhaseOut}
use Rattle.phases.specs.Phases.{Ran}
use Rattle.phase_run.proofs.Listed.{AreOwed-few, AreOwed-from_counts, grey-some, has-counted, header-any}
use Rattle.phase_run.proofs.PhaseHistories.{AreDuringPhase-each, CyclesSteady-after, HasScan, linked_after-made, linked_after-more, scans_at, scans_at-after}

-- a table that an image shows, as the contracts of phases say it
pub IsBase-seen : (m : Mutator) (s : Table) → Sees (image_of m.image) s → IsBase (opening_of m.image) s
IsBase-seen m s sees = record { sound = sees.sound; shows = sees.shows; covered = sees.covered }

-- black objects
or-cases : (x y z : Bool) → (x || y || z) ≡ true → z ≡ false → (x ≡ true) ⊎ (y ≡ true)
or-cases true y z is past = inl refl
or-cases false true z is past = inr refl
or-cases false false z is past = absurd (cc)

or-one : (x y z : Bool) → x ≡ true → (x || y || z) ≡ true
or-one true y z is = refl
or-one false y z is = absurd (cc)

or-two : (x y z : Bool) → y ≡ true → (x || y || z) ≡ true
or-two true y z is = refl
or-two false true z is = refl
or-two false false z is = absurd (cc)

pub black-cases : (s : Table) (c : Cycle) (o : ℕ) → is_black s c o ≡ true → o < s.count → (c.scans o ≡ true) ⊎ (c.born o ≡ true)
black-cases s c o is made = let past : nat_le s.count o ≡ false = grind (arith, nat_tests) in or-cases (c.scans o) (c.born o) (nat_le s.count o) is past

pub black-scanned : (s : Table) (c : Cycle) (o : ℕ) → c.scans o ≡ true → is_black s c o ≡ true
black-scanned s c o is = or-one (c.scans o) (c.born o) (nat_le s.count o) is

black-stays : (s t : Table) (c d : Cycle) (o : ℕ) → CycleSteady c d → o < s.count → is_black s c o ≡ true → is_black t d o ≡ true
black-stays s t c d o steady made is = elim (black-cases s c o is made) [
  | inl scanned ↦ or-one (d.scans o) (d.born o) (nat_le t.count o) (steady.scans o scanned)
  | inr born ↦ or-two (d.scans o) (d.born o) (nat_le t.count o) (steady.born o born)
]

any-scan : (es : List Event) (o k : ℕ) (e : Event) → k < length es → slice_index_or es k e ≡ e → e.act ≡ Scan o → HasScan es o
any-scan [] o k e within at is = absurd (omega (arith, within))
any-scan (x ∷ es) o zero e within at is = inl (ap (λ (e : Event). e.act) at ∙ is)
any-scan (x ∷ es) o (suc k) e within at is = inr (any-scan es o k e (omega (arith, within)) at is)

pub HasScan-in : (limits : Limits) (es : List Event) (o : ℕ) → IsScannedIn limits es o → HasScan es o
HasScan-in limits es o has = any-scan es o has.0 has.1 has.2 has.3 has.4.1

module _ (limits : Limits) (old : Mutator) (calls : List (List Op)) (ready : IsReady old) (out : PhaseOut) (ran : Ran limits (opening_of old.image) calls (owed_of old) out) where
  pub during : AreDuringPhase ran.history
  during = AreDuringPhase-each ran.history ran.closed.lawful.events

  pub sees-after : (s : Table) → Sees (image_of old.image) s → Sees (image_of out.image) (after s ran.history)
  sees-after s sees = let base = ran.closed.shows s (IsBase-seen old s sees) in record { sound = base.sound; shows = base.shows; covered = base.covered }

  pub legal-after : (s : Table) → Sees (image_of old.image) s → IsLegalHistory s ran.history
  legal-after s sees = ran.closed.lawful.legal s (IsBase-seen old s sees)

  seen : Sees (image_of old.image) ready.lawful.0
  seen = record { sound = ready.lawful.1; shows = ready.lawful.2; covered = ready.lawful.3 }

  pub lawful-after : IsLawful (image_of out.image)
  lawful-after = let now = sees-after ready.lawful.0 seen in (after ready.lawful.0 ran.history, now.sound, now.shows, now.covered)

  pub shape-after : out.image.shape ≡ old.image.shape
  shape-after = ap (λ (z : Sizes). record { seg = z.seg; ext = z.ext; tru = z.tru; objects = z.objects }) ran.closed.sizes

  valid : IsValidShape out.image.shape
  valid = subst IsValidShape (sym shape-after) ready.shape

  pub owed-after : AreOwed out.image.words.items out.shaded.items
  owed-after =
      let now = sees-after ready.lawful.0 seen in
      AreOwed-from_counts out.image.words.items (sizes_of out.image.shape) (after ready.lawful.0 ran.history) now.sound now.shows.sizes now.shows.words out.shaded.items ran.shaded

  few : length out.shaded.items ≤ out.image.shape.objects
  few = AreOwed-few out.image valid lawful-after out.shaded.items owed-after

  pub shaded-few : length out.shaded.items ≤ length old.list.items
  shaded-few = let objects = ap (λ (sh : Shape). sh.objects) shape-after in let room = ready.room in omega (arith, few, objects, room)

  module _ (s : Table) (linked : List ℕ) (sees : Sees (image_of old.image) s) where
    abbrev t : Table
    t = after s ran.history

    now : Sees (image_of out.image) t
    now = sees-after s sees

    legal : IsLegalHistory s ran.history
    legal = legal-after s sees

    grown : s.count ≤ t.count
    grown = count-after ran.history s sees.sound legal during

    made-few : (o : ℕ) → o < s.count → o < s.sizes.objects
    made-few o made = let most = sees.sound.objects.few in omega (arith, made, most)

    made-few-after : (o : ℕ) → o < t.count → o < t.sizes.objects
    made-few-after o made = let most = now.sound.objects.few in omega (arith, made, most)

    -- an object whose header is 1 is listed
    pub listed-before : (o : ℕ) → o < s.count → header_of old.image.words.items o ≡ 1 → Has (owed_of old) o
    listed-before o made one =
        let count = sees.shows.words.count in
        Has-contains (owed_of old) o (ready.owed.listed o (omega (arith, made, count)) (ap (λ (w : ℕ). w % 2) one) (λ scanned. omega (arith, one, scanned)))

    pub shaded-listed : (o : ℕ) → Has out.shaded.items o → header_of out.image.words.items o ≡ 1
    shaded-listed o has = let some = has-counted out.shaded.items o has in let is = ran.shaded o in (grey-some (sizes_of out.image.shape) out.image.words.items o (omega (arith, some, is))).1

    module _ (c d : Cycle) (is : s.cycle ≡ Some c) (is-after : t.cycle ≡ Some d) (steady : CycleSteady c d) where
      pub scanned-after : (o : ℕ) → o < t.count → IsScannedIn limits ran.history o → header_of out.image.words.items o ≡ 3
      scanned-after o made has =
          let scans = scans_at-after ran.history s o sees.sound legal during (HasScan-in limits ran.history o has) in
          header-black out.image.words.items t d now.shows.words is-after o (made-few-after o made)
          (black-scanned t d o (subst (λ (cycle : Option Cycle). IsTrue (scans_at cycle o)) is-after scans))

      -- what is shaded stays so
      stays-shaded : (o : ℕ) → o < s.count → IsShaded old.image.words.items o → IsShaded out.image.words.items o
      stays-shaded o made shaded = elim (header-any old.image.words.items s sees.shows.words o (made-few o made)) [
        | inl white ↦ absurd (omega (arith, white, shaded))
        | inr rest ↦ elim rest [
          | inl one ↦
              let has = listed-before o made one.0 in
              elim (cases_lt 0 limits.markers) [
                | inl some ↦ ap (λ (w : ℕ). w % 2) (scanned-after o (omega (arith, made, grown)) (ran.marked (omega (arith, some)) o has))
                | inr none ↦ ap (λ (w : ℕ). w % 2) (shaded-listed o (ran.waits (omega (arith, none)) o has))
              ]
          | inr three ↦
              let black = header-scanned old.image.words.items s c sees.shows.words is o (made-few o made) (ap (λ (w : ℕ). w / 2 % 2) three) in
              ap (λ (w : ℕ). w % 2) (header-black out.image.words.items t d now.shows.words is-after o (made-few-after o (omega (arith, made, grown))) (black-stays s t c d o steady made black.1))
        ]
      ]

      all-linked : linked_after s linked ran.history ≡ linked_after s [] ran.history ++ linked
      all-linked = linked_after-more ran.history s [] linked during

      AreHanded-cycle : AreHanded old.image.words.items (owed_of old) linked s.count c →
          AreHanded out.image.words.items out.shaded.items (linked_after s linked ran.history) t.count d
      AreHanded-cycle was = record { due = due; roots = roots; links = links }
        where
          due : (o : ℕ) → Contains out.shaded.items o → IsRoot d.globals d.vars o ⊎ Contains (linked_after s linked ran.history) o
          due o there = elim (ran.due s (IsBase-seen old s sees) o (Has-contains out.shaded.items o there)) [
            | inl fresh ↦ inr (subst (λ (ls : List ℕ). Contains ls o) (sym all-linked) (Contains-append_left (linked_after s [] ran.history) linked o fresh))
            | inr waited ↦ elim (was.due o (Contains-has (owed_of old) o waited.1)) [
              | inl root ↦ inl (subst (λ (gs : ℕ → Option ℕ). IsRoot gs d.vars o) (sym steady.globals) (subst (λ (vs : ℕ → ℕ → Option ℕ). IsRoot c.globals vs o) (sym steady.vars) root))
              | inr before ↦ inr (subst (λ (ls : List ℕ). Contains ls o) (sym all-linked) (Contains-append_right (linked_after s [] ran.history) linked o before))
            ]
          ]

          roots : (o : ℕ) → IsRoot d.globals d.vars o → IsShaded out.image.words.items o
          roots o root =
              let before : IsRoot c.globals c.vars o =
              subst (λ (gs : ℕ → Option ℕ). IsRoot gs c.vars o) steady.globals (subst (λ (vs : ℕ → ℕ → Option ℕ). IsRoot d.globals vs o) steady.vars root) in
              stays-shaded o (root-below s c sees.sound is o before) (was.roots o before)

          links : (o : ℕ) → Contains (linked_after s linked ran.history) o → (o < t.count) × IsShaded out.image.words.items o
          links o there = elim (Contains-append_cases (linked_after s [] ran.history) linked o (subst (λ (ls : List ℕ). Contains ls o) all-linked there)) [
            | inl fresh ↦ (
              linked_after-made ran.history s [] sees.sound legal during (λ q at. absurd (let less = at.1 in omega (arith, less))) o fresh,
              ran.linked s (IsBase-seen old s sees) (sees.shows.words.phase ∙ ap phase_word is) o fresh,
            )
            | inr before ↦ let link = was.links o before in let made = link.0 in (omega (arith, made, grown), stays-shaded o made link.1)
          ]

    pub AreHanded-after : HandsOver old linked s → IfSome t.cycle (AreHanded out.image.words.items out.shaded.items (linked_after s linked ran.history) t.count)
    AreHanded-after handed = by s.cycle t.cycle (CyclesSteady-after ran.history s sees.sound legal during) refl refl handed
      where
        by : (a b : Option Cycle) → CyclesSteady a b → s.cycle ≡ a → t.cycle ≡ b → IfSome a (AreHanded old.image.words.items (owed_of old) linked s.count) →
            IfSome b (AreHanded out.image.words.items out.shaded.items (linked_after s linked ran.history) t.count)
        by None None steady is is-after was = tt
        by (Some c) (Some d) steady is is-after was = AreHanded-cycle c d is is-after steady was
        by None (Some d) steady is is-after was = absurd steady
        by (Some c) None steady is is-after was = absurd steady

  -- the mutator that the image is put into
  module _ (new : Mutator) (same : new.image ≡ out.image) (long : length new.list.items ≡ length old.list.items) (many : new.owed ≡ length out.shaded.items)
      (listed : owed_of new ≡ out.shaded.items) (kept : new.area ≡ old.area) where
    pub IsReady-worked : IsReady new
    IsReady-worked = record {
      shape = subst (λ (i : Image). IsValidShape i.shape) (sym same) valid;
      lawful = subst (λ (i : Image). IsLawful (image_of i)) (sym same) lawful-after;
      room = long ∙ ready.room ∙ sym objects;
      few = omega (arith, many, few, out_objects);
      owed = subst (λ (xs : List ℕ). AreOwed new.image.words.items xs) (sym listed) (subst (λ (i : Image). AreOwed i.words.items out.shaded.items) (sym same) owed-after);
      area = λ one. subst (λ a. IsSomeAnd a (λ a. HasRoom a new.image.shape.objects)) (sym kept)
          (subst (λ (n : ℕ). IsSomeAnd old.area (λ a. HasRoom a n)) (sym objects)
          (ready.area (sym ran.closed.phase ∙ ap (λ (i : Image). slice_index i.words.items phase_place) (sym same) ∙ one)));
    }
      where
        objects : new.image.shape.objects ≡ old.image.shape.objects
        objects = ap (λ (i : Image). i.shape.objects) same ∙ ap (λ (sh : Shape). sh.objects) shape-after

        out_objects : new.image.shape.objects ≡ out.image.shape.objects
        out_objects = ap (λ (i : Image). i.shape.objects) same

    pub Sees-worked : (s : Table) → Sees (image_of old.image) s → Sees (image_of new.image) (after s ran.history)
    Sees-worked s sees = subst (λ (i : Image). Sees (image_of i) (after s ran.history)) (sym same) (sees-after s sees)

    pub HandsOver-worked : (s : Table) (linked : List ℕ) → Sees (image_of old.image) s → HandsOver old linked s → HandsOver new (linked_after s linked ran.history) (after s ran.history)
    HandsOver-worked s linked sees handed =
        subst (λ (xs : List ℕ). IfSome (after s ran.history).cycle (AreHanded new.image.words.items xs (linked_after s linked ran.history) (after s ran.history).count)) (sym listed)
        (subst (λ (i : Image). IfSome (after s ran.history).cycle (AreHanded i.words.items out.shaded.items (linked_after s linked ran.history) (after s ran.history).count)) (sym same)
        (AreHanded-after s linked sees handed))
