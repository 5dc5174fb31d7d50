-- Words and images at the start of a cycle: they show the started table, and are covered in it.
use Rattle.std.proofs.Common.{◌≡◌, ◌≢◌, ◌⊎◌, ◌+◌, ◌*◌, ◌/◌, ◌%◌, ◌<◌, ℕ, Bool, true, false, List, length, slice_index, Option, Some, None, IsTrue, refl, sym, ap, subst, ◌∙◌, inl, inr, arith}
use Rattle.std.specs.Prelude.{nat_le, unwrap_or, if◌then◌else◌}
use Rattle.std.proofs.lemmas.Bool.{cases_Bool, cond-true, cond-false, lt-leb}
use Rattle.plain_table.specs.declared.scripts.Policy.{Policy}
use Rattle.plain_table.specs.declared.events.Space.TheVariants.{External, Trusted}
use Rattle.plain_table.specs.Reachable.{IsRoot, Reaches, By_global, By_variable}
use Rattle.plain_table.specs.Table.{Table, Sizes, limit_of}
use Rattle.plain_table.specs.Finish.{started, area_of}
use Rattle.plain_table.specs.Words.{object_word, phase_word, header_word, header_place, field_place, entry_place}
use Rattle.plain_table.specs.Sound.{IsSound}
use Rattle.plain_table.specs.Shows.{Image, PendingCell, Shows, SpaceShows, IsShaded, IsScanned, IsCovered, IsHeader, ImageShows}
use Rattle.plain_table.proofs.WordPlaces.{field_place-below, field_place-from, header-apart-field}
use Rattle.sweeper.specs.Small.{AreSmall}
use Rattle.sweeper.specs.Late.{AreOwed}
use Rattle.sweeper.specs.Begin.{first_header, IsOpened}
use Rattle.sweeper.specs.Bits.{without_mark}
use Rattle.sweeper.specs.Roots.{is_held, AreHeld}
use Rattle.std.specs.List.{Contains}
use Rattle.plain_table.specs.Cycle.{Cycle}
use Rattle.sweeper.specs.declared.area.Area.{Area}
use Rattle.entry_word.specs.declared.image.Shape.{Shape}
use Rattle.sweeper.specs.Begin.{Begins}
use Rattle.sweeper.specs.Roots.{members_below}
use Rattle.sweeper.specs.Usage.{DecidesArea}
use Rattle.entry_word.specs.Image.{sizes_of}
use Rattle.sweeper.specs.Whole.{IsSmallShape}
use Rattle.sweeper.proofs.HeldRoots.{member-if, member-of, members-ascend}
use Rattle.sweeper.proofs.SweptImages.{AreSmall-shape}
use Rattle.sweeper.proofs.Started.{SpaceShows-started}

-- an object word names its object
pub object_word-is : (found : Option ℕ) (o : ℕ) → object_word found ≡ o + 1 → found ≡ Some o
object_word-is None o e = let bad : 0 ≡ o + 1 = e in absurd (omega (arith, bad))
object_word-is (Some q) o e = let same : q + 1 ≡ o + 1 = e in ap Some (omega (arith, same))

module _ (s : Table) (h : IsSound s) (none : s.cycle ≡ None) (small : AreSmall s) (policy : Policy) (old now : List ℕ) (held : List Bool) (start : Option ℕ)
    (shows : Shows old s) (long : length held ≡ s.sizes.objects) (begins : start ≡ area_of s policy)
    (opened : IsOpened old now held (limit_of s External + limit_of s Trusted) start) where
  at_low : (place : ℕ) → place < 32 + 8 * s.sizes.objects → place ≢ 1 → place ≢ 4 → ((o : ℕ) → place ≢ 32 + 8 * o) → slice_index now place ≡ slice_index old place
  at_low place below off_1 off_4 off = opened.rest place (omega (arith, below, long)) off_1 off_4 (λ o less. off o)

  early : (place : ℕ) → place < 32 → place ≢ 1 → place ≢ 4 → slice_index now place ≡ slice_index old place
  early place below off_1 off_4 = at_low place (omega (arith, below)) off_1 off_4 (λ o e. omega (arith, e, below))

  header-is : (o : ℕ) → o < s.sizes.objects → slice_index now (header_place o) ≡ first_header s.count (is_held held o) o
  header-is o few = opened.headers o (omega (arith, few, long)) ∙ ap (λ n. first_header n (is_held held o) o) shows.count

  -- the headers
  headers : (o : ℕ) → o < s.sizes.objects → IsHeader (started s policy) (started s policy).cycle o (slice_index now (header_place o))
  headers o few = elim (cases_Bool (nat_le s.count o)) [
    | inl unmade ↦ (
      true,
      header-is o few ∙ cond-true (nat_le s.count o) 3 (if is_held held o then 1 else 0) unmade ∙ ap (header_word true) (sym unmade),
      λ black. refl,
    )
    | inr made ↦ (
      is_held held o,
      header-is o few ∙ cond-false (nat_le s.count o) 3 (if is_held held o then 1 else 0) made ∙ white (is_held held o) ∙ ap (header_word (is_held held o)) (sym made),
      λ black. absurd (cc (black, made)),
    )
  ]
    where
      white : (b : Bool) → (if b then 1 else 0) ≡ header_word b false
      white true = refl
      white false = refl

  entries : (k : ℕ) → k < limit_of s External + limit_of s Trusted → slice_index now (32 + 8 * s.sizes.objects + k) ≡ without_mark (slice_index old (32 + 8 * s.sizes.objects + k))
  entries k less = subst (λ n. slice_index now (32 + 8 * n + k) ≡ without_mark (slice_index old (32 + 8 * n + k))) long (opened.entries k less)

  external-entries : (k : ℕ) → k < limit_of s External → slice_index now (entry_place s.sizes External k) ≡ without_mark (slice_index old (entry_place s.sizes External k))
  external-entries k less = entries k (omega (arith, less))

  trusted-entries : (k : ℕ) → k < limit_of s Trusted → slice_index now (entry_place s.sizes Trusted k) ≡ without_mark (slice_index old (entry_place s.sizes Trusted k))
  trusted-entries k less =
      let same : 32 + 8 * s.sizes.objects + (s.sizes.seg * s.sizes.ext + k) ≡ entry_place s.sizes Trusted k = omega arith in
      subst (λ place. slice_index now place ≡ without_mark (slice_index old place)) same (entries (s.sizes.seg * s.sizes.ext + k) (omega (arith, less)))

  pub Shows-started : Shows now (started s policy)
  Shows-started = record {
    whole = opened.long ∙ shows.whole;
    area = opened.area ∙ ap (λ o. unwrap_or o 0) begins ∙ plus_zero (unwrap_or (area_of s policy) 0);
    count = early 3 (omega arith) (λ e. omega (arith, e)) (λ e. omega (arith, e)) ∙ shows.count;
    phase = opened.phase;
    spare = λ i low high. early i (omega (arith, high)) (λ e. omega (arith, e, low)) (λ e. omega (arith, e, low)) ∙ shows.spare i low high;
    globals = λ g few. early (16 + g) (omega (arith, few)) (λ e. omega (arith, e)) (λ e. omega (arith, e)) ∙ shows.globals g few;
    headers = headers;
    references = λ o k few four.
        at_low (33 + 8 * o + k) (omega (arith, few, four)) (λ e. omega (arith, e)) (λ e. omega (arith, e)) (λ m e. omega (arith, e, four)) ∙ shows.references o k few four;
    fields = λ f few.
        let low = field_place-below f s.sizes.objects few in
        let high = field_place-from f in
        at_low (field_place f) low (λ e. omega (arith, e, high)) (λ e. omega (arith, e, high)) (λ o e. header-apart-field o f (sym e)) ∙ shows.fields f few;
    external = (
      shows.external.0,
      subst (λ w. SpaceShows (started s policy) External (λ i. slice_index now (entry_place s.sizes External i)) w shows.external.0) (sym (early 0 (omega arith) (λ e. omega (arith, e)) (λ e. omega (arith, e))))
          (SpaceShows-started s policy External (λ i. slice_index old (entry_place s.sizes External i)) (λ i. slice_index now (entry_place s.sizes External i)) (slice_index old 0) shows.external.0 h none small shows.external.1 external-entries),
    );
    trusted = (
      shows.trusted.0,
      subst (λ w. SpaceShows (started s policy) Trusted (λ i. slice_index now (entry_place s.sizes Trusted i)) w shows.trusted.0) (sym (early 2 (omega arith) (λ e. omega (arith, e)) (λ e. omega (arith, e))))
          (SpaceShows-started s policy Trusted (λ i. slice_index old (entry_place s.sizes Trusted i)) (λ i. slice_index now (entry_place s.sizes Trusted i)) (slice_index old 2) shows.trusted.0 h none small shows.trusted.1 trusted-entries),
    );
  }
    where
      plus_zero : (n : ℕ) → n ≡ n + 0
      plus_zero n = omega arith

  module _ (variables : List ℕ) (many : length variables ≡ 128)
      (holds : (b v : ℕ) → b < 8 → v < 16 → slice_index variables (16 * b + v) ≡ object_word (s.vars b v)) (are : AreHeld held old variables s.sizes.objects) where
    -- the objects that are held are the roots
    pub held-root : (o : ℕ) → IsRoot s.globals s.vars o → (o < s.sizes.objects) × IsTrue (is_held held o)
    held-root o (inl r) =
        let sound = h.objects.roots r.0 o r.1 in
        let few : o < s.sizes.objects = omega (arith, sound.1, h.objects.few) in
        (few, are.globals o few (r.0, sound.0, shows.globals r.0 sound.0 ∙ ap object_word r.1))
    held-root o (inr r) =
        let sound = h.objects.variables r.0 r.1 o r.2 in
        let few : o < s.sizes.objects = omega (arith, sound.2, h.objects.few) in
        (few, are.variables o few (16 * r.0 + r.1, omega (arith, many, sound.0, sound.1), holds r.0 r.1 sound.0 sound.1 ∙ ap object_word r.2))

    pub root-held : (o : ℕ) → IsTrue (is_held held o) → IsRoot s.globals s.vars o
    root-held o is = elim (are.only o is) [
      | inl g ↦ inl (g.0, object_word-is (s.globals g.0) o (sym (shows.globals g.0 g.1) ∙ g.2))
      | inr k ↦
          let here : 16 * (k.0 / 16) + k.0 % 16 ≡ k.0 = omega arith in
          let row : k.0 / 16 < 8 = omega (arith, k.1, many) in
          let column : k.0 % 16 < 16 = omega arith in
          inr (k.0 / 16, k.0 % 16, object_word-is (s.vars (k.0 / 16) (k.0 % 16)) o (sym (holds (k.0 / 16) (k.0 % 16) row column) ∙ ap (slice_index variables) here ∙ k.2))
    ]

    not-scanned : (o : ℕ) → o < s.count → IsScanned now o → ⊥
    not-scanned o made scanned =
        let few : o < s.sizes.objects = omega (arith, made, h.objects.few) in
        by (is_held held o) (ap (λ w. w / 2 % 2) (sym (header-is o few ∙ cond-false (nat_le s.count o) 3 (if is_held held o then 1 else 0) (lt-leb s.count o made))) ∙ scanned)
      where
        by : (b : Bool) → (if b then 1 else 0) / 2 % 2 ≡ 1 → ⊥
        by true e = let bad : 0 ≡ 1 = e in omega (arith, bad)
        by false e = let bad : 0 ≡ 1 = e in omega (arith, bad)

    pub shaded-root : (o : ℕ) → IsRoot s.globals s.vars o → IsShaded now o
    shaded-root o root =
        let is = held-root o root in
        ap (λ w. w % 2) (header-is o is.0 ∙ ap (λ b. first_header s.count b o) is.1) ∙ odd (nat_le s.count o)
      where
        odd : (b : Bool) → (if b then 3 else 1) % 2 ≡ 1
        odd true = refl
        odd false = refl

    old-root : (o : ℕ) → IsRoot s.globals s.vars o → Reaches s.refs s.globals s.vars o
    old-root o (inl r) = By_global r.0 o r.1
    old-root o (inr r) = By_variable r.0 r.1 o r.2

    -- a shaded object that is not scanned is a root
    held-of : (o : ℕ) → o < s.sizes.objects → IsShaded now o → (IsScanned now o → ⊥) → IsTrue (is_held held o)
    held-of o few shaded not_scanned = by (cases_Bool (nat_le s.count o)) (is_held held o) refl
      where
        by : (nat_le s.count o ≡ true) ⊎ (nat_le s.count o ≡ false) → (b : Bool) → is_held held o ≡ b → IsTrue (is_held held o)
        by made true is = is
        by (inl unmade) false is =
            absurd (not_scanned (ap (λ w. w / 2 % 2) (header-is o few ∙ cond-true (nat_le s.count o) 3 (if is_held held o then 1 else 0) unmade)))
        by (inr made) false is =
            let white : slice_index now (header_place o) ≡ 0 = header-is o few ∙ cond-false (nat_le s.count o) 3 (if is_held held o then 1 else 0) made ∙ ap (λ (b : Bool). if b then 1 else 0) is in
            let bad : 0 ≡ 1 = ap (λ w. w % 2) (sym white) ∙ shaded in
            absurd (omega (arith, bad))

    pub IsCovered-started : IsCovered now (started s policy)
    IsCovered-started = record {
      references = λ o k q few scanned there. absurd (not-scanned o (h.objects.references o k q there).0 scanned);
      owed = λ o few shaded not_scanned. old-root o (root-held o (held-of o few shaded not_scanned));
    }

    -- the listed roots are owed
    pub AreOwed-started : (roots : List ℕ) → roots ≡ members_below (is_held held) (length held) → AreOwed now roots
    AreOwed-started roots lists = record {
      listed = λ o made shaded not_scanned.
          let few : o < s.sizes.objects = omega (arith, made, count-now, h.objects.few) in
          subst (λ (xs : List ℕ). Contains xs o) (sym lists) (member-of (is_held held) (length held) o (omega (arith, few, long)) (held-of o few shaded not_scanned));
      owed = λ o there.
          let is = member-if (is_held held) (length held) o (subst (λ (xs : List ℕ). Contains xs o) lists there) in
          let root = root-held o is.1 in
          let made = root-made o root in
          (omega (arith, made, count-now), shaded-root o root, not-scanned o made);
      differ = λ i j order less e.
          let up = members-ascend (is_held held) (length held) i j order (subst (λ (xs : List ℕ). j < length xs) lists less) in
          let same = ap (λ (xs : List ℕ). slice_index xs i) (sym lists) ∙ e ∙ ap (λ (xs : List ℕ). slice_index xs j) lists in
          omega (arith, up, same);
    }
      where
        count-now : slice_index now 3 ≡ s.count
        count-now = early 3 (omega arith) (λ e. omega (arith, e)) (λ e. omega (arith, e)) ∙ shows.count

        root-made : (o : ℕ) → IsRoot s.globals s.vars o → o < s.count
        root-made o (inl r) = (h.objects.roots r.0 o r.1).1
        root-made o (inr r) = (h.objects.variables r.0 r.1 o r.2).2

-- an image whose words are those of the start of a cycle
module _ (shape : Shape) (words opened vars : List ℕ) (pending : List (Option PendingCell)) (held : List Bool) (policy : Policy) (area : Area)
    (small : IsSmallShape shape) (are : AreHeld held words vars shape.objects) (lists : area.roots.items ≡ members_below (is_held held) (length held))
    (decides : DecidesArea words (sizes_of shape) policy area.start) (opens : IsOpened words opened held (shape.seg * shape.ext + shape.seg * shape.tru) area.start) where
  abbrev old : Image
  old = record { sizes = sizes_of shape; words = words; variables = vars; pending = pending }

  abbrev now : Image
  now = record { sizes = sizes_of shape; words = opened; variables = vars; pending = pending }

  pub IsBegun-parts : Begins old now policy area
  IsBegun-parts s h none shows = record {
    shows = record { sizes = shows.sizes; words = Shows-started s h none few policy words opened held area.start shows.words long begins opened_is; variables = shows.variables; pending = shows.pending };
    covered = IsCovered-started s h none few policy words opened held area.start shows.words long begins opened_is vars shows.variables.0 shows.variables.1 are_held;
    start = begins;
    listed = λ o. (
      λ there. root-held s h none few policy words opened held area.start shows.words long begins opened_is vars shows.variables.0 shows.variables.1 are_held o
          (member-if (is_held held) (length held) o (subst (λ (xs : List ℕ). Contains xs o) lists there)).1,
      λ root.
          let is = held-root s h none few policy words opened held area.start shows.words long begins opened_is vars shows.variables.0 shows.variables.1 are_held o root in
          subst (λ (xs : List ℕ). Contains xs o) (sym lists) (member-of (is_held held) (length held) o (omega (arith, is.0, long)) is.1),
    );
    ascending = λ i j order less.
        subst (λ (xs : List ℕ). slice_index xs i < slice_index xs j) (sym lists)
        (members-ascend (is_held held) (length held) i j order (subst (λ (xs : List ℕ). j < length xs) lists less));
    shaded = shaded-root s h none few policy words opened held area.start shows.words long begins opened_is vars shows.variables.0 shows.variables.1 are_held;
  }
    where
      few : AreSmall s
      few = AreSmall-shape shape s small shows.sizes

      long : length held ≡ s.sizes.objects
      long = are.long ∙ ap (λ (z : Sizes). z.objects) (sym shows.sizes)

      begins : area.start ≡ area_of s policy
      begins = decides s (record { sound = h; none = none; small = few; same = shows.sizes; shows = shows.words })

      opened_is : IsOpened words opened held (s.sizes.seg * s.sizes.ext + s.sizes.seg * s.sizes.tru) area.start
      opened_is = subst (λ (z : Sizes). IsOpened words opened held (z.seg * z.ext + z.seg * z.tru) area.start) (sym shows.sizes) opens

      are_held : AreHeld held words vars s.sizes.objects
      are_held = subst (λ (z : Sizes). AreHeld held words vars z.objects) (sym shows.sizes) are

-- a table whose phase word is 0 is outside a cycle
pub cycle-none : (words : List ℕ) (s : Table) → Shows words s → slice_index words 4 ≡ 0 → s.cycle ≡ None
cycle-none words s shows zero = by s.cycle refl
  where
    by : (cycle : Option Cycle) → s.cycle ≡ cycle → s.cycle ≡ None
    by None is = is
    by (Some c) is = let bad : 0 ≡ 1 = sym zero ∙ shows.phase ∙ ap phase_word is in absurd (omega (arith, bad))

-- the same of an image: its listed roots are owed
pub AreOwed-begun : (shape : Shape) (words opened vars : List ℕ) (pending : List (Option PendingCell)) (held : List Bool) (policy : Policy) (area : Area) → IsSmallShape shape →
    AreHeld held words vars shape.objects → area.roots.items ≡ members_below (is_held held) (length held) → DecidesArea words (sizes_of shape) policy area.start →
    IsOpened words opened held (shape.seg * shape.ext + shape.seg * shape.tru) area.start → (s : Table) → IsSound s → s.cycle ≡ None →
    ImageShows (record { sizes = sizes_of shape; words = words; variables = vars; pending = pending }) s → AreOwed opened area.roots.items
AreOwed-begun shape words opened vars pending held policy area small are lists decides opens s h none shows =
    let few = AreSmall-shape shape s small shows.sizes in
    let long : length held ≡ s.sizes.objects = are.long ∙ ap (λ (z : Sizes). z.objects) (sym shows.sizes) in
    let begins : area.start ≡ area_of s policy = decides s (record { sound = h; none = none; small = few; same = shows.sizes; shows = shows.words }) in
    let opened_is = subst (λ (z : Sizes). IsOpened words opened held (z.seg * z.ext + z.seg * z.tru) area.start) (sym shows.sizes) opens in
    let are_held = subst (λ (z : Sizes). AreHeld held words vars z.objects) (sym shows.sizes) are in
    AreOwed-started s h none few policy words opened held area.start shows.words long begins opened_is vars shows.variables.0 shows.variables.1 are_held area.roots.items lists
