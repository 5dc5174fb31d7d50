-- Late marking from its beginning to its end.
use Rattle.std.proofs.Common.{◌≡◌, ◌≢◌, ◌+◌, ◌*◌, ◌/◌, ◌%◌, ◌<◌, ◌≤◌, ℕ, true, List, [], length, slice_index, Option, Some, None, IsTrue, IfSome, refl, sym, ap, subst, ◌∙◌, inl, inr, arith}
use Rattle.std.specs.Prelude.{nat_le, ◌||◌}
use Rattle.std.specs.List.{Contains}
use Rattle.std.proofs.lemmas.Bool.{or_cases, leb-true}
use Rattle.std.proofs.lemmas.List.Elements.{All-nil, Contains-get_or, at_from_Contains}
use Rattle.plain_table.specs.declared.events.Event.{Event}
use Rattle.plain_table.specs.Reachable.{IsRoot, By_global, By_variable}
use Rattle.plain_table.specs.Cycle.{Cycle, IsOld}
use Rattle.plain_table.specs.Table.{Table, Sizes}
use Rattle.plain_table.specs.Words.{object_word}
use Rattle.plain_table.specs.History.{after}
use Rattle.plain_table.specs.Scans.{Rest, Ends}
use Rattle.plain_table.specs.Shows.{IsShaded, IsCoveredIn, is_black}
use Rattle.plain_table.specs.Sweeps.{IsDue, Was_root, Was_linked, Is_root, Is_referred}
use Rattle.plain_table.proofs.CycleParts.{CycleSound-is}
use Rattle.plain_table.proofs.Options.{IsSomeAnd-by}
use Rattle.sweeper.specs.Late.{AreOwed, AreHandedOver, IsLateStart, IsLateEnd, IsListedFirst, NothingOwed}
use Rattle.sweeper.specs.Marking.{IsMarking}
use Rattle.table_laws.specs.Pauses.{IsPauseAct}
use Rattle.sweeper.specs.Shading.{header_of, white_in, named_at, Shades}
use Rattle.sweeper.proofs.Begun.{object_word-is}
use Rattle.table_laws.proofs.PauseKeeps.{IsCalm, IsCalm-sym, IsKeptBy, IsDue-calm, calm-after, kept-after}
use Rattle.sweeper.proofs.FieldVisits.{IsOld-steady}
use Rattle.sweeper.proofs.HeaderReads.{header-cases}
use Rattle.sweeper.proofs.MarkSteps.{IsOwed, marking-shaded}
use Rattle.sweeper.proofs.OwedRoom.{OwedObjectsLeaveRoom-holds}

index_of_member : (xs : List ℕ) (o : ℕ) → Contains xs o → (j : ℕ) × (j < length xs) × (slice_index xs j ≡ o)
index_of_member xs o there =
    let k = at_from_Contains xs o there in
    (k.0, k.1, k.2 0)

module _ (words vars shaded : List ℕ) (z : Sizes) (s : Table) (c : Cycle) (start : IsLateStart words vars z s c) (owed : AreOwed words shaded) where
  count-is : slice_index words 3 ≡ s.count
  count-is = start.shown.shows.count

  few : s.count ≤ s.sizes.objects
  few = start.shown.sound.objects.few

  member : (j : ℕ) → j < length shaded → (slice_index shaded j < s.count) × (header_of words (slice_index shaded j) ≡ 1)
  member j less =
      let is = owed.owed (slice_index shaded j) (Contains-get_or shaded j 0 less) in
      let made : slice_index shaded j < s.count = omega (arith, is.0, count-is) in (
        made,
        elim (header-cases words s c start.shown.shows start.shown.cycle (slice_index shaded j) (omega (arith, made, few))) [
          | inl white ↦ absurd (omega (arith, white.0, is.1))
          | inr rest ↦ elim rest [
            | inl grey ↦ grey.0
            | inr black ↦ absurd (is.2 (ap (λ w. w / 2 % 2) black.0))
          ]
        ],
      )

  -- there is room for these objects and all white ones
  pub late-room : length shaded + white_in words s.sizes.objects ≤ s.sizes.objects
  late-room = OwedObjectsLeaveRoom-holds words shaded s.sizes.objects owed (omega (arith, count-is, few))

  -- the marking begins
  pub marking-starts : (linked list : List ℕ) → length list ≡ s.sizes.objects → IsListedFirst list shaded → ((o : ℕ) → Contains shaded o → IsDue s c linked o) →
      IsMarking linked words words list 0 (length shaded) s c
  marking-starts linked list many first due = record {
    sound = start.shown.sound;
    cycle = start.shown.cycle;
    small = start.shown.small;
    many = many;
    order = omega arith;
    events = [];
    run = record { legal = tt; own = All-nil (λ (e : Event). e.by ≡ 12); shows = start.shown.shows; scans = Ends Rest s };
    acts = All-nil (λ (e : Event). IsPauseAct e.act);
    covered = start.covered;
    queue = record { each = each; all = all; differ = differ };
    due = λ j from less. subst (IsDue s c linked) (sym (first.first j less)) (due (slice_index shaded j) (Contains-get_or shaded j 0 less));
    counted = refl;
    kept = λ o inside is. is;
  }
    where
      each : (j : ℕ) → 0 ≤ j → j < length shaded → (slice_index list j < s.count) × (header_of words (slice_index list j) ≡ 1)
      each j from less = subst (λ o. (o < s.count) × (header_of words o ≡ 1)) (sym (first.first j less)) (member j less)

      all : (o : ℕ) → o < s.count → header_of words o ≡ 1 → (j : ℕ) × (0 ≤ j) × (j < length shaded) × (slice_index list j ≡ o)
      all o made grey =
          let there = owed.listed o (omega (arith, made, count-is)) (ap (λ w. w % 2) grey) (λ scanned. omega (arith, scanned, grey)) in
          let j = index_of_member shaded o there in
          (j.0, omega arith, j.1, first.first j.0 j.1 ∙ j.2)

      differ : (i j : ℕ) → 0 ≤ i → i < j → j < length shaded → slice_index list i ≢ slice_index list j
      differ i j from order less = λ e. owed.differ i j order less (sym (first.first i (omega (arith, order, less))) ∙ e ∙ first.first j less)

  -- words of globals and variables
  pub global-few : (k : ℕ) → k < 16 → slice_index words (16 + k) ≤ s.sizes.objects
  global-few k less = by (s.globals k) refl
    where
      by : (found : Option ℕ) → s.globals k ≡ found → slice_index words (16 + k) ≤ s.sizes.objects
      by None is = let word : slice_index words (16 + k) ≡ 0 = start.shown.shows.globals k less ∙ ap object_word is in omega (arith, word)
      by (Some q) is =
          let word : slice_index words (16 + k) ≡ q + 1 = start.shown.shows.globals k less ∙ ap object_word is in
          omega (arith, word, (start.shown.sound.objects.roots k q is).1, few)

  pub variable-is : (k : ℕ) → k < length vars → slice_index vars k ≡ object_word (s.vars (k / 16) (k % 16))
  variable-is k less =
      let here : k ≡ 16 * (k / 16) + k % 16 = omega arith in
      ap (slice_index vars) here ∙ start.variables.1 (k / 16) (k % 16) (omega (arith, less, start.variables.0)) (omega arith)

  pub variable-few : (k : ℕ) → k < length vars → slice_index vars k ≤ s.sizes.objects
  variable-few k less = by (s.vars (k / 16) (k % 16)) refl
    where
      by : (found : Option ℕ) → s.vars (k / 16) (k % 16) ≡ found → slice_index vars k ≤ s.sizes.objects
      by None is = let word : slice_index vars k ≡ 0 = variable-is k less ∙ ap object_word is in omega (arith, word)
      by (Some q) is =
          let word : slice_index vars k ≡ q + 1 = variable-is k less ∙ ap object_word is in
          omega (arith, word, (start.shown.sound.objects.variables (k / 16) (k % 16) q is).2, few)

  global-root : (o : ℕ) → named_at words 16 16 o → (g : ℕ) × (s.globals g ≡ Some o)
  global-root o is = (is.0, object_word-is (s.globals is.0) o (sym (start.shown.shows.globals is.0 is.1) ∙ is.2))

  variable-root : (o : ℕ) → named_at vars 0 (length vars) o → (b : ℕ) × (v : ℕ) × (s.vars b v ≡ Some o)
  variable-root o is =
      let place : 0 + is.0 ≡ is.0 = omega arith in
      (is.0 / 16, is.0 % 16, object_word-is (s.vars (is.0 / 16) (is.0 % 16)) o (sym (variable-is is.0 is.1) ∙ ap (slice_index vars) (sym place) ∙ is.2))

  global-owed : (linked : List ℕ) (o : ℕ) → named_at words 16 16 o → IsOwed linked s c o
  global-owed linked o is =
      let root = global-root o is in
      (Is_root o (inl root), (start.shown.sound.objects.roots root.0 o root.1).1, (CycleSound-is s c start.shown.sound start.shown.cycle).traced.roots root.0 o root.1)

  variable-owed : (linked : List ℕ) (o : ℕ) → named_at vars 0 (length vars) o → IsOwed linked s c o
  variable-owed linked o is =
      let root = variable-root o is in
      (Is_root o (inr root), (start.shown.sound.objects.variables root.0 root.1 o root.2).2, (CycleSound-is s c start.shown.sound start.shown.cycle).traced.variables root.0 root.1 o root.2)

  module _ (linked l1 w2 l2 w3 l3 : List ℕ) (n2 n3 : ℕ) (many : length l1 ≡ s.sizes.objects) (first : IsListedFirst l1 shaded) (due : (o : ℕ) → Contains shaded o → IsDue s c linked o)
      (globals : Shades words w2 l1 l2 (length shaded) n2 (named_at words 16 16)) (variables : Shades w2 w3 l2 l3 n2 n3 (named_at vars 0 (length vars))) where
    marked : IsMarking linked words w3 l3 0 n3 s c
    marked =
        marking-shaded linked words w2 w3 l2 l3 0 n2 n3 (named_at vars 0 (length vars)) s c
        (marking-shaded linked words words w2 l1 l2 0 (length shaded) n2 (named_at words 16 16) s c (marking-starts linked l1 many first due) globals (global-owed linked)) variables (variable-owed linked)

    -- the marking from the shaded roots on
    pub marking-roots : IsMarking linked w3 w3 l3 0 n3 s c
    marking-roots = record {
      sound = marked.sound;
      cycle = marked.cycle;
      small = marked.small;
      many = marked.many;
      order = marked.order;
      events = marked.events;
      run = marked.run;
      acts = marked.acts;
      covered = marked.covered;
      queue = marked.queue;
      due = marked.due;
      counted = marked.counted;
      kept = λ o inside is. is;
    }

    in-l1 : (o : ℕ) → o < s.sizes.objects → o < length l1
    in-l1 o inside = omega (arith, inside, many)

    in-l2 : (o : ℕ) → o < s.sizes.objects → o < length l2
    in-l2 o inside = omega (arith, inside, many, globals.list_long)

    stays-shaded : (o : ℕ) → o < s.sizes.objects → header_of w2 o ≢ 0 → header_of w3 o ≢ 0
    stays-shaded o inside apart = elim (variables.headers o (in-l2 o inside)) [
      | inl same ↦ λ e. apart (sym same ∙ e)
      | inr w ↦ absurd (apart w.0)
    ]

    module _ (now l4 : List ℕ) (n : ℕ) (m : IsMarking linked w3 now l4 n n s c) where
      calm : IsCalm s (after s m.events)
      calm = calm-after m.events s m.acts

      kept : IsKeptBy s c (after s m.events)
      kept = kept-after m.events s c m.sound m.cycle m.acts m.run.legal

      -- a made object that is not white is scanned
      scanned-of : (o : ℕ) → o < s.count → header_of now o ≢ 0 → (header_of now o ≡ 3) × (is_black (after s m.events) kept.cycle o ≡ true)
      scanned-of o made apart =
          let inside : o < (after s m.events).sizes.objects = subst (λ (y : Sizes). o < y.objects) (sym calm.sizes) (omega (arith, made, few)) in
          elim (header-cases now (after s m.events) kept.cycle m.run.shows kept.is o inside) [
            | inl white ↦ absurd (apart white.0)
            | inr rest ↦ elim rest [
              | inl grey ↦ let j = m.queue.all o made grey.0 in absurd (omega (arith, j.1, j.2))
              | inr black ↦ black
            ]
          ]

      global-shaded : (g o : ℕ) → s.globals g ≡ Some o → (o < s.count) × (header_of now o ≢ 0)
      global-shaded g o there =
          let sound = m.sound.objects.roots g o there in
          let inside : o < s.sizes.objects = omega (arith, sound.1, few) in
          (sound.1, m.kept o inside (stays-shaded o inside (globals.done o (in-l1 o inside) (g, sound.0, start.shown.shows.globals g sound.0 ∙ ap object_word there))))

      variable-shaded : (b v o : ℕ) → s.vars b v ≡ Some o → (o < s.count) × (header_of now o ≢ 0)
      variable-shaded b v o there =
          let sound = m.sound.objects.variables b v o there in
          let inside : o < s.sizes.objects = omega (arith, sound.2, few) in
          let place : 0 + (16 * b + v) ≡ 16 * b + v = omega arith in (
            sound.2,
            m.kept o inside (variables.done o (in-l2 o inside)
                (16 * b + v, omega (arith, start.variables.0, sound.0, sound.1), ap (slice_index vars) place ∙ start.variables.1 b v sound.0 sound.1 ∙ ap object_word there)),
          )

      was-shaded : (o : ℕ) → o < s.count → IsShaded words o → header_of now o ≢ 0
      was-shaded o made is =
          let inside : o < s.sizes.objects = omega (arith, made, few) in
          m.kept o inside (marked.kept o inside (λ e. omega (arith, e, is)))

      pub NothingOwed-late : NothingOwed now vars
      NothingOwed-late = record {
        shaded = λ o made is.
            let count : slice_index now 3 ≡ s.count = m.run.shows.count ∙ calm.count in
            ap (λ w. w / 2 % 2) (scanned-of o (omega (arith, made, count)) (λ e. omega (arith, e, is))).0;
        globals = λ g o small word.
            let there : s.globals g ≡ Some o = ap (λ (f : ℕ → Option ℕ). f g) (sym calm.globals) ∙ object_word-is ((after s m.events).globals g) o (sym (m.run.shows.globals g small) ∙ word) in
            let is = global-shaded g o there in
            ap (λ w. w / 2 % 2) (scanned-of o is.0 is.1).0;
        variables = λ b v o small_b small_v word.
            let there : s.vars b v ≡ Some o = object_word-is (s.vars b v) o (sym (start.variables.1 b v small_b small_v) ∙ word) in
            let is = variable-shaded b v o there in
            ap (λ w. w / 2 % 2) (scanned-of o is.0 is.1).0;
      }

      module _ (handed : AreHandedOver words shaded linked s c) where
        root-old : (o : ℕ) → IsRoot c.globals c.vars o → IsOld c o
        root-old o (inl r) = By_global r.0 o r.1
        root-old o (inr r) = By_variable r.0 r.1 o r.2

        root-shaded : (o : ℕ) → IsRoot s.globals s.vars o → (o < s.count) × (header_of now o ≢ 0)
        root-shaded o (inl r) = global-shaded r.0 o r.1
        root-shaded o (inr r) = variable-shaded r.0 r.1 o r.2

        -- each due object is shaded
        due-shaded : (o : ℕ) → IsDue s c linked o → (o < s.count) × (header_of now o ≢ 0)
        due-shaded _ (Was_root o root) =
            let made = (CycleSound-is s c m.sound m.cycle).traced.made o (inl (root-old o root)) in
            (made, was-shaded o made (handed.roots o root))
        due-shaded _ (Was_linked o there) = let is = handed.links o there in (is.0, was-shaded o is.0 is.1)
        due-shaded _ (Is_root o root) = root-shaded o root
        due-shaded _ (Is_referred o k q from there) =
            let before = due-shaded o from in
            let black = scanned-of o before.0 before.1 in
            let sound = m.sound.objects.references o k q there in
            let is = m.covered.references o k q (omega (arith, before.0, few)) (ap (λ w. w / 2 % 2) black.0) there in
            (sound.2, λ e. omega (arith, e, is))

        complete : (o : ℕ) → IsDue (after s m.events) kept.cycle linked o → IsTrue (kept.cycle.scans o || kept.cycle.born o)
        complete o due_after =
            let is = due-shaded o (IsDue-calm (after s m.events) s kept.cycle c linked o (IsCalm-sym s (after s m.events) calm) (sym kept.steady.globals) (sym kept.steady.vars) due_after) in
            let black = scanned-of o is.0 is.1 in
            elim (or_cases (kept.cycle.scans o || kept.cycle.born o) (nat_le (after s m.events).count o) black.1) [
              | inl is_so ↦ is_so
              | inr unmade ↦ let past = leb-true (after s m.events).count o unmade in absurd (omega (arith, past, is.0, calm.count))
            ]

      covered : IsCoveredIn now (after s m.events) kept.cycle
      covered = record {
        references = λ o k q inside scanned there.
            m.covered.references o k q (subst (λ (y : Sizes). o < y.objects) calm.sizes inside) scanned (ap (λ (f : ℕ → ℕ → Option ℕ). f o k) (sym calm.refs) ∙ there);
        owed = λ o inside shaded_now not_scanned.
            IsOld-steady c kept.cycle o kept.steady (m.covered.owed o (subst (λ (y : Sizes). o < y.objects) calm.sizes inside) shaded_now not_scanned);
      }

      pub IsLateEnd-late : IsLateEnd words now shaded linked n s c
      IsLateEnd-late = record {
        events = m.events;
        acts = m.acts;
        run = m.run;
        covered = subst (λ (cycle : Option Cycle). IfSome cycle (IsCoveredIn now (after s m.events))) (sym kept.is) covered;
        counted = sym m.counted;
        complete = λ handed. IsSomeAnd-by (after s m.events).cycle kept.cycle (λ d. (o : ℕ) → IsDue (after s m.events) d linked o → IsTrue (d.scans o || d.born o)) kept.is (complete handed);
      }
