-- Late marking step by step: white objects become shaded, and a shaded object is scanned.
use Rattle.std.proofs.Common.{◌≡◌, ◌≢◌, ◌⊎◌, ◌+◌, ◌*◌, ◌/◌, ◌%◌, ◌<◌, ◌≤◌, ℕ, true, false, List, [], ◌∷◌, ◌++◌, length, slice_index, Option, Some, None, IsTrue, refl, sym, ap, subst, ◌∙◌, inl, inr, arith, get_or-set_same, get_or-set_other, IfSome}
use Rattle.std.specs.Prelude.{nat_le, ◌||◌}
use Rattle.std.proofs.lemmas.Bool.{cases_lt, or_left, or_right, or_parts}
use Rattle.std.proofs.lemmas.Bool.Decides.{eqb_tells}
use Rattle.std.proofs.lemmas.List.Elements.{All-nil, All-cons, All-append}
use Rattle.plain_table.specs.declared.events.Act.TheVariants.{Scan}
use Rattle.plain_table.specs.declared.events.Event.{Event}
use Rattle.plain_table.specs.declared.reports.Reply.TheVariants as reply
use Rattle.plain_table.specs.Cycle.{Cycle, IsOld}
use Rattle.plain_table.specs.Table.{Table, Sizes}
use Rattle.plain_table.specs.Words.{object_word}
use Rattle.plain_table.specs.History.{after}
use Rattle.plain_table.specs.Scans.{Rest}
use Rattle.plain_table.specs.Shapes.{event}
use Rattle.plain_table.specs.Shows.{IsShaded, IsScanned, IsCoveredIn, is_black}
use Rattle.plain_table.specs.Sweeps.{meeting, IsDue, Is_referred}
use Rattle.plain_table.proofs.CycleParts.{CycleSound-is}
use Rattle.plain_table.proofs.Options.{IsSomeAnd-by}
use Rattle.sweeper.specs.Marking.{all_visited, object_scanned, IsObjectScanned, IsQueue, IsMarking}
use Rattle.word_laws.specs.Runs.{IsRun}
use Rattle.table_laws.specs.Pauses.{IsPauseAct, scans_in}
use Rattle.sweeper.specs.Shading.{header_of, named_at, Shades}
use Rattle.sweeper.proofs.Begun.{object_word-is}
use Rattle.table_laws.proofs.PauseKeeps.{IsCalm, IsKeptBy, IsDue-calm, calm-after, kept-after}
use Rattle.table_laws.proofs.PauseActs.{pause-visits, scans_in-append, scans_in-visits}
use Rattle.word_laws.specs.CoverLaws.{IsClear}
use Rattle.word_laws.proofs.CoverSteps.{IsStep-same}
use Rattle.word_laws.proofs.CoveredWords.{ScannedWordsStayCovered-step}
use Rattle.plain_table.proofs.Options.{IfSome-is}
use Rattle.sweeper.proofs.FieldVisits.{IsOld-steady, AreVisited, AreVisited-all, visits-run}
use Rattle.sweeper.proofs.HeaderReads.{header-cases, header-unscanned, header-black, Shows-shaded}
use Rattle.word_laws.proofs.Runs.{IsRun-join}
use Rattle.plain_table.proofs.ObjectFields.{AreFieldsOf-three, fields_of}
use Rattle.sweeper.proofs.ScanRuns.{IsPartly, AreSmall-calm, object-run}
use Rattle.sweeper.proofs.VisitedWords.{all_visited-low}

-- what is known of each object that becomes shaded
abbrev pub IsOwed : List ℕ → Table → Cycle → ℕ → Type 0
IsOwed linked s c o = IsDue s c linked o × (o < s.count) × (IsOld c o ⊎ IsTrue (c.born o))

module _ (linked old words mid list listed : List ℕ) (next len end : ℕ) (held : ℕ → Type 0) (s : Table) (c : Cycle) (m : IsMarking linked old words list next len s c)
    (sh : Shades words mid list listed len end held) (ok : (o : ℕ) → held o → IsOwed linked s c o) where
  calm_first : IsCalm s (after s m.events)
  calm_first = calm-after m.events s m.acts

  kept_first : IsKeptBy s c (after s m.events)
  kept_first = kept-after m.events s c m.sound m.cycle m.acts m.run.legal

  in-list : (o : ℕ) → o < s.sizes.objects → o < length list
  in-list o few = omega (arith, few, m.many)

  made_few_first : (o : ℕ) → o < s.count → o < s.sizes.objects
  made_few_first o made = omega (arith, made, m.sound.objects.few)

  -- a born object is not white
  born-black : (o : ℕ) → o < s.sizes.objects → IsTrue (c.born o) → header_of words o ≢ 0
  born-black o few born =
      let now : IsTrue (kept_first.cycle.born o) = kept_first.steady.born o born in
      let black : is_black (after s m.events) kept_first.cycle o ≡ true =
      or_left (kept_first.cycle.scans o || kept_first.cycle.born o) (nat_le (after s m.events).count o) (or_right (kept_first.cycle.scans o) (kept_first.cycle.born o) now) in
      let three = header-black words (after s m.events) kept_first.cycle m.run.shows kept_first.is o (subst (λ (z : Sizes). o < z.objects) (sym calm_first.sizes) few) black in
      λ e. omega (arith, e, three)

  shaded-grows : (o : ℕ) → o < s.sizes.objects → IsShaded words o → IsShaded mid o
  shaded-grows o few was = elim (sh.headers o (in-list o few)) [
    | inl same ↦ ap (λ w. w % 2) same ∙ was
    | inr w ↦ absurd (omega (arith, was, w.0))
  ]

  covered_first : IsCoveredIn mid s c
  covered_first = record { references = references; owed = owed }
    where
      references : (o k q : ℕ) → o < s.sizes.objects → IsScanned mid o → s.refs o k ≡ Some q → IsShaded mid q
      references o k q few scanned there = elim (sh.headers o (in-list o few)) [
        | inl same ↦
            shaded-grows q (made_few_first q (m.sound.objects.references o k q there).2)
            (m.covered.references o k q few (ap (λ w. w / 2 % 2) (sym same) ∙ scanned) there)
        | inr w ↦ absurd (omega (arith, scanned, w.1))
      ]

      owed : (o : ℕ) → o < s.sizes.objects → IsShaded mid o → (IsScanned mid o → ⊥) → IsOld c o
      owed o few shaded not_scanned = elim (sh.headers o (in-list o few)) [
        | inl same ↦ m.covered.owed o few (ap (λ w. w % 2) (sym same) ∙ shaded) (λ was. not_scanned (ap (λ w. w / 2 % 2) same ∙ was))
        | inr w ↦
            let j = w.2 in
            let is = ok o (subst held j.3 (sh.new j.0 j.1 j.2).3) in
            elim is.2 [
              | inl older ↦ older
              | inr born ↦ absurd (born-black o few born w.0)
            ]
      ]

  queue_first : IsQueue mid listed next end s.count
  queue_first = record { each = each; all = all; differ = differ }
    where
      grey : (o : ℕ) → o < s.sizes.objects → header_of words o ≡ 1 → header_of mid o ≡ 1
      grey o few was = elim (sh.headers o (in-list o few)) [
        | inl same ↦ same ∙ was
        | inr w ↦ w.1
      ]

      each : (j : ℕ) → next ≤ j → j < end → (slice_index listed j < s.count) × (header_of mid (slice_index listed j) ≡ 1)
      each j from to = elim (cases_lt j len) [
        | inl less ↦
            let is = m.queue.each j from less in
            subst (λ o. (o < s.count) × (header_of mid o ≡ 1)) (sym (sh.kept j less)) (is.0, grey (slice_index list j) (made_few_first (slice_index list j) is.0) is.1)
        | inr past ↦
            let is = sh.new j past to in
            ((ok (slice_index listed j) is.3).1, is.2)
      ]

      all : (o : ℕ) → o < s.count → header_of mid o ≡ 1 → (j : ℕ) × (next ≤ j) × (j < end) × (slice_index listed j ≡ o)
      all o made is = elim (sh.headers o (in-list o (made_few_first o made))) [
        | inl same ↦
            let j = m.queue.all o made (sym same ∙ is) in
            (j.0, j.1, omega (arith, j.2, sh.grown), sh.kept j.0 j.2 ∙ j.3)
        | inr w ↦ let j = w.2 in (j.0, omega (arith, j.1, m.order), j.2, j.3)
      ]

      differ : (i j : ℕ) → next ≤ i → i < j → j < end → slice_index listed i ≢ slice_index listed j
      differ i j from order to = elim (cases_lt j len) [
        | inl less ↦ λ e. m.queue.differ i j from order less (sym (sh.kept i (omega (arith, order, less))) ∙ e ∙ sh.kept j less)
        | inr past ↦ elim (cases_lt i len) [
          | inl less ↦ λ e.
              let first = m.queue.each i from less in
              let second = sh.new j past to in
              omega (arith, ap (header_of words) (sym (sh.kept i less) ∙ e), first.1, second.1)
          | inr high ↦ sh.differ i j high order to
        ]
      ]

  pub marking-shaded : IsMarking linked old mid listed next end s c
  marking-shaded = record {
    sound = m.sound;
    cycle = m.cycle;
    small = m.small;
    many = sh.list_long ∙ m.many;
    order = omega (arith, m.order, sh.grown);
    events = m.events;
    run = record {
      legal = m.run.legal;
      own = m.run.own;
      shows = Shows-shaded words mid list listed len end held sh (after s m.events) kept_first.cycle kept_first.is kept_first.sound (m.many ∙ ap (λ (z : Sizes). z.objects) (sym calm_first.sizes)) m.run.shows;
      scans = m.run.scans;
    };
    acts = m.acts;
    covered = covered_first;
    queue = queue_first;
    due = λ j from to. elim (cases_lt j len) [
      | inl less ↦ subst (IsDue s c linked) (sym (sh.kept j less)) (m.due j from less)
      | inr past ↦ (ok (slice_index listed j) (sh.new j past to).3).0
    ];
    counted = m.counted;
    kept = λ o few was. elim (sh.headers o (in-list o few)) [
      | inl same ↦ λ e. m.kept o few was (sym same ∙ e)
      | inr w ↦ λ e. omega (arith, e, w.1)
    ];
  }

-- the scan of the next object in the list
module _ (linked old words now list listed : List ℕ) (next len end : ℕ) (s : Table) (c : Cycle) (z : Sizes) (m : IsMarking linked old words list next len s c) (same : s.sizes ≡ z) (less : next < len)
    (x : IsObjectScanned words now list listed len end z (slice_index list next)) where
  abbrev n : ℕ
  n = slice_index list next

  abbrev mid : List ℕ
  mid = x.mid

  made : slice_index list next < s.count
  made = (m.queue.each next (omega arith) less).0

  few : slice_index list next < s.sizes.objects
  few = omega (arith, made, m.sound.objects.few)

  shaded : header_of words (slice_index list next) ≡ 1
  shaded = (m.queue.each next (omega arith) less).1

  older : IsOld c (slice_index list next)
  older = m.covered.owed (slice_index list next) few (ap (λ w. w % 2) shaded) (λ scanned. omega (arith, scanned, shaded))

  refs-first : (after s m.events).refs ≡ s.refs
  refs-first = (calm-after m.events s m.acts).refs

  -- the objects of its references
  reference-is : (k q : ℕ) → k < 4 → slice_index words (33 + 8 * slice_index list next + k) ≡ q + 1 → s.refs (slice_index list next) k ≡ Some q
  reference-is k q four word =
      let at : slice_index list next < (after s m.events).sizes.objects = subst (λ (y : Sizes). slice_index list next < y.objects) (sym (calm-after m.events s m.acts).sizes) few in
      ap (λ (r : ℕ → ℕ → Option ℕ). r (slice_index list next) k) (sym refs-first)
      ∙ object_word-is ((after s m.events).refs (slice_index list next) k) q (sym (m.run.shows.references (slice_index list next) k at four) ∙ word)

  ok : (q : ℕ) → named_at words (33 + 8 * slice_index list next) 4 q → IsOwed linked s c q
  ok q is =
      let there = reference-is is.0 q is.1 is.2 in
      let sound = m.sound.objects.references (slice_index list next) is.0 q there in (
        Is_referred (slice_index list next) is.0 q (m.due next (omega arith) less) there,
        sound.2,
        (CycleSound-is s c m.sound m.cycle).traced.references (slice_index list next) is.0 q (inl older) there,
      )

  after_shading : IsMarking linked old mid listed next end s c
  after_shading = marking-shaded linked old words mid list listed next len end (named_at words (33 + 8 * slice_index list next) 4) s c m x.shading ok

  abbrev m1 : IsMarking linked old mid listed next end s c
  m1 = after_shading

  abbrev t : Table
  t = after s m1.events

  calm : IsCalm s (after s m1.events)
  calm = calm-after m1.events s m1.acts

  kept : IsKeptBy s c (after s m1.events)
  kept = kept-after m1.events s c m1.sound m1.cycle m1.acts m1.run.legal

  few_after : slice_index list next < (after s m1.events).sizes.objects
  few_after = subst (λ (y : Sizes). slice_index list next < y.objects) (sym calm.sizes) few

  still : slice_index listed next ≡ slice_index list next
  still = x.shading.kept next less

  fewer : next < end
  fewer = omega (arith, less, x.shading.grown)

  grey_mid : header_of mid (slice_index list next) ≡ 1
  grey_mid = ap (header_of mid) (sym still) ∙ (m1.queue.each next (omega arith) fewer).1

  -- an object that is not white is shaded
  shaded-of : (q : ℕ) → q < s.sizes.objects → header_of mid q ≢ 0 → IsShaded mid q
  shaded-of q inside apart = elim (header-cases mid (after s m1.events) kept.cycle m1.run.shows kept.is q (subst (λ (y : Sizes). q < y.objects) (sym calm.sizes) inside)) [
    | inl white ↦ absurd (apart white.0)
    | inr rest ↦ elim rest [
      | inl is ↦ ap (λ w. w % 2) is.0
      | inr is ↦ ap (λ w. w % 2) is.0
    ]
  ]

  references-shaded : (k r : ℕ) → s.refs (slice_index list next) k ≡ Some r → IsShaded mid r
  references-shaded k r there =
      let sound = m.sound.objects.references (slice_index list next) k r there in
      let inside : r < s.sizes.objects = omega (arith, sound.2, m.sound.objects.few) in
      let at : slice_index list next < (after s m.events).sizes.objects = subst (λ (y : Sizes). slice_index list next < y.objects) (sym (calm-after m.events s m.acts).sizes) few in
      let word : slice_index words (33 + 8 * slice_index list next + k) ≡ r + 1 =
      m.run.shows.references (slice_index list next) k at sound.1 ∙ ap object_word (ap (λ (f : ℕ → ℕ → Option ℕ). f (slice_index list next) k) refs-first ∙ there) in
      shaded-of r inside (x.shading.done r (omega (arith, inside, m.many)) (k, sound.1, word))

  visits : IsPartly linked (after s m1.events) (slice_index list next) (fields_of (slice_index list next)) [] (AreVisited (slice_index list next)) (all_visited mid z (slice_index list next))
  visits =
      visits-run linked (after s m1.events) kept.cycle kept.sound kept.is (AreSmall-calm s (after s m1.events) calm m.small) mid m1.run.shows z (calm.sizes ∙ same) (slice_index list next) few_after
      (IsOld-steady c kept.cycle (slice_index list next) kept.steady older)

  low : (q : ℕ) → q < s.sizes.objects → header_of (all_visited mid z (slice_index list next)) q ≡ header_of mid q
  low q inside =
      all_visited-low mid z (slice_index list next) (32 + 8 * q) (subst (λ (y : Sizes). 32 + 8 * q < 32 + 8 * y.objects) same (omega (arith, inside))) (λ e. omega (arith, e)) (λ e. omega (arith, e))

  unscanned : (d : Cycle) → (after (after s m1.events) visits.events).cycle ≡ Some d → d.scans (slice_index list next) ≡ false
  unscanned d is =
      let u = after (after s m1.events) visits.events in
      let calm_two = calm-after visits.events (after s m1.events) (pause-visits visits.events visits.acts) in
      let inside : slice_index list next < u.sizes.objects = subst (λ (y : Sizes). slice_index list next < y.objects) (sym calm_two.sizes) few_after in
      let one : header_of (all_visited mid z (slice_index list next)) (slice_index list next) ≡ 1 = low (slice_index list next) few ∙ grey_mid in
      let not_black = header-unscanned (all_visited mid z (slice_index list next)) u d visits.run.shows is (slice_index list next) inside (λ e. omega (arith, e, one)) in
      (or_parts (d.scans (slice_index list next)) (d.born (slice_index list next)) (or_parts (d.scans (slice_index list next) || d.born (slice_index list next)) (nat_le u.count (slice_index list next)) not_black).0).0

  scan : Event
  scan = event meeting (Scan (slice_index list next)) reply.Ok

  object : IsRun linked Rest Rest (object_scanned mid z (slice_index list next)) (after s m1.events) (visits.events ++ event meeting (Scan (slice_index list next)) reply.Ok ∷ [])
  object =
      object-run linked (after s m1.events) kept.cycle kept.sound kept.is (AreSmall-calm s (after s m1.events) calm m.small) (slice_index list next) (fields_of (slice_index list next)) (AreVisited (slice_index list next))
      (all_visited mid z (slice_index list next)) few_after (IsOld-steady c kept.cycle (slice_index list next) kept.steady older)
      (IsSomeAnd-by (after s m1.events).cycle kept.cycle (λ d. IsDue (after s m1.events) d linked (slice_index list next)) kept.is
      (IsDue-calm s (after s m1.events) c kept.cycle linked (slice_index list next) calm kept.steady.globals kept.steady.vars (m.due next (omega arith) less)))
      (AreFieldsOf-three (slice_index list next)) (AreVisited-all (slice_index list next)) visits unscanned

  -- the headers after the scan
  inside_all : 32 + 8 * slice_index list next < length (all_visited mid z (slice_index list next))
  inside_all =
      let u = after (after s m1.events) visits.events in
      let calm_two = calm-after visits.events (after s m1.events) (pause-visits visits.events visits.acts) in
      let inside : slice_index list next < u.sizes.objects = subst (λ (y : Sizes). slice_index list next < y.objects) (sym calm_two.sizes) few_after in
      omega (arith, inside, visits.run.shows.whole)

  header-here : header_of (object_scanned mid z (slice_index list next)) (slice_index list next) ≡ 3
  header-here = get_or-set_same (all_visited mid z (slice_index list next)) (32 + 8 * slice_index list next) 3 0 inside_all

  header-there : (q : ℕ) → q < s.sizes.objects → (q ≡ slice_index list next → ⊥) → header_of (object_scanned mid z (slice_index list next)) q ≡ header_of mid q
  header-there q inside apart =
      get_or-set_other (all_visited mid z (slice_index list next)) (32 + 8 * slice_index list next) (32 + 8 * q) 3 0 (λ e. apart (omega (arith, e))) ∙ low q inside

  covered_visited : IsCoveredIn (all_visited mid z (slice_index list next)) s c
  covered_visited = record {
    references = λ p k q inside scanned there.
        let sound = m.sound.objects.references p k q there in
        ap (λ w. w % 2) (low q (omega (arith, sound.2, m.sound.objects.few))) ∙ m1.covered.references p k q inside (ap (λ w. w / 2 % 2) (sym (low p inside)) ∙ scanned) there;
    owed = λ p inside is_shaded not_scanned.
        m1.covered.owed p inside (ap (λ w. w % 2) (sym (low p inside)) ∙ is_shaded) (λ was. not_scanned (ap (λ w. w / 2 % 2) (low p inside) ∙ was));
  }

  covered : IsCoveredIn (object_scanned mid z (slice_index list next)) s c
  covered =
      IfSome-is s.cycle (IsCoveredIn (object_scanned mid z (slice_index list next)) s) c m.cycle
      (ScannedWordsStayCovered-step (all_visited mid z (slice_index list next)) s s (slice_index list next) (IsStep-same s m.sound) (λ o k. refl) inside_all (λ k. clear k (s.refs (slice_index list next) k) refl)
      (subst (λ (cycle : Option Cycle). IfSome cycle (IsCoveredIn (all_visited mid z (slice_index list next)) s)) (sym m.cycle) covered_visited))
    where
      clear : (k : ℕ) (found : Option ℕ) → s.refs (slice_index list next) k ≡ found → IsClear (all_visited mid z (slice_index list next)) found
      clear k None none = tt
      clear k (Some r) there =
          let sound = m.sound.objects.references (slice_index list next) k r there in
          ap (λ w. w % 2) (low r (omega (arith, sound.2, m.sound.objects.few))) ∙ references-shaded k r there

  made-few : (q : ℕ) → q < s.count → q < s.sizes.objects
  made-few q is = omega (arith, is, m.sound.objects.few)

  queue : IsQueue (object_scanned mid z (slice_index list next)) listed (next + 1) end s.count
  queue = record {
    each = λ j from to.
        let is = m1.queue.each j (omega (arith, from)) to in
        let apart : slice_index listed j ≡ slice_index list next → ⊥ = λ e. m1.queue.differ next j (omega arith) (omega (arith, from)) to (still ∙ sym e) in
        (is.0, header-there (slice_index listed j) (made-few (slice_index listed j) is.0) apart ∙ is.1);
    all = λ q is_made one.
        let apart : q ≡ slice_index list next → ⊥ = λ e. omega (arith, one, ap (header_of (object_scanned mid z (slice_index list next))) e, header-here) in
        let j = m1.queue.all q is_made (sym (header-there q (made-few q is_made) apart) ∙ one) in
        let later : j.0 ≢ next = λ e. apart (sym j.3 ∙ ap (slice_index listed) e ∙ still) in
        (j.0, omega (arith, j.1, later), j.2, j.3);
    differ = λ i j from order to. m1.queue.differ i j (omega (arith, from)) order to;
  }

  counts : scans_in (m1.events ++ (visits.events ++ event meeting (Scan (slice_index list next)) reply.Ok ∷ [])) ≡ next + 1
  counts =
      let first = scans_in-append m1.events (visits.events ++ event meeting (Scan (slice_index list next)) reply.Ok ∷ []) in
      let second = scans_in-append visits.events (event meeting (Scan (slice_index list next)) reply.Ok ∷ []) in
      let none = scans_in-visits visits.events visits.acts in
      let one : scans_in (event meeting (Scan (slice_index list next)) reply.Ok ∷ []) ≡ 1 + 0 = refl in
      omega (arith, first, second, none, one, m1.counted)

  scanned_so : IsMarking linked old (object_scanned mid z (slice_index list next)) listed (next + 1) end s c
  scanned_so = record {
    sound = m.sound;
    cycle = m.cycle;
    small = m.small;
    many = m1.many;
    order = omega (arith, fewer);
    events = m1.events ++ (visits.events ++ event meeting (Scan (slice_index list next)) reply.Ok ∷ []);
    run = IsRun-join linked Rest Rest Rest mid (object_scanned mid z (slice_index list next)) s m1.events (visits.events ++ event meeting (Scan (slice_index list next)) reply.Ok ∷ []) m1.run object;
    acts = All-append (λ (e : Event). IsPauseAct e.act) m1.events (visits.events ++ event meeting (Scan (slice_index list next)) reply.Ok ∷ []) m1.acts
        (All-append (λ (e : Event). IsPauseAct e.act) visits.events (event meeting (Scan (slice_index list next)) reply.Ok ∷ []) (pause-visits visits.events visits.acts)
        (All-cons (λ (e : Event). IsPauseAct e.act) (event meeting (Scan (slice_index list next)) reply.Ok) [] tt (All-nil (λ (e : Event). IsPauseAct e.act))));
    covered = covered;
    queue = queue;
    due = λ j from to. m1.due j (omega (arith, from)) to;
    counted = counts;
    kept = λ q inside was. elim (eqb_tells q (slice_index list next)) [
      | inl e ↦ λ zero. omega (arith, zero, ap (header_of (object_scanned mid z (slice_index list next))) e.1, header-here)
      | inr e ↦ λ zero. m1.kept q inside was (sym (header-there q inside e.1) ∙ zero)
    ];
  }

  pub marking-scanned : IsMarking linked old now listed (next + 1) end s c
  marking-scanned = subst (λ (ws : List ℕ). IsMarking linked old ws listed (next + 1) end s c) (sym x.words) scanned_so
