-- Scanning an object of the hands, all of whose fields and references were passed, keeps the rule: the object is shaded and not
-- scanned, so it is old; its bound fields are safe, and its references clear.
use Rattle.std.proofs.Common.{◌≡◌, ◌≢◌, ℕ, ◌+◌, ◌/◌, ◌%◌, ◌<◌, nat_le, if◌then◌else◌, Bool, true, false, List, [], ◌∷◌, ◌++◌, length, get_or, set, bit_or, Option, Some, None, IsTrue, IsSome, IfSome, refl, sym, ap, subst, ◌∙◌, inl, inr, arith}
use Rattle.std.specs.Prelude.{◌⊎◌, ◌||◌}
use Rattle.std.proofs.lemmas.Bool.Decides.{nat_tests}
use mathlib.Core.Option.{some}
use lib.ListN.{get_elem?}
use Rattle.atomic_table.specs.Table.{Me}
use Rattle.plain_table.specs.declared.events.Act.TheVariants.{Scan}
use Rattle.plain_table.specs.declared.events.Cell.{Cell}
use Rattle.plain_table.specs.declared.events.Event.{Event}
use Rattle.plain_table.specs.declared.events.Field.{Field}
use Rattle.plain_table.specs.declared.events.Field.TheVariants as field
use Rattle.plain_table.specs.declared.reports.Reply.TheVariants as reply
use Rattle.plain_table.specs.Cycle.{Cycle, IsOld, is_from, start_in}
use Rattle.plain_table.specs.Finish.{id_at}
use Rattle.plain_table.specs.History.{IsLegal, next}
use Rattle.plain_table.specs.Index.{index_of}
use Rattle.plain_table.specs.Places.{space_of}
use Rattle.plain_table.specs.Rows.{IsPlaced, AreSafe}
use Rattle.plain_table.specs.Shows.{Shows, IsCovered, IsCoveredIn, is_black}
use Rattle.plain_table.specs.Table.{Table, Sizes}
use Rattle.plain_table.specs.Words.{header_place, header_word, object_word, words_in_all}
use Rattle.plain_table.proofs.CycleParts.{CycleSound-is}
use Rattle.plain_table.proofs.Options.{IfSome-is, IsSome-some, IsSomeAnd-by, IsSomeAnd-is, IsSomeAnd-some, is_some-option_map}
use Rattle.table_laws.proofs.Steadiness.{events-steady}
use Rattle.word_laws.specs.CoverLaws.{IsClear}
use Rattle.word_laws.proofs.CoveredWords.{ScannedWordsStayCovered-step}
use Rattle.word_laws.proofs.CoverSteps.{IsStep-next}
use Rattle.word_laws.proofs.HeaderWords.{ScanWordsFollow-row}
use Rattle.word_laws.proofs.NearWords.{IsNear-set}
use Rattle.entry_base.specs.declared.view.Fact.{Fact}
use Rattle.entry_base.specs.declared.view.Fact.TheVariants as fact
use Rattle.entry_base.specs.declared.view.Opening.{Opening}
use Rattle.entry_base.specs.declared.view.View.{View}
use Rattle.entry_base.specs.Callers.{AreVariables, ArePublishable, AreWithin, IsCaller, event_of}
use Rattle.entry_base.specs.Facts.{IsKnown}
use Rattle.entry_base.specs.Lists.{Has, count_in, without_one}
use Rattle.entry_base.specs.Openings.{sizes_in, start_of}
use Rattle.entry_base.specs.Passed.{IsPassed, PassedField, WillNotMove}
use Rattle.entry_base.specs.Rule.{Kept}
use Rattle.entry_base.proofs.Classes.{header_steady, linked_low}
use Rattle.entry_base.proofs.OneByOne.{caller_stays, hands_within_limit}
use Rattle.entry_base.proofs.OwnsStay.{owns_same}
use Rattle.entry_base.proofs.Steps.{Given, Adds, Keeps, adds, given, keeps_by, takes_same}
use Rattle.entry_base.proofs.Sums.{count_self, count_without, each_has, each_without}
use Rattle.mark_rule.specs.Marking.{Scanned}
use Rattle.entry_base.proofs.HandTells.{hand_header}
use Rattle.mark_rule.proofs.Headers.{HeaderTells, count_past, grey_of, hands_changed, header_tells}

-- a header that says shaded and not scanned is not black, so its object has no scan
white_word : (shaded black : Bool) → header_word shaded black ≡ 1 → black ≡ false
white_word true true e = absurd (omega (arith, e))
white_word false true e = absurd (omega (arith, e))
white_word shaded false e = refl

no_scan : (scanned new later : Bool) → (scanned || new || later) ≡ false → scanned ≡ false
no_scan true new later e = absurd (cc)
no_scan false new later e = refl

-- no cell below the start of the area moves, and none after an abort
still : (start : Option ℕ) (aborted : Bool) (i : ℕ) → IfSome start (λ first. i < first) → is_from (if aborted then None else start) i ≡ false
still start true i less = refl
still None false i less = refl
still (Some first) false i less = grind (arith, nat_tests)

module _ (key : Opening) (words : List ℕ) (views : List View) (id : ℕ) (v : View) (o : ℕ) (k : Kept key words views) (at : get_elem? views id ≡ some v)
    (caller : IsCaller key v) (passed : IsPassed v o) where
  abbrev z : Sizes
  z = sizes_in key

  abbrev place : ℕ
  place = header_place o

  abbrev found : ℕ
  found = get_or words place 0

  abbrev written : ℕ
  written = bit_or found 2

  abbrev e : Event
  e = event_of v (Scan o) reply.Ok

  abbrev scanner : View
  scanner = record v { seen = k.log ++ e ∷ []; hands = without_one o v.hands }

  abbrev later : List ℕ
  later = set k.shown place written

  made : o < z.objects
  made = hands_within_limit key v o caller passed.hands

  shown_one : get_or k.shown place 0 ≡ 1
  shown_one = hand_header key words views id v k at o caller passed.hands

  found_one : found ≡ 1
  found_one = k.near.low place (let m = made in omega arith) ∙ shown_one

  written_word : written ≡ header_word true true
  written_word = ap (λ n. bit_or n 2) found_one

  whole : length k.shown ≡ words_in_all z
  whole = let g = given key words views id v k at k.base k.is_base in g.shows.whole ∙ ap words_in_all g.sizes

  room : place < length k.shown
  room = let m = made in let w = whole in omega arith

  left_here : count_in o scanner.hands + grey_of (get_or k.shown place 0) ≡ count_in o v.hands + grey_of written
  left_here =
      let a = count_without o v.hands o passed.hands in
      let b = count_self o [] in
      let c : grey_of (get_or k.shown place 0) ≡ 1 = ap grey_of shown_one in
      let d : grey_of written ≡ 0 = ap grey_of written_word in
      omega arith

  left_there : (m : ℕ) → m ≢ o → count_in m scanner.hands ≡ count_in m v.hands
  left_there m ne = let a = count_without o v.hands m passed.hands in let b = count_past m o [] ne in omega arith

  module _ (s : Table) (g : Given key k.log k.shown words v s) where
    knows : (x : Fact) → Has v.facts x → IsKnown z k.log s k.shown words x
    knows x has = each_has _ v.facts x g.known has

    under : IsSome s.cycle
    under = let p = passed.fields (field.Trusted o) refl in IsSomeAnd-some s.cycle _ (knows (fact.Read (field.Trusted o) p.word) p.read).0

    low : o < s.sizes.objects
    low = subst (λ (x : Sizes). o < x.objects) (sym g.sizes) made

    tells : HeaderTells k.shown s o
    tells = header_tells k.shown s o g.shows low under

    abbrev c : Cycle
    c = tells.cycle

    is : s.cycle ≡ Some c
    is = tells.under_way

    white : is_black s c o ≡ false
    white = white_word tells.shaded (is_black s c o) (sym tells.word ∙ shown_one)

    old : IsOld c o
    old = (IfSome-is s.cycle (IsCoveredIn k.shown s) c is g.covered).owed o low (ap (λ x. x % 2) shown_one) (λ half. let h : 0 ≡ 1 = ap (λ x. x / 2 % 2) (sym shown_one) ∙ half in absurd (omega (arith, h)))

    -- where a passed field is bound and has its word, the cell at its index will not move without the field
    placed_in : (f : Field) (w : ℕ) → WillNotMove v f w → (n : ℕ) → s.bound f ≡ Some n → s.words f ≡ w → IsPlaced c f (index_of w)
    placed_in (field.Trusted number) w stays n bound word = tt
    placed_in (field.External number) w stays n bound word = by_start (start_of v.opening) (ap start_in (sym is) ∙ g.start ∙ ap start_of (sym caller.opened)) stays
      where
        by_start : (start : Option ℕ) → c.start ≡ start → IfSome start (λ first. (index_of w < first) ⊎ Has v.facts fact.Aborted ⊎ Has v.facts (fact.Placed (field.External number) w))
            → IsPlaced c (field.External number) (index_of w)
        by_start None none h = inl (still c.start c.aborted (index_of w) (subst (λ x. IfSome x (λ first. index_of w < first)) (sym none) tt))
        by_start (Some first) there (inl less) = inl (still c.start c.aborted (index_of w) (subst (λ x. IfSome x (λ first. index_of w < first)) (sym there) less))
        by_start (Some first) there (inr (inl aborted)) =
            inl (ap (λ b. is_from (if b then None else c.start) (index_of w)) (IsSomeAnd-is s.cycle _ c is (knows fact.Aborted aborted).0))
        by_start (Some first) there (inr (inr placed)) = IsSomeAnd-is s.cycle _ c is (knows (fact.Placed (field.External number) w) placed).0 n bound word

    safe : AreSafe s c o
    safe f n of bound =
        let p : PassedField v f = passed.fields f of in
        elim (IsSomeAnd-is s.cycle _ c is (knows (fact.Read f p.word) p.read).0) [
          | inr sure ↦ sure n bound
          | inl word ↦
              let own : id_at s (space_of f) (index_of (s.words f)) ≡ Some n = (CycleSound-is s c g.sound is).bound.own f n (inl (subst (IsOld c) (sym of) old)) bound in
              let filled : IsSome (s.cells (space_of f) (index_of p.word)) =
              sym (is_some-option_map (λ (x : Cell). x.id) (s.cells (space_of f) (index_of p.word)))
              ∙ IsSome-some (id_at s (space_of f) (index_of p.word)) n (subst (λ x. id_at s (space_of f) (index_of x) ≡ Some n) word own) in
              let marked : IsTrue (c.marks (space_of f) (index_of p.word)) = IsSomeAnd-is s.cycle _ c is (knows (fact.Visited (space_of f) (index_of p.word)) p.visited).0 filled in (
                own,
                subst (λ x. IsTrue (c.marks (space_of f) (index_of x))) (sym word) marked,
                subst (λ x. IsPlaced c f (index_of x)) (sym word) (placed_in f p.word p.placed n bound word),
              )
        ]

    legal : IsLegal s e
    legal = (IsSomeAnd-by s.cycle c _ is (old, no_scan (c.scans o) (c.born o) (nat_le s.count o) white, safe), refl)

    clear : (i : ℕ) → IsClear k.shown (s.refs o i)
    clear i = by_target (s.refs o i) refl
      where
        by_target : (target : Option ℕ) → s.refs o i ≡ target → IsClear k.shown target
        by_target None holds = tt
        by_target (Some q) holds =
            let p = passed.references i (g.sound.objects.references o i q holds).1 in
            elim (IfSome-is s.cycle _ c is (knows (fact.Reference o i p.word) p.read).1.1) [
              | inl word ↦ (knows (fact.Shaded q) (p.shaded q (sym word ∙ ap object_word holds))).1.1
              | inr nothing ↦ subst (IsClear k.shown) holds nothing
            ]

    add : Adds z k.log e k.shown later (set words place written) scanner [] s
    add =
        let steady = events-steady s e g.sound legal tt in
        let owns = owns_same s e (next s e) v steady.cells (record { vars = refl; ticket = refl; owed = refl; fresh = refl }) g.owns in
        record {
          legal = legal;
          shows = subst (λ n. Shows (set k.shown place n) (next s e)) (sym written_word) (ScanWordsFollow-row k.shown s e o low g.shows legal refl);
          covered = subst (λ n. IsCovered (set k.shown place n) (next s e)) (sym written_word)
              (ScannedWordsStayCovered-step k.shown s (next s e) o (IsStep-next s e g.sound (λ policy same. absurd (cc))) (λ m n. refl) room clear g.covered);
          steady = header_steady z k.log (k.log ++ e ∷ []) s (next s e) k.shown o written made whole (ap (λ x. x % 2) written_word) (λ m n. refl) (λ p. takes_same p k.log e refl);
          owns = record { variables = owns.variables; pending = owns.pending; owed = owns.owed; fresh = owns.fresh };
          tells = tt;
        }

  kept_scan : Kept key (set words place written) (set views id scanner) × Scanned v o scanner
  kept_scan =
      let hands = hands_changed z k.shown v.hands scanner.hands o written made room left_here left_there in
      let done = adds key words (set words place written) views id v scanner k at later [] refl refl refl
      (IsNear-set z words k.shown place written k.near) (linked_low z words place written (let m = made in omega arith)) hands
      e refl caller.own tt refl add in (
        done.0,
        record {
          same = record { opening = refl; number = refl; numbers = refl; cut = refl; knows = λ f has. has };
          own = record { vars = refl; pending = refl; owed = refl; fresh = refl };
          extends = done.1 caller.opened;
          hands = refl;
        },
      )

pub scans : (key : Opening) (slots id : ℕ) (me : Me (Unit {0}) View) (o : ℕ) → IsCaller key me.0 → IsPassed me.0 o → Keeps key slots id me (header_place o) (λ n. bit_or n 2) (λ found w. Scanned me.0 o w)
scans key slots id me o caller passed = keeps_by key slots id me (header_place o) (λ n. bit_or n 2) (λ found w. Scanned me.0 o w) (λ words views k at.
    let done = kept_scan key words views id me.0 o k at caller passed in
    (scanner key words views id me.0 o k at caller passed, done.0, done.1))

pub scanned_calls : (key : Opening) (v : View) (o : ℕ) (w : View) → IsCaller key v → Scanned v o w → IsCaller key w
scanned_calls key v o w caller scanned =
    caller_stays key v w caller scanned.same scanned.extends.lawful (subst (AreVariables key) (sym scanned.own.vars) caller.variables) (subst (ArePublishable key) (sym scanned.own.pending) caller.pending)
    (subst (AreWithin key) (sym scanned.hands) (each_without (λ q. q < (sizes_in key).objects) (o ∷ []) v.hands caller.hands))
