-- What every kind of step shares: an event is added to the history, or none is; one word is changed, or none; one view is
-- changed. What is left to show for a kind is said of one sound table (`Adds`, `Leaves`).
use Rattle.std.proofs.Common.{◌≡◌, ◌≢◌, ℕ, zero, suc, ◌+◌, ◌<◌, ◌≤◌, List, [], ◌∷◌, ◌++◌, set, get_or, Option, Some, None, refl, sym, ap, subst, ◌∙◌, ◌⊎◌, inl, inr, arith, append_assoc, append-nil}
use Rattle.std.proofs.lemmas.Bool.{cases_lt}
use Rattle.std.proofs.lemmas.List.{set-get_or}
use mathlib.Core.Option.{some}
use lib.ListN.{get_elem?}
use Rattle.atomic_table.specs.Table.{Allows, Me, keeps}
use Rattle.plain_table.specs.declared.events.Act.TheVariants.{Look}
use Rattle.plain_table.specs.declared.events.Event.{Event}
use Rattle.plain_table.specs.declared.events.Space.{Space}
use Rattle.plain_table.specs.declared.events.Space.TheVariants.{External}
use Rattle.plain_table.specs.declared.reports.Reply.TheVariants as reply
use Rattle.plain_table.specs.Table.{Table, Sizes}
use Rattle.plain_table.specs.History.{IsLegal, IsLegalHistory, next, after}
use Rattle.plain_table.specs.Sound.{IsSound}
use Rattle.table_laws.specs.Steady.{IsDuringPhase, IsSteady, CyclesSteady}
use Rattle.plain_table.specs.Words.{phase_word}
use Rattle.plain_table.specs.Cycle.{Cycle, start_in}
use Rattle.plain_table.specs.Shows.{Shows, IsCovered}
use Rattle.table_laws.proofs.Soundness.{events-sound}
use Rattle.table_laws.proofs.Steadiness.{events-steady}
use Rattle.entry_base.specs.declared.view.Opening.{Opening}
use Rattle.entry_base.specs.declared.view.View.{View}
use Rattle.entry_base.specs.declared.view.Fact.{Fact}
use Rattle.entry_base.specs.Lists.{Each, total, count_in}
use Rattle.entry_base.specs.Ranks.{takes_of, takes_in}
use Rattle.entry_base.specs.Facts.{IsKnown}
use Rattle.entry_base.specs.Numbers.{HasNumber, IsPhaseEvent, Stands}
use Rattle.entry_base.specs.Hands.{grey, HandsKept}
use Rattle.entry_base.specs.Owns.{Owns}
use Rattle.plain_table.specs.Near.{IsNear}
use Rattle.entry_base.specs.Rule.{StateKept, Kept, Ruled}
use Rattle.entry_base.specs.Openings.{IsBase, start_of, phase_of, sizes_in}
use Rattle.entry_base.specs.Histories.{AreTrueOf}
use Rattle.entry_base.specs.Callers.{Looks, Extends}
use Rattle.entry_base.proofs.CutsStay.{cuts_set}
use Rattle.entry_base.proofs.Sums.{total_set, among, both_among, views_set, each_map, each_append}
use Rattle.entry_base.proofs.FactsStay.{WordsSteady, StaysLinked, fact_stays}
use Rattle.entry_base.proofs.OwnsStay.{owns_other}

-- what a step may use of the table after the history: it is sound, the words show it, and the stepping view knows it
pub record Given (key : Opening) (log : List Event) (shown words : List ℕ) (v : View) (s : Table) : Type 0 where
  pub sizes : s.sizes ≡ sizes_in key
  pub phase : phase_word s.cycle ≡ phase_of key
  pub start : start_in s.cycle ≡ start_of key
  pub sound : IsSound s
  pub shows : Shows shown s
  pub covered : IsCovered shown s
  pub owns : Owns s v
  pub known : Each (IsKnown (sizes_in key) log s shown words) v.facts

-- what is left to show of it for a step with an event, which tells the stepping view `more`
pub record Adds (z : Sizes) (log : List Event) (e : Event) (shown later now : List ℕ) (w : View) (more : List Fact) (s : Table) : Type 0 where
  pub legal : IsLegal s e
  pub shows : Shows later (next s e)
  pub covered : IsCovered later (next s e)
  pub steady : WordsSteady z log (log ++ e ∷ []) s (next s e) shown later
  pub owns : Owns (next s e) w
  pub tells : Each (IsKnown z (log ++ e ∷ []) (next s e) later now) more

-- and for one without
pub record Leaves (z : Sizes) (log : List Event) (shown later now : List ℕ) (w : View) (more : List Fact) (s : Table) : Type 0 where
  pub shows : Shows later s
  pub covered : IsCovered later s
  pub steady : WordsSteady z log log s s shown later
  pub owns : Owns s w
  pub tells : Each (IsKnown z log s later now) more

get_set : (views : List View) (id : ℕ) (v w : View) → get_elem? views id ≡ some v → get_elem? (set views id w) id ≡ some w
get_set [] id v w at = absurd (cc)
get_set (u ∷ us) zero v w at = refl
get_set (u ∷ us) (suc n) v w at = get_set us n v w at

-- histories
pub after_snoc : (b : Table) (es : List Event) (e : Event) → after b (es ++ e ∷ []) ≡ next (after b es) e
after_snoc b [] e = refl
after_snoc b (x ∷ es) e = after_snoc (next b x) es e

legal_snoc : (b : Table) (es : List Event) (e : Event) → IsLegalHistory b es → IsLegal (after b es) e → IsLegalHistory b (es ++ e ∷ [])
legal_snoc b [] e h k = (k, tt)
legal_snoc b (x ∷ es) e h k = (h.0, legal_snoc (next b x) es e h.1 k)

-- an event that is legal everywhere and changes nothing, by a number that no view has: so a step without an event is as
-- steady as one with an event
abbrev idle : Event
idle = record { by = 13; act = Look External 0 0 0; said = reply.Null }

idle_legal : (s : Table) → IsLegal s idle
idle_legal s = (tt, refl)

phase_stays : (x y : Option Cycle) → CyclesSteady x y → phase_word y ≡ phase_word x
phase_stays None None h = refl
phase_stays (Some c) (Some d) h = refl
phase_stays None (Some d) h = absurd h
phase_stays (Some c) None h = absurd h

start_stays : (x y : Option Cycle) → CyclesSteady x y → start_in y ≡ start_in x
start_stays None None h = refl
start_stays (Some c) (Some d) h = h.start
start_stays None (Some d) h = absurd h
start_stays (Some c) None h = absurd h

-- takes after one more event
takes_snoc : (p : Space) (es : List Event) (e : Event) → takes_in p (es ++ e ∷ []) ≡ takes_in p es + takes_of p e.act e.said
takes_snoc p [] e = omega arith
takes_snoc p (x ∷ es) e = let r = takes_snoc p es e in omega arith

pub takes_same : (p : Space) (es : List Event) (e : Event) → takes_of p e.act e.said ≡ 0 → takes_in p (es ++ e ∷ []) ≡ takes_in p es
takes_same p es e none = let r = takes_snoc p es e in omega arith

pub takes_more : (p : Space) (es : List Event) (e : Event) → takes_of p e.act e.said ≡ 1 → takes_in p (es ++ e ∷ []) ≡ takes_in p es + 1
takes_more p es e one = let r = takes_snoc p es e in omega arith

-- objects that references hold are within the limit
pub held_within : (s : Table) (z : Sizes) → s.sizes ≡ z → IsSound s → (o k q : ℕ) → s.refs o k ≡ Some q → q < z.objects
held_within s z same sound o k q holds =
    let r = (sound.objects.references o k q holds).2 in
    let few = sound.objects.few in
    let e : s.sizes.objects ≡ z.objects = ap (λ (x : Sizes). x.objects) same in
    omega arith

-- the hands after a step
hands_set : (z : Sizes) (shown later : List ℕ) (views : List View) (id : ℕ) (v w : View) → get_elem? views id ≡ some v → HandsKept z shown views
    → ((o : ℕ) → count_in o w.hands + grey z shown o ≡ count_in o v.hands + grey z later o) → HandsKept z later (set views id w)
hands_set z shown later views id v w at was change = λ o.
    let a = total_set (λ (x : View). count_in o x.hands) views id v w at in
    let b = was o in
    let c = change o in
    omega arith

pub given : (key : Opening) (words : List ℕ) (views : List View) (id : ℕ) (v : View) (k : Kept key words views) → get_elem? views id ≡ some v → (b : Table) → IsBase key b → Given key k.log k.shown words v (after b k.log)
given key words views id v k at b base = let st = (k.states b base).state in record {
  sizes = st.sizes;
  phase = st.phase;
  start = st.start;
  sound = st.sound;
  shows = st.shows;
  covered = st.covered;
  owns = st.owns id v at;
  known = st.known id v at;
}

module _ (key : Opening) (words now : List ℕ) (views : List View) (id : ℕ) (v w : View) (k : Kept key words views) (at : get_elem? views id ≡ some v)
    (later : List ℕ) (more : List Fact) (numbers : w.numbers ≡ v.numbers) (cut : w.cut ≡ v.cut) (facts : w.facts ≡ more ++ v.facts)
    (near : IsNear (sizes_in key) now later) (ahead : StaysLinked (sizes_in key) words now)
    (hands : (o : ℕ) → count_in o w.hands + grey (sizes_in key) k.shown o ≡ count_in o v.hands + grey (sizes_in key) later o) where
  mine : Stands k.log v
  mine = k.numbers.stands id v at

  at_set : get_elem? (set views id w) id ≡ some w
  at_set = get_set views id v w at

  number_total : (n : ℕ) → total (λ x. count_in n x.numbers) (set views id w) ≡ total (λ x. count_in n x.numbers) views
  number_total n =
      let a = total_set (λ (x : View). count_in n x.numbers) views id v w at in
      let same : count_in n w.numbers ≡ count_in n v.numbers = ap (count_in n) numbers in
      omega arith

  -- a number of the stepping view is one of 13, and no other view has it
  low : HasNumber v v.number → v.number ≤ 12
  low own = elim (cases_lt 12 v.number) [
    | inl past ↦ absurd (let n = k.numbers.none v.number past in let a = among (λ (x : View). count_in v.number x.numbers) views id v at in omega arith)
    | inr le ↦ le
  ]

  alone : HasNumber v v.number → (j : ℕ) (u : View) → j ≢ id → get_elem? views j ≡ some u → count_in v.number u.numbers ≡ 0
  alone own j u ne there =
      let one = k.numbers.one v.number (low own) in
      let a = both_among (λ (x : View). count_in v.number x.numbers) views id j v u (λ e. ne (sym e)) at there in
      omega arith

  known_all : (log longer : List Event) (s t : Table) → ((f : Fact) → IsKnown (sizes_in key) log s k.shown words f → IsKnown (sizes_in key) longer t later now f)
      → Each (IsKnown (sizes_in key) log s k.shown words) v.facts → Each (IsKnown (sizes_in key) longer t later now) more → Each (IsKnown (sizes_in key) longer t later now) w.facts
  known_all log longer s t stay was new =
      subst (Each (IsKnown (sizes_in key) longer t later now)) (sym facts) (each_append (IsKnown (sizes_in key) longer t later now) more v.facts new (each_map _ _ v.facts stay was))

  module _ (sits : HasNumber v v.number ⊎ (w.hands ≡ v.hands)) (seen : w.seen ≡ k.log) (step : (s : Table) → Given key k.log k.shown words v s → Leaves (sizes_in key) k.log k.shown later now w more s) where
    state_left : (s : Table) → StateKept key k.log k.shown words views s → Leaves (sizes_in key) k.log k.shown later now w more s
        → StateKept key k.log later now (set views id w) s
    state_left s st left = record {
      sizes = st.sizes;
      phase = st.phase;
      start = st.start;
      sound = st.sound;
      shows = left.shows;
      covered = left.covered;
      owns = views_set (λ j u. Owns s u) views id w (λ j u ne there. st.owns j u there) left.owns;
      known = views_set (λ j u. Each (IsKnown (sizes_in key) k.log s later now) u.facts) views id w
          (λ j u ne there. each_map _ _ u.facts stay (st.known j u there))
          (known_all k.log k.log s s stay (st.known id v at) left.tells);
    }
      where
        steady : IsSteady s idle s
        steady = events-steady s idle st.sound (idle_legal s) tt

        stay : (f : Fact) → IsKnown (sizes_in key) k.log s k.shown words f → IsKnown (sizes_in key) k.log s later now f
        stay = fact_stays (sizes_in key) k.log k.log s idle s k.shown later words now steady left.steady ahead
            (held_within s (sizes_in key) st.sizes st.sound)

    pub sees : Kept key now (set views id w) × ((quiet : v.opening ≡ key) → Looks v w)
    sees = (
      record {
        log = k.log;
        shown = later;
        base = k.base;
        is_base = k.is_base;
        few = k.few;
        near = near;
        numbers = record {
          one = λ n le. number_total n ∙ k.numbers.one n le;
          none = λ n lt. number_total n ∙ k.numbers.none n lt;
          events = k.numbers.events;
          stands = views_set (λ j u. Stands k.log u) views id w (λ j u ne there. k.numbers.stands j u there)
              (record { rest = []; seen = sym seen ∙ sym (append-nil w.seen); quiet = tt });
        };
        hands = hands_set (sizes_in key) k.shown later views id v w at k.hands hands;
        cuts = cuts_set views id v w at k.cuts numbers cut sits;
        states = λ b base. record {
          follows = (k.states b base).follows;
          state = state_left (after b k.log) (k.states b base).state (step (after b k.log) (given key words views id v k at b base));
        };
      },
      λ opened. record {
        between = mine.rest;
        seen = seen ∙ mine.seen;
        quiet = mine.quiet;
        lawful = record {
          legal = λ b base. subst (IsLegalHistory b) (sym seen) (k.states b (subst (λ o. IsBase o b) opened base)).follows;
          events = subst (Each IsPhaseEvent) (sym seen) k.numbers.events;
        };
        sure = λ b base.
            let is : IsBase key b = subst (λ o. IsBase o b) opened base in
            let g = given key words views id v k at b is in
            let left = step (after b k.log) g in
            let st = state_left (after b k.log) (k.states b is).state left in
            subst (λ l. AreTrueOf v.opening w.facts (after b l)) (sym seen) (subst (λ o. AreTrueOf o w.facts (after b k.log)) (sym opened)
            (record { sizes = st.sizes; sound = st.sound; phase = st.phase; start = st.start; knows = each_map _ _ w.facts (λ f x. x.0) (st.known id w at_set) }));
      },
    )

  module _ (e : Event) (by : e.by ≡ v.number) (own : HasNumber v v.number) (during : IsDuringPhase e.act) (seen : w.seen ≡ k.log ++ e ∷ [])
      (step : (s : Table) → Given key k.log k.shown words v s → Adds (sizes_in key) k.log e k.shown later now w more s) where
    state_added : (s : Table) → StateKept key k.log k.shown words views s → Adds (sizes_in key) k.log e k.shown later now w more s
        → StateKept key (k.log ++ e ∷ []) later now (set views id w) (next s e)
    state_added s st add = record {
      sizes = steady.sizes ∙ st.sizes;
      phase = phase_stays s.cycle (next s e).cycle steady.cycle ∙ st.phase;
      start = start_stays s.cycle (next s e).cycle steady.cycle ∙ st.start;
      sound = events-sound s e st.sound add.legal;
      shows = add.shows;
      covered = add.covered;
      owns = views_set (λ j u. Owns (next s e) u) views id w
          (λ j u ne there. owns_other s e (next s e) u steady (ap (λ (n : ℕ). count_in n u.numbers) by ∙ alone own j u ne there) (st.owns j u there)) add.owns;
      known = views_set (λ j u. Each (IsKnown (sizes_in key) (k.log ++ e ∷ []) (next s e) later now) u.facts) views id w
          (λ j u ne there. each_map _ _ u.facts stay (st.known j u there))
          (known_all k.log (k.log ++ e ∷ []) s (next s e) stay (st.known id v at) add.tells);
    }
      where
        steady : IsSteady s e (next s e)
        steady = events-steady s e st.sound add.legal during

        stay : (f : Fact) → IsKnown (sizes_in key) k.log s k.shown words f → IsKnown (sizes_in key) (k.log ++ e ∷ []) (next s e) later now f
        stay = fact_stays (sizes_in key) k.log (k.log ++ e ∷ []) s e (next s e) k.shown later words now steady add.steady ahead
            (held_within s (sizes_in key) st.sizes st.sound)

    stands_other : (j : ℕ) (u : View) → j ≢ id → get_elem? views j ≡ some u → Stands (k.log ++ e ∷ []) u
    stands_other j u ne there = let st = k.numbers.stands j u there in record {
      rest = st.rest ++ e ∷ [];
      seen = ap (λ l. l ++ e ∷ []) st.seen ∙ append_assoc u.seen st.rest (e ∷ []);
      quiet = each_append _ st.rest (e ∷ []) st.quiet (ap (λ (n : ℕ). count_in n u.numbers) by ∙ alone own j u ne there, tt);
    }

    events_after : Each IsPhaseEvent (k.log ++ e ∷ [])
    events_after = each_append IsPhaseEvent k.log (e ∷ []) k.numbers.events ((subst (λ n. n ≤ 12) (sym by) (low own), during), tt)

    pub adds : Kept key now (set views id w) × (v.opening ≡ key → Extends v e w)
    adds = (
      record {
        log = k.log ++ e ∷ [];
        shown = later;
        base = k.base;
        is_base = k.is_base;
        few = k.few;
        near = near;
        numbers = record {
          one = λ n le. number_total n ∙ k.numbers.one n le;
          none = λ n lt. number_total n ∙ k.numbers.none n lt;
          events = events_after;
          stands = views_set (λ j u. Stands (k.log ++ e ∷ []) u) views id w stands_other
              (record {
                rest = [];
                seen = sym seen ∙ sym (append-nil w.seen);
                quiet = tt;
              });
        };
        hands = hands_set (sizes_in key) k.shown later views id v w at k.hands hands;
        cuts = cuts_set views id v w at k.cuts numbers cut (inl own);
        states = λ b base.
            let add = step (after b k.log) (given key words views id v k at b base) in record {
              follows = legal_snoc b k.log e (k.states b base).follows add.legal;
              state = subst (StateKept key (k.log ++ e ∷ []) later now (set views id w)) (sym (after_snoc b k.log e))
                  (state_added (after b k.log) (k.states b base).state add);
            };
      },
      λ opened. record {
        between = mine.rest;
        seen = seen ∙ ap (λ l. l ++ e ∷ []) mine.seen;
        quiet = mine.quiet;
        lawful = record {
          legal = λ b base.
              let is : IsBase key b = subst (λ o. IsBase o b) opened base in
              subst (IsLegalHistory b) (sym seen) (legal_snoc b k.log e (k.states b is).follows (step (after b k.log) (given key words views id v k at b is)).legal);
          events = subst (Each IsPhaseEvent) (sym seen) events_after;
        };
        before = λ b base.
            let is : IsBase key b = subst (λ o. IsBase o b) opened base in
            let g = given key words views id v k at b is in
            subst (λ l. AreTrueOf v.opening v.facts (after b l)) mine.seen (subst (λ o. AreTrueOf o v.facts (after b k.log)) (sym opened)
            (record { sizes = g.sizes; sound = g.sound; phase = g.phase; start = g.start; knows = each_map _ _ v.facts (λ f x. x.0) g.known }));
        sure = λ b base.
            let is : IsBase key b = subst (λ o. IsBase o b) opened base in
            let st = state_added (after b k.log) (k.states b is).state (step (after b k.log) (given key words views id v k at b is)) in
            subst (λ l. AreTrueOf v.opening w.facts (after b l)) (sym seen) (subst (AreTrueOf v.opening w.facts) (sym (after_snoc b k.log e)) (subst (λ o. AreTrueOf o w.facts (next (after b k.log) e)) (sym opened)
            (record { sizes = st.sizes; sound = st.sound; phase = st.phase; start = st.start; knows = each_map _ _ w.facts (λ f x. x.0) (st.known id w at_set) })));
      },
    )

pub allows : (key : Opening) (slots id : ℕ) (me : Me (Unit {0}) View) (i : ℕ) (f : ℕ → ℕ) (tells : ℕ → Me (Unit {0}) View → Type 0)
    → ((words : List ℕ) (views : List View) → Kept key words views → get_elem? views id ≡ some me.0 → (w : View) × Kept key (set words i (f (get_or words i 0))) (set views id w) × tells (get_or words i 0) (w, me.1))
    → Allows {S = Unit {0}} {V = View} (Ruled key) slots id me i f tells
allows key slots id me i f tells step s k homes at fits = let r = step s.words s.views k at in (r.0, keeps, tt, r.1, r.2)

-- a load changes no word
pub loads : (key : Opening) (words : List ℕ) (views : List View) (i : ℕ) → Kept key words views → Kept key (set words i (get_or words i 0)) views
loads key words views i k = subst (λ ws. Kept key ws views) (sym (set-get_or words i 0)) k

-- a step of a kind: it keeps the rule, and its seat learns R, of the word that is found and its view after
abbrev pub Keeps : Opening → ℕ → ℕ → Me (Unit {0}) View → ℕ → (ℕ → ℕ) → (ℕ → View → Type 0) → Type 0
Keeps key slots id me i f R = Allows {S = Unit {0}} {V = View} (Ruled key) slots id me i f (λ n m. R n m.0 × (m.1 ≡ me.1))

pub keeps_by : (key : Opening) (slots id : ℕ) (me : Me (Unit {0}) View) (i : ℕ) (f : ℕ → ℕ) (R : ℕ → View → Type 0)
    → ((words : List ℕ) (views : List View) → Kept key words views → get_elem? views id ≡ some me.0 → (w : View) × Kept key (set words i (f (get_or words i 0))) (set views id w) × R (get_or words i 0) w)
    → Keeps key slots id me i f R
keeps_by key slots id me i f R step = allows key slots id me i f (λ n m. R n m.0 × (m.1 ≡ me.1)) (λ words views k at. let r = step words views k at in (r.0, r.1, (r.2, refl)))

-- where a step of a kind is made at any term for its place, writes any term for its word, and tells what follows
pub learned_at : (key : Opening) (slots id : ℕ) (me : Me (Unit {0}) View) (i j : ℕ) (f h : ℕ → ℕ) (P Q : ℕ → View → Type 0) → j ≡ i → ((n : ℕ) → h n ≡ f n) → ((n : ℕ) (w : View) → P n w → Q n w)
    → Keeps key slots id me i f P → Keeps key slots id me j h Q
learned_at key slots id me i j f h P Q place word follows step =
    subst (λ x. Allows {S = Unit {0}} {V = View} (Ruled key) slots id me x h (λ n m. Q n m.0 × (m.1 ≡ me.1))) (sym place)
    (subst (λ (g : ℕ → ℕ). Allows {S = Unit {0}} {V = View} (Ruled key) slots id me i g (λ n m. Q n m.0 × (m.1 ≡ me.1))) (λ x n. sym (word n) x)
    (λ s k homes at fits. let r = step s k homes at fits in (r.0, r.1, r.2, r.3, (follows _ _ r.4.0, r.4.1))))
