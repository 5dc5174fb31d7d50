-- A live holder stays one: its field stays bound until it is forged, and its cell can be seen after each event, since an
-- event concurrent with others leaves it where it stands and a finish keeps it.
use Rattle.std.proofs.Common.{◌≡◌, ℕ, true, Option, Some, None, IsTrue, IsSomeAnd, refl, sym, ◌∙◌, ap, subst, inl, inr, option_map, eqb-true}
use Rattle.std.specs.Prelude.{◌⊎◌, nat_lt, ◌==◌}
use Rattle.std.proofs.lemmas.Option.{same_Some}
use Rattle.plain_table.specs.declared.scripts.Policy.{Policy}
use Rattle.plain_table.specs.declared.events.Act.{Act}
use Rattle.plain_table.specs.declared.events.Act.TheVariants.{New, Link, Take, Below, Bind, Forge, Publish, Start, Finish}
use Rattle.plain_table.specs.declared.events.Cell.{Cell}
use Rattle.plain_table.specs.declared.events.Space.{Space}
use Rattle.plain_table.specs.declared.events.Space.TheVariants.{External, Trusted}
use Rattle.plain_table.specs.declared.events.Field.{Field}
use Rattle.plain_table.specs.declared.events.Field.TheVariants as field
use Rattle.plain_table.specs.declared.events.Spot.TheVariants.{Global, Ref}
use Rattle.plain_table.specs.declared.reports.Reply.{Reply}
use Rattle.plain_table.specs.Index.{index_of}
use Rattle.plain_table.specs.Places.{space_of, object_of}
use Rattle.plain_table.specs.Cycle.{Cycle}
use Rattle.plain_table.specs.Table.{Table, least_free}
use Rattle.plain_table.specs.Finish.{IsReachable, id_at, finished}
use Rattle.plain_table.specs.Holders.{CanBeSeen, IsLiveHolder}
use Rattle.plain_table.specs.Rows.{row, free_below, finished_in, with_object, with_bound, with_unbound}
use Rattle.plain_table.specs.History.{IsLegal}
use Rattle.plain_table.specs.Sound.{IsSound}
use Rattle.table_laws.specs.Steady.{IsDuringPhase}
use Rattle.table_laws.specs.Laws.{HoldersStayLive}
use Rattle.plain_table.proofs.Options.{IsSomeAnd-by, IsSomeAnd-is, IsSomeAnd-some, IsSome-value, option_map-some}
use Rattle.plain_table.proofs.PlaceReads.{read_field, put_entry-same}
use Rattle.plain_table.proofs.Branches.{if_either, if_by, with_taken_either, finished_in_either}
use Rattle.table_laws.proofs.RestStays.{words-bound}
use Rattle.table_laws.proofs.CellsStay.{CellsSteady-row}
use Rattle.table_laws.proofs.FinishMoves.{swept-from}
use Rattle.table_laws.proofs.Soundness.{IsSound-row}

-- the field is forged by the act
abbrev IsForged : Act → Field → Type 0
IsForged a f = (number : ℕ) × (w : ℕ) × (f ≡ field.External number) × (a ≡ Forge number w)

module _ (s : Table) (f : Field) (id : ℕ) (h : IsSound s) (reach : IsReachable s (object_of f)) (bound : s.bound f ≡ Some id) where
  -- a bind changes another field, since one that is bound holds a word
  bound-bind : (b : ℕ) (g : Field) (w : ℕ) → s.words g ≡ 0 → (with_bound s b g w).bound f ≡ Some id
  bound-bind b g w free = elim (read_field (id_at s (space_of g) (index_of w)) s.bound g f) [
    | inl r ↦ absurd (words-bound s f id h reach bound (subst (λ (x : Field). s.words x ≡ 0) r.0 free))
    | inr r ↦ r.1 ∙ bound
  ]

  bound-row : (b : ℕ) (a : Act) → ((row s b a).next.bound f ≡ Some id) ⊎ IsForged a f
  bound-row b (New var) =
      inl (if_either (λ t. t.bound f ≡ Some id) (nat_lt s.count s.sizes.objects) (with_object s b var) s bound bound)
  bound-row b (Link (Global g) var) = inl bound
  bound-row b (Link (Ref object k) var) = inl bound
  bound-row b (Take p) = inl (with_taken_either (λ t. t.bound f ≡ Some id) s b p (least_free s p) bound (λ i. bound))
  bound-row b (Below start) =
      inl (with_taken_either (λ t. t.bound f ≡ Some id) s b External (free_below s start) bound (λ i. bound))
  bound-row b (Bind g w) =
      inl (if_by (λ t. t.bound f ≡ Some id) (s.words g == 0) (with_bound s b g w) (with_unbound s b g w)
      (λ free. bound-bind b g w (eqb-true (s.words g) 0 free)) (λ taken. bound))
  bound-row b (Forge number w) = elim (read_field None s.bound (field.External number) f) [
    | inl r ↦ inr (number, w, sym r.0, refl)
    | inr r ↦ inl (r.1 ∙ bound)
  ]
  bound-row b Finish = inl (finished_in_either (λ t. t.bound f ≡ Some id) s s.cycle bound (λ c. bound))
  bound-row b _ = inl bound

-- a cell that can be seen is seen after an event concurrent with others
seen-during : (s : Table) (b : ℕ) (a : Act) (said : Reply) (p : Space) (i : ℕ) (c : Cell) → IsSound s →
    IsLegal s (record { by = b; act = a; said = said }) → IsDuringPhase a → s.cells p i ≡ Some c → IsTrue c.shown →
    IsSomeAnd ((row s b a).next.cells p i) (λ d. (d.id ≡ c.id) × IsTrue d.shown)
seen-during s b a said p i c h legal during at shown =
    let steady = CellsSteady-row s b a said h legal during in
    let stays = steady.stay p i c at in
    let found = IsSome-value ((row s b a).next.cells p i) (IsSomeAnd-some ((row s b a).next.cells p i) (λ d. (d.id ≡ c.id) × (d.tag ≡ c.tag)) stays) in
    let same = IsSomeAnd-is ((row s b a).next.cells p i) (λ d. (d.id ≡ c.id) × (d.tag ≡ c.tag)) found.0 found.1 stays in
    IsSomeAnd-by ((row s b a).next.cells p i) found.0 (λ d. (d.id ≡ c.id) × IsTrue d.shown) found.1 (
      same.0,
      elim (steady.shown p i c at) [
        | inl kept ↦ IsSomeAnd-is ((row s b a).next.cells p i) (λ d. d.shown ≡ c.shown) found.0 found.1 kept ∙ shown
        | inr published ↦ by_publish a found.0 (subst (λ (q : Space). (row s b a).next.cells q i ≡ Some found.0) published.0 found.1)
            (subst (λ (q : Space). s.cells q i ≡ Some c) published.0 at) published.1
      ],
    )
  where
    by_publish : (a : Act) (d : Cell) → (row s b a).next.cells Trusted i ≡ Some d → s.cells Trusted i ≡ Some c → a ≡ Publish i → IsTrue d.shown
    by_publish a d found there is =
        let now : (row s b (Publish i)).next.cells Trusted i ≡ Some d = subst (λ (x : Act). (row s b x).next.cells Trusted i ≡ Some d) is found in
        let made = sym (put_entry-same s.cells Trusted i (option_map (λ (c : Cell). record c { shown = true }) (s.cells Trusted i))) ∙ now in
        let cell = option_map-some (λ (c : Cell). record c { shown = true }) (s.cells Trusted i) d made in
        sym (ap (λ (x : Cell). x.shown) cell.2)

-- a finish keeps the cell of a bound field of a reachable object, and with it whether it can be seen
seen-finish : (s : Table) (c : Cycle) (f : Field) (id : ℕ) → IsSound s → IsSound (finished s c) → IsReachable s (object_of f) →
    s.bound f ≡ Some id → CanBeSeen s id → CanBeSeen (finished s c) id
seen-finish s c f id h past reach bound live =
    let p = live.0 in
    let i = live.1 in
    let seen = live.2 in
    let e = index_of ((finished s c).words f) in
    let own : id_at (finished s c) (space_of f) e ≡ Some id = past.fields.own f id reach bound in
    let cell = option_map-some (λ (x : Cell). x.id) ((finished s c).cells (space_of f) e) id own in
    let came = swept-from s c (space_of f) e cell.0 cell.1 in
    let old = IsSome-value (s.cells p i) (IsSomeAnd-some (s.cells p i) (λ x. (x.id ≡ id) × IsTrue x.shown) seen) in
    let is = IsSomeAnd-is (s.cells p i) (λ x. (x.id ≡ id) × IsTrue x.shown) old.0 old.1 seen in
    let here : id_at s p i ≡ Some id = ap (option_map (λ (x : Cell). x.id)) old.1 ∙ ap Some is.0 in
    let there : id_at s (space_of f) came.index ≡ Some id = ap (option_map (λ (x : Cell). x.id)) came.cell_is ∙ ap Some cell.2 in
    let one = h.ids.differ (space_of f) p came.index i id there here in
    let same : cell.0 ≡ old.0 =
    same_Some cell.0 old.0
    (sym came.cell_is ∙ ap (λ (q : Space). s.cells q came.index) one.0 ∙ ap (s.cells p) one.1 ∙ old.1) in (
      space_of f,
      e,
      IsSomeAnd-by ((finished s c).cells (space_of f) e) cell.0 (λ x. (x.id ≡ id) × IsTrue x.shown) cell.1
          (cell.2, ap (λ (x : Cell). x.shown) same ∙ is.1),
    )

-- the same of the row of the finish
finished_in-seen : (s : Table) (cycle : Option Cycle) (f : Field) (id : ℕ) → IsSound s → IsSound (finished_in s cycle) →
    IsReachable s (object_of f) → s.bound f ≡ Some id → CanBeSeen s id → CanBeSeen (finished_in s cycle) id
finished_in-seen s None f id h past reach bound live = live
finished_in-seen s (Some c) f id h past reach bound live = seen-finish s c f id h past reach bound live

-- an act is concurrent with others, or the start or the finish of a cycle
data Kind (a : Act) : Type 0 where
  During : IsDuringPhase a → Kind a
  Starts : (policy : Policy) → a ≡ Start policy → Kind a
  Ends : a ≡ Finish → Kind a

kind_of : (a : Act) → Kind a
kind_of (Start policy) = Starts policy refl
kind_of Finish = Ends refl
kind_of _ = During tt

-- the cell of a live holder can be seen after an event
seen-row : (s : Table) (b : ℕ) (a : Act) (said : Reply) (f : Field) (id : ℕ) → IsSound s → IsLegal s (record { by = b; act = a; said = said }) →
    IsLiveHolder s f id → CanBeSeen (row s b a).next id
seen-row s b a said f id h legal live = elim (kind_of a) [
  | During during ↦
      let p = live.2.0 in
      let i = live.2.1 in
      let old = IsSome-value (s.cells p i) (IsSomeAnd-some (s.cells p i) (λ x. (x.id ≡ id) × IsTrue x.shown) live.2.2) in
      let is = IsSomeAnd-is (s.cells p i) (λ x. (x.id ≡ id) × IsTrue x.shown) old.0 old.1 live.2.2 in (
        p,
        i,
        subst (λ (n : ℕ). IsSomeAnd ((row s b a).next.cells p i) (λ d. (d.id ≡ n) × IsTrue d.shown)) is.0
            (seen-during s b a said p i old.0 h legal during old.1 is.1),
      )
  | Starts policy is ↦ subst (λ (x : Act). CanBeSeen (row s b x).next id) (sym is) live.2
  | Ends is ↦
      let allowed : (row s b Finish).allowed = subst (λ (x : Act). (row s b x).allowed) is legal.0 in
      subst (λ (x : Act). CanBeSeen (row s b x).next id) (sym is)
      (finished_in-seen s s.cycle f id h (IsSound-row s b Finish h allowed) live.1 live.0 live.2)
]

pub holders-live : HoldersStayLive
holders-live s e f id h legal live reach = elim (bound-row s f id h live.1 live.0 e.by e.act) [
  | inl bound ↦ inl (bound, reach, seen-row s e.by e.act e.said f id h legal live)
  | inr forged ↦ inr forged
]
