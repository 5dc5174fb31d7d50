-- Steadiness of the cells: after an event other than the cycle's start and finish each cell stands where it stood, with
-- its id and tag; only a put makes one, only a publish shows one, and one that changes in a cycle is marked.
use Rattle.std.proofs.Common.{◌≡◌, ℕ, true, Option, Some, None, IsTrue, IsSome, IsSomeAnd, refl, sym, ap, ◌∙◌, subst, subst₂, ap₂, ◌==◌, inl, inr, option_map, IfSome}
use Rattle.std.specs.Prelude.{◌⊎◌, nat_lt}
use Rattle.plain_table.specs.declared.events.Act.{Act}
use Rattle.plain_table.specs.declared.events.Act.TheVariants.{New, Link, Take, Below, Put, Bind, Set, Swap, Publish, Start, Finish}
use Rattle.plain_table.specs.declared.events.Cell.{Cell}
use Rattle.plain_table.specs.declared.events.Event.{Event}
use Rattle.plain_table.specs.declared.events.Space.{Space}
use Rattle.plain_table.specs.declared.events.Space.TheVariants.{External, Trusted}
use Rattle.plain_table.specs.declared.events.Spot.TheVariants.{Global, Ref}
use Rattle.plain_table.specs.declared.reports.Reply.{Reply}
use Rattle.plain_table.specs.Index.{index_of}
use Rattle.plain_table.specs.Places.{same_space, put_entry}
use Rattle.plain_table.specs.Cycle.{Cycle, marked_in}
use Rattle.plain_table.specs.Table.{Table, least_free}
use Rattle.plain_table.specs.Rows.{InCycle, row, free_below, with_object, with_cell, with_bound, with_unbound}
use Rattle.plain_table.specs.History.{IsLegal}
use Rattle.plain_table.specs.Sound.{IsSound}
use Rattle.table_laws.specs.Steady.{IsDuringPhase, CellsSteady}
use Rattle.plain_table.proofs.PlaceReads.{read_entry, put_entry-same}
use Rattle.plain_table.proofs.Options.{IsSome-none, IsSomeAnd-by, option_map-none}
use Rattle.plain_table.proofs.Branches.{if_either, with_taken_either}

-- an id that stood at a place stands there after an event that keeps its cell
pub id-stays : (o now : Option Cell) (n : ℕ) → ((c : Cell) → o ≡ Some c → IsSomeAnd now (λ d. (d.id ≡ c.id) × (d.tag ≡ c.tag))) →
    option_map (λ (cell : Cell). cell.id) o ≡ Some n → option_map (λ (cell : Cell). cell.id) now ≡ Some n
id-stays None now n stay e = absurd (cc)
id-stays (Some c) None n stay e = absurd (stay c refl)
id-stays (Some c) (Some d) n stay e = ap Some ((stay c refl).0) ∙ e

-- a marked place of a cycle
pub marked_in-marks : (o : Option Cycle) (p : Space) (i : ℕ) → (marked_in o p i ≡ None) ⊎ IsSomeAnd (marked_in o p i) (λ d. IsTrue (d.marks p i))
marked_in-marks None p i = inl refl
marked_in-marks (Some c) p i = inr (put_entry-same c.marks p i true)

pub marked_in-here : (o : Option Cycle) (p : Space) (i : ℕ) → IfSome (marked_in o p i) (λ d. IsTrue (d.marks p i))
marked_in-here None p i = tt
marked_in-here (Some c) p i = put_entry-same c.marks p i true

-- the cells are left alone
pub CellsSteady-same : (s : Table) (e : Event) (t : Table) → t.cells ≡ s.cells → CellsSteady s e t
CellsSteady-same s e t same = record {
  stay = λ p i c at. IsSomeAnd-by (t.cells p i) c (λ d. (d.id ≡ c.id) × (d.tag ≡ c.tag)) (ap (λ f. f p i) same ∙ at) (refl, refl);
  values = λ i c at. IsSomeAnd-by (t.cells Trusted i) c (λ d. d.value ≡ c.value) (ap (λ f. f Trusted i) same ∙ at) refl;
  made = λ p i none found. absurd (IsSome-none (t.cells p i) (ap (λ f. f p i) same ∙ none) found);
  made_marked = λ p i none found. absurd (IsSome-none (t.cells p i) (ap (λ f. f p i) same ∙ none) found);
  shown = λ p i c at. inl (IsSomeAnd-by (t.cells p i) c (λ d. d.shown ≡ c.shown) (ap (λ f. f p i) same ∙ at) refl);
  marked = λ p i c at. inl (ap (λ f. f p i) same ∙ at);
}

-- the cell at one place is changed, with its id and tag, and its place is marked in a cycle
pub record IsChange (change : Cell → Cell) : Type 0 where
  pub ids : (c : Cell) → (change c).id ≡ c.id
  pub tags : (c : Cell) → (change c).tag ≡ c.tag

pub CellsSteady-change : (s : Table) (e : Event) (t : Table) (p : Space) (i : ℕ) (change : Cell → Cell) → IsChange change →
    ((c : Cell) → (p ≡ Trusted) → (change c).value ≡ c.value) →
    ((c : Cell) → ((change c).shown ≡ c.shown) ⊎ ((p ≡ Trusted) × (e.act ≡ Publish i))) →
    t.cells ≡ put_entry s.cells p i (option_map change (s.cells p i)) → t.cycle ≡ marked_in s.cycle p i → CellsSteady s e t
CellsSteady-change s e t p i change h values shown cells cycle = record {
  stay = λ q j c at. elim (read q j c at) [
    | inl r ↦ IsSomeAnd-by (t.cells q j) (change c) (λ d. (d.id ≡ c.id) × (d.tag ≡ c.tag)) r.2 (h.ids c, h.tags c)
    | inr r ↦ IsSomeAnd-by (t.cells q j) c (λ d. (d.id ≡ c.id) × (d.tag ≡ c.tag)) r (refl, refl)
  ];
  values = λ j c at. elim (read Trusted j c at) [
    | inl r ↦ IsSomeAnd-by (t.cells Trusted j) (change c) (λ d. d.value ≡ c.value) r.2 (values c r.0)
    | inr r ↦ IsSomeAnd-by (t.cells Trusted j) c (λ d. d.value ≡ c.value) r refl
  ];
  made = λ q j none found. absurd (IsSome-none (t.cells q j) (stays_empty q j none) found);
  made_marked = λ q j none found. absurd (IsSome-none (t.cells q j) (stays_empty q j none) found);
  shown = λ q j c at. elim (read q j c at) [
    | inl r ↦ elim (shown c) [
      | inl k ↦ inl (IsSomeAnd-by (t.cells q j) (change c) (λ d. d.shown ≡ c.shown) r.2 k)
      | inr k ↦ inr (sym r.0 ∙ k.0, k.1 ∙ ap Publish r.1)
    ]
    | inr r ↦ inl (IsSomeAnd-by (t.cells q j) c (λ d. d.shown ≡ c.shown) r refl)
  ];
  marked = λ q j c at. elim (read q j c at) [
    | inl r ↦ inr (marks q j r.0 r.1)
    | inr r ↦ inl r
  ];
}
  where
    at_place : (q : Space) (j : ℕ) → ((p ≡ q) × (i ≡ j) × (t.cells q j ≡ option_map change (s.cells q j))) ⊎ (t.cells q j ≡ s.cells q j)
    at_place q j = elim (read_entry (option_map change (s.cells p i)) s.cells p i q j) [
      | inl r ↦ inl (r.0.0, r.0.1, ap (λ f. f q j) cells ∙ r.1 ∙ ap (λ (x : Space × ℕ). option_map change (s.cells x.0 x.1)) (ap₂ (λ (x : Space) (y : ℕ). (x, y)) r.0.0 r.0.1))
      | inr r ↦ inr (ap (λ f. f q j) cells ∙ r.1)
    ]

    read : (q : Space) (j : ℕ) (c : Cell) → s.cells q j ≡ Some c → ((p ≡ q) × (i ≡ j) × (t.cells q j ≡ Some (change c))) ⊎ (t.cells q j ≡ Some c)
    read q j c at = elim (at_place q j) [
      | inl r ↦ inl (r.0, r.1, r.2 ∙ ap (option_map change) at)
      | inr r ↦ inr (r ∙ at)
    ]

    stays_empty : (q : Space) (j : ℕ) → s.cells q j ≡ None → t.cells q j ≡ None
    stays_empty q j none = elim (at_place q j) [
      | inl r ↦ r.2 ∙ ap (option_map change) none
      | inr r ↦ r ∙ none
    ]

    marks : (q : Space) (j : ℕ) → p ≡ q → i ≡ j → (t.cycle ≡ None) ⊎ InCycle t (λ d. IsTrue (d.marks q j))
    marks q j same at = elim (marked_in-marks s.cycle p i) [
      | inl none ↦ inl (cycle ∙ none)
      | inr some ↦ inr (subst (λ (o : Option Cycle). IsSomeAnd o (λ d. IsTrue (d.marks q j))) (sym cycle)
          (subst₂ (λ (x : Space) (y : ℕ). IsSomeAnd (marked_in s.cycle p i) (λ d. IsTrue (d.marks x y))) same at some))
    ]

-- a put fills an empty place
pub CellsSteady-put : (s : Table) (b : ℕ) (said : Reply) (p : Space) (i tag value : ℕ) → s.cells p i ≡ None →
    CellsSteady s (record { by = b; act = Put p i tag value; said = said }) (with_cell s b p i tag value)
CellsSteady-put s b said p i tag value empty = record {
  stay = λ q j c at. IsSomeAnd-by ((with_cell s b p i tag value).cells q j) c (λ d. (d.id ≡ c.id) × (d.tag ≡ c.tag)) (keeps q j c at) (refl, refl);
  values = λ j c at. IsSomeAnd-by ((with_cell s b p i tag value).cells Trusted j) c (λ d. d.value ≡ c.value) (keeps Trusted j c at) refl;
  made = λ q j none found. (tag, value, is_put q j none found);
  made_marked = λ q j none found. elim (read_entry (Some (record { id = s.next; tag = tag; value = value; shown = same_space p External })) s.cells p i q j) [
    | inl r ↦ subst₂ (λ (x : Space) (y : ℕ). IfSome (marked_in s.cycle p i) (λ d. IsTrue (d.marks x y))) r.0.0 r.0.1 (marked_in-here s.cycle p i)
    | inr r ↦ absurd (IsSome-none ((with_cell s b p i tag value).cells q j) (r.1 ∙ none) found)
  ];
  shown = λ q j c at. inl (IsSomeAnd-by ((with_cell s b p i tag value).cells q j) c (λ d. d.shown ≡ c.shown) (keeps q j c at) refl);
  marked = λ q j c at. inl (keeps q j c at);
}
  where
    keeps : (q : Space) (j : ℕ) (c : Cell) → s.cells q j ≡ Some c → (with_cell s b p i tag value).cells q j ≡ Some c
    keeps q j c at = elim (read_entry (Some (record { id = s.next; tag = tag; value = value; shown = same_space p External })) s.cells p i q j) [
      | inl r ↦ absurd (let clash : s.cells q j ≡ None = subst₂ (λ (x : Space) (y : ℕ). s.cells x y ≡ None) r.0.0 r.0.1 empty in cc)
      | inr r ↦ r.1 ∙ at
    ]

    is_put : (q : Space) (j : ℕ) → s.cells q j ≡ None → IsSome ((with_cell s b p i tag value).cells q j) → Put p i tag value ≡ Put q j tag value
    is_put q j none found = elim (read_entry (Some (record { id = s.next; tag = tag; value = value; shown = same_space p External })) s.cells p i q j) [
      | inl r ↦ ap₂ (λ (x : Space) (y : ℕ). Put x y tag value) r.0.0 r.0.1
      | inr r ↦ absurd (IsSome-none ((with_cell s b p i tag value).cells q j) (r.1 ∙ none) found)
    ]

pub CellsSteady-row : (s : Table) (b : ℕ) (a : Act) (said : Reply) → IsSound s → IsLegal s (record { by = b; act = a; said = said }) → IsDuringPhase a →
    CellsSteady s (record { by = b; act = a; said = said }) (row s b a).next
CellsSteady-row s b (New var) said h k during =
    if_either (CellsSteady s (record { by = b; act = New var; said = said })) (nat_lt s.count s.sizes.objects) (with_object s b var) s
    (CellsSteady-same _ _ _ refl) (CellsSteady-same _ _ _ refl)
CellsSteady-row s b (Link (Global g) var) said h k during = CellsSteady-same _ _ _ refl
CellsSteady-row s b (Link (Ref object n) var) said h k during = CellsSteady-same _ _ _ refl
CellsSteady-row s b (Take p) said h k during =
    with_taken_either (CellsSteady s (record { by = b; act = Take p; said = said })) s b p (least_free s p)
    (CellsSteady-same _ _ _ refl) (λ i. CellsSteady-same _ _ _ refl)
CellsSteady-row s b (Below start) said h k during =
    with_taken_either (CellsSteady s (record { by = b; act = Below start; said = said })) s b External (free_below s start)
    (CellsSteady-same _ _ _ refl) (λ i. CellsSteady-same _ _ _ refl)
CellsSteady-row s b (Put p i tag value) said h k during =
    CellsSteady-put s b said p i tag value (option_map-none (λ (cell : Cell). cell.id) (s.cells p i) ((h.used.claims b p i k.0.0).2))
CellsSteady-row s b (Bind f w) said h k during =
    if_either (CellsSteady s (record { by = b; act = Bind f w; said = said })) (s.words f == 0) (with_bound s b f w) (with_unbound s b f w)
    (CellsSteady-same _ _ _ refl) (CellsSteady-same _ _ _ refl)
CellsSteady-row s b (Set w first last value) said h k during =
    CellsSteady-change _ _ _ External (index_of w) (λ (c : Cell). record c { value = value }) (record { ids = λ c. refl; tags = λ c. refl })
    (λ c wrong. absurd (cc)) (λ c. inl refl) refl refl
CellsSteady-row s b (Swap w first last value) said h k during =
    CellsSteady-change _ _ _ External (index_of w) (λ (c : Cell). record c { value = value }) (record { ids = λ c. refl; tags = λ c. refl })
    (λ c wrong. absurd (cc)) (λ c. inl refl) refl refl
CellsSteady-row s b (Publish i) said h k during =
    CellsSteady-change _ _ _ Trusted i (λ (c : Cell). record c { shown = true }) (record { ids = λ c. refl; tags = λ c. refl })
    (λ c is. refl) (λ c. inr (refl, refl)) refl refl
CellsSteady-row s b (Start policy) said h k during = absurd during
CellsSteady-row s b Finish said h k during = absurd during
CellsSteady-row s b _ said h k during = CellsSteady-same _ _ _ refl
