-- Steadiness of safe fields: in a cycle a field that was safe and is still bound is safe, and one that a bind has just
-- bound is safe, since a fresh cell is marked and does not move, and a shared one is marked.
use Rattle.std.proofs.Common.{◌≡◌, ℕ, Bool, true, false, Option, Some, None, IsTrue, refl, sym, ◌∙◌, subst, subst₂, inl, inr}
use Rattle.std.specs.Prelude.{◌⊎◌, ◌==◌, nat_lt, if◌then◌else◌}
use Rattle.plain_table.specs.declared.events.Act.{Act}
use Rattle.plain_table.specs.declared.events.Act.TheVariants.{New, Link, Take, Below, Bind, Forge, Start, Finish}
use Rattle.plain_table.specs.declared.events.Event.{Event}
use Rattle.plain_table.specs.declared.events.Space.{Space}
use Rattle.plain_table.specs.declared.events.Space.TheVariants.{External, Trusted}
use Rattle.plain_table.specs.declared.events.Field.{Field}
use Rattle.plain_table.specs.declared.events.Field.TheVariants as field
use Rattle.plain_table.specs.declared.events.Spot.TheVariants.{Global, Ref}
use Rattle.plain_table.specs.declared.reports.Reply.{Reply}
use Rattle.plain_table.specs.declared.reports.Reply.TheVariants as reply
use Rattle.plain_table.specs.Index.{index_of}
use Rattle.plain_table.specs.Places.{space_of, put_field}
use Rattle.plain_table.specs.Cycle.{Cycle, is_from, touched_in}
use Rattle.plain_table.specs.Table.{Table, least_free}
use Rattle.plain_table.specs.Finish.{id_at}
use Rattle.plain_table.specs.Rows.{row, IsPlaced, IsSafe, IsFreshBind, IsSharedBind, free_below, with_object, with_bound, with_unbound, with_forged}
use Rattle.plain_table.specs.History.{IsLegal}
use Rattle.plain_table.specs.Sound.{IsSound, MarksSound, CycleSound}
use Rattle.table_laws.specs.Steady.{IsDuringPhase, CellsSteady, CycleSteady, CyclesSteady, SafeSteady}
use Rattle.plain_table.proofs.PlaceReads.{read_field}
use Rattle.plain_table.proofs.Options.{IfSome-is}
use Rattle.plain_table.proofs.CycleParts.{CycleSound-is}
use Rattle.table_laws.proofs.PlacedFields.{IsPlaced-fresh, IsPlaced-shared}
use Rattle.plain_table.proofs.Branches.{if_either, if_by, with_taken_either}
use Rattle.table_laws.proofs.CellsStay.{id-stays, CellsSteady-same, CellsSteady-row}
use Rattle.table_laws.proofs.CyclesStay.{CycleSteady-word, CyclesSteady-same, CyclesSteady-changed, CyclesSteady-row}

-- an index outside the area stays outside it where the start stays and an abort stays
pub is_from-stays : (a b : Bool) (x y : Option ℕ) (i : ℕ) → (IsTrue a → IsTrue b) → y ≡ x →
    is_from (if a then None else x) i ≡ false → is_from (if b then None else y) i ≡ false
is_from-stays a true x y i kept e k = refl
is_from-stays false false x y i kept e k = subst (λ z. is_from z i ≡ false) (sym e) k
is_from-stays true false x y i kept e k = let wrong : false ≡ true = kept refl in absurd (cc)

pub IsPlaced-stays : (c d : Cycle) (f : Field) (i : ℕ) → CycleSteady c d → IsPlaced c f i → IsPlaced d f i
IsPlaced-stays c d (field.External number) i h k = elim k [
  | inl out ↦ inl (is_from-stays c.aborted d.aborted c.start d.start i h.aborted h.start out)
  | inr seen ↦ inr (h.visited number seen)
]
IsPlaced-stays c d (field.Trusted number) i h k = tt

-- a cell that a number filled, or that a field may share, is marked and will not move without the field
pub IsPlaced-bind : (s : Table) (b : ℕ) (f : Field) (w : ℕ) (c : Cycle) → MarksSound (id_at s) s.fresh c.marks c.start c.aborted →
    s.cycle ≡ Some c → IsFreshBind s b f w ⊎ IsSharedBind s f w →
    IsTrue (c.marks (space_of f) (index_of w)) × IsPlaced c f (index_of w)
IsPlaced-bind s b f w c marks is (inl fresh) =
    (marks.filled b (space_of f) (index_of w) fresh, IsPlaced-fresh c (id_at s) s.fresh marks b f (index_of w) fresh)
IsPlaced-bind s b f w c marks is (inr shared) = (
  subst (λ (p : Space). IsTrue (c.marks p (index_of w))) (sym shared.trusted)
      (IfSome-is s.cycle (λ x. IsTrue (x.marks Trusted (index_of w))) c is shared.marked),
  IsPlaced-shared c f (index_of w) shared.trusted,
)

pub CycleSteady-of : (x y : Option Cycle) (c d : Cycle) → CyclesSteady x y → x ≡ Some c → y ≡ Some d → CycleSteady c d
CycleSteady-of x y c d h p q = subst₂ CyclesSteady p q h

-- a field whose word stays is safe after an event that it was safe before
pub IsSafe-stays : (s : Table) (e : Event) (t : Table) (c d : Cycle) (f : Field) (id : ℕ) → CellsSteady s e t → CycleSteady c d →
    t.words f ≡ s.words f → IsSafe s c f id → IsSafe t d f id
IsSafe-stays s e t c d f id cells cycle same safe = (
  subst (λ w. id_at t (space_of f) (index_of w) ≡ Some id) (sym same)
      (id-stays (s.cells (space_of f) (index_of (s.words f))) (t.cells (space_of f) (index_of (s.words f))) id
      (cells.stay (space_of f) (index_of (s.words f))) safe.0),
  subst (λ w. IsTrue (d.marks (space_of f) (index_of w))) (sym same) (cycle.marks (space_of f) (index_of (s.words f)) safe.1),
  subst (λ w. IsPlaced d f (index_of w)) (sym same) (IsPlaced-stays c d f (index_of (s.words f)) cycle safe.2),
)

-- each field that is bound afterwards has its word of before
abbrev pub WordsStay : Table → Table → Type 0
WordsStay s t = (f : Field) (id : ℕ) → t.bound f ≡ Some id → t.words f ≡ s.words f

-- where each bound field keeps its word, and no bind has just bound one
pub SafeSteady-words : (s : Table) (e : Event) (t : Table) → CellsSteady s e t → CyclesSteady s.cycle t.cycle →
    WordsStay s t → ((f : Field) (w : ℕ) → e.act ≡ Bind f w → e.said ≡ reply.Ok → ⊥) → SafeSteady s e t
SafeSteady-words s e t cells cycles words none c d is will f id bound known = elim known [
  | inl safe ↦ IsSafe-stays s e t c d f id cells (CycleSteady-of s.cycle t.cycle c d cycles is will) (words f id bound) safe
  | inr just ↦ absurd (none f just.0 just.1 just.2)
]

pub SafeSteady-bind : (s : Table) (b : ℕ) (f : Field) (w : ℕ) (said : Reply) → IsSound s → IsFreshBind s b f w ⊎ IsSharedBind s f w →
    CellsSteady s (record { by = b; act = Bind f w; said = said }) (with_bound s b f w) →
    CyclesSteady s.cycle (touched_in s.cycle f w) →
    SafeSteady s (record { by = b; act = Bind f w; said = said }) (with_bound s b f w)
SafeSteady-bind s b f w said sound may cells cycles c d is will g id bound known =
    elim (read_field w s.words f g) [ inl r ↦ at_field r.0 r.1 | inr r ↦ elsewhere r.0 r.1 ]
  where
    steady : CycleSteady c d
    steady = CycleSteady-of s.cycle (touched_in s.cycle f w) c d cycles is will

    sure : CycleSound s c
    sure = CycleSound-is s c sound is

    own : f ≡ g → id_at s (space_of g) (index_of w) ≡ Some id
    own same = elim (read_field (id_at s (space_of f) (index_of w)) s.bound f g) [
      | inl r ↦ subst (λ h. id_at s (space_of h) (index_of w) ≡ Some id) same (sym r.1 ∙ bound)
      | inr r ↦ absurd (r.0 same)
    ]

    at_field : f ≡ g → put_field s.words f w g ≡ w → IsSafe (with_bound s b f w) d g id
    at_field same now =
        let placed : IsTrue (c.marks (space_of g) (index_of w)) × IsPlaced c g (index_of w) =
        subst (λ h. IsTrue (c.marks (space_of h) (index_of w)) × IsPlaced c h (index_of w)) same
        (IsPlaced-bind s b f w c sure.marks is may) in (
          subst (λ x. id_at s (space_of g) (index_of x) ≡ Some id) (sym now) (own same),
          subst (λ x. IsTrue (d.marks (space_of g) (index_of x))) (sym now) (steady.marks (space_of g) (index_of w) placed.0),
          subst (λ x. IsPlaced d g (index_of x)) (sym now) (IsPlaced-stays c d g (index_of w) steady placed.1),
        )

    elsewhere : (f ≡ g → ⊥) → put_field s.words f w g ≡ s.words g → IsSafe (with_bound s b f w) d g id
    elsewhere apart now = elim known [
      | inl safe ↦ IsSafe-stays s (record { by = b; act = Bind f w; said = said }) (with_bound s b f w) c d g id cells steady now safe
      | inr just ↦ absurd (apart (let same : Bind f w ≡ Bind g just.0 = just.1 in cc))
    ]

-- a forged field is not bound
pub WordsStay-forged : (s : Table) (number w : ℕ) → WordsStay s (with_forged s number w)
WordsStay-forged s number w f id bound = elim (read_field w s.words (field.External number) f) [
  | inl r ↦ elim (read_field None s.bound (field.External number) f) [
    | inl k ↦ absurd (let clash : put_field s.bound (field.External number) None f ≡ None = k.1 in cc)
    | inr k ↦ absurd (k.0 r.0)
  ]
  | inr r ↦ r.1
]

-- a bind that found a word in its field does not answer that it bound it
pub said-taken : (test : Bool) (word : ℕ) (said : Reply) → test ≡ false → said ≡ (if test then reply.Ok else reply.Taken word) →
    said ≡ reply.Ok → ⊥
said-taken true word said e h ok = absurd (cc)
said-taken false word said e h ok = absurd (cc)

-- an act that is no bind, after which bound fields have their words of before
pub SafeSteady-still : (s : Table) (b : ℕ) (a : Act) (said : Reply) → IsSound s → IsLegal s (record { by = b; act = a; said = said }) →
    IsDuringPhase a → WordsStay s (row s b a).next → ((f : Field) (w : ℕ) → a ≡ Bind f w → ⊥) →
    SafeSteady s (record { by = b; act = a; said = said }) (row s b a).next
SafeSteady-still s b a said h k during words none =
    SafeSteady-words s (record { by = b; act = a; said = said }) (row s b a).next (CellsSteady-row s b a said h k during)
    (CyclesSteady-row s b a said h k during) words (λ f w same ok. none f w same)

pub SafeSteady-row : (s : Table) (b : ℕ) (a : Act) (said : Reply) → IsSound s → IsLegal s (record { by = b; act = a; said = said }) → IsDuringPhase a →
    SafeSteady s (record { by = b; act = a; said = said }) (row s b a).next
SafeSteady-row s b (Bind f w) said h k during =
    if_by (SafeSteady s (record { by = b; act = Bind f w; said = said })) (s.words f == 0) (with_bound s b f w) (with_unbound s b f w)
    (λ free. SafeSteady-bind s b f w said h k.0.2 (CellsSteady-same _ _ _ refl) (CyclesSteady-changed s.cycle (CycleSteady-word f w)))
    (λ taken. SafeSteady-words s (record { by = b; act = Bind f w; said = said }) (with_unbound s b f w) (CellsSteady-same _ _ _ refl)
    (CyclesSteady-same s.cycle) (λ g id bound. refl) (λ g v same ok. said-taken (s.words f == 0) (s.words f) said taken k.1 ok))
SafeSteady-row s b (New var) said h k during = SafeSteady-still s b (New var) said h k during
    (if_either (WordsStay s) (nat_lt s.count s.sizes.objects) (with_object s b var) s (λ f id bound. refl) (λ f id bound. refl))
    (λ f w same. absurd (cc))
SafeSteady-row s b (Link (Global g) var) said h k during =
    SafeSteady-still s b (Link (Global g) var) said h k during (λ f id bound. refl) (λ f w same. absurd (cc))
SafeSteady-row s b (Link (Ref object n) var) said h k during =
    SafeSteady-still s b (Link (Ref object n) var) said h k during (λ f id bound. refl) (λ f w same. absurd (cc))
SafeSteady-row s b (Take p) said h k during = SafeSteady-still s b (Take p) said h k during
    (with_taken_either (WordsStay s) s b p (least_free s p) (λ f id bound. refl) (λ i f id bound. refl)) (λ f w same. absurd (cc))
SafeSteady-row s b (Below start) said h k during = SafeSteady-still s b (Below start) said h k during
    (with_taken_either (WordsStay s) s b External (free_below s start) (λ f id bound. refl) (λ i f id bound. refl))
    (λ f w same. absurd (cc))
SafeSteady-row s b (Forge number v) said h k during =
    SafeSteady-still s b (Forge number v) said h k during (WordsStay-forged s number v) (λ f w same. absurd (cc))
SafeSteady-row s b Finish said h k during = absurd during
SafeSteady-row s b (Start policy) said h k during = absurd during
-- all others leave words and bindings alone
SafeSteady-row s b a said h k during = SafeSteady-still s b a said h k during (λ f id bound. refl) (λ f w same. absurd (cc))
