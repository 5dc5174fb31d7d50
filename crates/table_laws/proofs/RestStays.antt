-- Steadiness of the rest: after an event other than the cycle's start and finish used indexes stay used, an index
-- becomes fresh only by a put into an empty one, a bound field keeps its id and word while it is bound, and the objects
-- and puts so far grow.
use Rattle.std.proofs.Common.{◌≡◌, ◌≢◌, ℕ, ◌≤◌, true, Option, Some, None, IsTrue, IsSome, refl, sym, ◌∙◌, subst, inl, inr, arith, eqb-true}
use Rattle.std.specs.Prelude.{◌⊎◌, nat_lt, ◌==◌}
use Rattle.plain_table.specs.declared.events.Act.{Act}
use Rattle.plain_table.specs.declared.events.Act.TheVariants.{New, Link, Take, Below, Put, Bind, Forge, Start, Finish}
use Rattle.plain_table.specs.declared.events.Cell.{Cell}
use Rattle.plain_table.specs.declared.events.Space.{Space}
use Rattle.plain_table.specs.declared.events.Space.TheVariants.{External}
use Rattle.plain_table.specs.declared.events.Field.{Field}
use Rattle.plain_table.specs.declared.events.Field.TheVariants as field
use Rattle.plain_table.specs.declared.events.Spot.TheVariants.{Global, Ref}
use Rattle.plain_table.specs.Index.{index_of}
use Rattle.plain_table.specs.Places.{space_of, object_of, put_field}
use Rattle.plain_table.specs.Reachable.Reaches.{By_variable}
use Rattle.plain_table.specs.Table.{Table, least_free}
use Rattle.plain_table.specs.Finish.{IsReachable, id_at}
use Rattle.plain_table.specs.Rows.{row, free_below, with_object, with_taken, with_cell, with_bound, with_unbound, with_forged}
use Rattle.plain_table.specs.Sound.{IsSound}
use Rattle.table_laws.specs.Steady.{IsDuringPhase}
use Rattle.plain_table.proofs.PlaceReads.{read_field, read_claim, put_entry-grows, put_field-other}
use Rattle.plain_table.proofs.Branches.{if_either, if_by, with_taken_either}
use Rattle.plain_table.proofs.Options.{IsSome-none, option_map-none}
use Rattle.table_laws.proofs.ClaimReads.{put_claim-was}

-- used indexes stay used
abbrev pub UsedSteady : Table → Table → Type 0
UsedSteady s t = (p : Space) (i : ℕ) → IsTrue (s.used p i) → IsTrue (t.used p i)

pub UsedSteady-taken : (s : Table) (b : ℕ) (p : Space) (found : Option ℕ) → UsedSteady s (with_taken s b p found)
UsedSteady-taken s b p None q j h = h
UsedSteady-taken s b p (Some i) q j h = put_entry-grows s.used p i q j h

pub UsedSteady-row : (s : Table) (b : ℕ) (a : Act) → IsDuringPhase a → UsedSteady s (row s b a).next
UsedSteady-row s b (New var) during =
    if_either (UsedSteady s) (nat_lt s.count s.sizes.objects) (with_object s b var) s (λ p i h. h) (λ p i h. h)
UsedSteady-row s b (Link (Global g) var) during = λ p i h. h
UsedSteady-row s b (Link (Ref object k) var) during = λ p i h. h
UsedSteady-row s b (Take p) during = UsedSteady-taken s b p (least_free s p)
UsedSteady-row s b (Below start) during = UsedSteady-taken s b External (free_below s start)
UsedSteady-row s b (Bind f w) during =
    if_either (UsedSteady s) (s.words f == 0) (with_bound s b f w) (with_unbound s b f w) (λ p i h. h) (λ p i h. h)
UsedSteady-row s b (Start policy) during = absurd during
UsedSteady-row s b Finish during = absurd during
UsedSteady-row s b _ during = λ p i h. h

-- only an index with no cell becomes fresh
abbrev pub FreshSteady : Table → Table → Type 0
FreshSteady s t = (b : ℕ) (p : Space) (i : ℕ) → IsTrue (t.fresh b p i) → IsTrue (s.fresh b p i) ⊎ (s.cells p i ≡ None)

pub FreshSteady-put : (s : Table) (b : ℕ) (p : Space) (i tag value : ℕ) → s.cells p i ≡ None → FreshSteady s (with_cell s b p i tag value)
FreshSteady-put s b p i tag value empty c q j h = elim (read_claim s.fresh b p i true c q j) [
  | inl r ↦ inr (subst (λ x. s.cells q x ≡ None) r.0.1 (subst (λ x. s.cells x i ≡ None) r.0.0.1 empty))
  | inr r ↦ inl (sym r.1 ∙ h)
]

pub FreshSteady-row : (s : Table) (b : ℕ) (a : Act) → IsSound s → (row s b a).allowed → IsDuringPhase a → FreshSteady s (row s b a).next
FreshSteady-row s b (New var) h k during =
    if_either (FreshSteady s) (nat_lt s.count s.sizes.objects) (with_object s b var) s (λ c p i is. inl is) (λ c p i is. inl is)
FreshSteady-row s b (Link (Global g) var) h k during = λ c p i is. inl is
FreshSteady-row s b (Link (Ref object n) var) h k during = λ c p i is. inl is
FreshSteady-row s b (Take p) h k during = with_taken_either (FreshSteady s) s b p (least_free s p) (λ c q i is. inl is) (λ j c q i is. inl is)
FreshSteady-row s b (Below start) h k during =
    with_taken_either (FreshSteady s) s b External (free_below s start) (λ c q i is. inl is) (λ j c q i is. inl is)
FreshSteady-row s b (Put p i tag value) h k during =
    FreshSteady-put s b p i tag value (option_map-none (λ (cell : Cell). cell.id) (s.cells p i) ((h.used.claims b p i k.0).2))
FreshSteady-row s b (Bind f w) h k during =
    if_either (FreshSteady s) (s.words f == 0) (with_bound s b f w) (with_unbound s b f w)
    (λ c p i is. inl (put_claim-was s.fresh b (space_of f) (index_of w) c p i is))
    (λ c p i is. inl (put_claim-was s.fresh b (space_of f) (index_of w) c p i is))
FreshSteady-row s b (Start policy) h k during = absurd during
FreshSteady-row s b Finish h k during = absurd during
FreshSteady-row s b _ h k during = λ c p i is. inl is

-- a bound field keeps its id and its word as long as it stays bound
abbrev pub BoundSteady : Table → Table → Type 0
BoundSteady s t = (f : Field) (id : ℕ) → s.bound f ≡ Some id → IsSome (t.bound f) →
    (t.bound f ≡ Some id) × (t.words f ≡ s.words f)

-- a bound field of a reachable object names a cell, and so not index 0
pub words-bound : (s : Table) (f : Field) (id : ℕ) → IsSound s → IsReachable s (object_of f) → s.bound f ≡ Some id → s.words f ≢ 0
words-bound s f id h reach bound zero =
    let own : id_at s (space_of f) (index_of (s.words f)) ≡ Some id = h.fields.own f id reach bound in
    let here : id_at s (space_of f) 0 ≡ Some id = subst (λ w. id_at s (space_of f) (index_of w) ≡ Some id) zero own in
    (h.used.cells (space_of f) 0 (subst IsSome (sym here) refl)).1 refl

-- a bind into a field whose word is 0: the field's object is held, and so reachable, and the field was not bound
pub BoundSteady-bind : (s : Table) (b : ℕ) (f : Field) (w : ℕ) → IsSound s → IsReachable s (object_of f) → s.words f ≡ 0 → BoundSteady s (with_bound s b f w)
BoundSteady-bind s b f w h reach free g id bound some =
    elim (read_field (id_at s (space_of f) (index_of w)) s.bound f g) [ inl r ↦ clash r.0 | inr r ↦ (r.1 ∙ bound, put_field-other s.words f g w r.0) ]
  where
    clash : f ≡ g → (put_field s.bound f (id_at s (space_of f) (index_of w)) g ≡ Some id) × (put_field s.words f w g ≡ s.words g)
    clash same = absurd (words-bound s g id h (subst (λ x. IsReachable s (object_of x)) same reach) bound (subst (λ x. s.words x ≡ 0) same free))

pub BoundSteady-forged : (s : Table) (number w : ℕ) → BoundSteady s (with_forged s number w)
BoundSteady-forged s number w g id bound some = elim (read_field None s.bound (field.External number) g) [
  | inl r ↦ absurd (IsSome-none (put_field s.bound (field.External number) None g) r.1 some)
  | inr r ↦ (r.1 ∙ bound, put_field-other s.words (field.External number) g w r.0)
]

pub BoundSteady-row : (s : Table) (b : ℕ) (a : Act) → IsSound s → (row s b a).allowed → IsDuringPhase a → BoundSteady s (row s b a).next
BoundSteady-row s b (New var) h k during =
    if_either (BoundSteady s) (nat_lt s.count s.sizes.objects) (with_object s b var) s
    (λ f id bound some. (bound, refl)) (λ f id bound some. (bound, refl))
BoundSteady-row s b (Link (Global g) var) h k during = λ f id bound some. (bound, refl)
BoundSteady-row s b (Link (Ref object n) var) h k during = λ f id bound some. (bound, refl)
BoundSteady-row s b (Take p) h k during =
    with_taken_either (BoundSteady s) s b p (least_free s p) (λ f id bound some. (bound, refl)) (λ i f id bound some. (bound, refl))
BoundSteady-row s b (Below start) h k during =
    with_taken_either (BoundSteady s) s b External (free_below s start)
    (λ f id bound some. (bound, refl)) (λ i f id bound some. (bound, refl))
BoundSteady-row s b (Bind f w) h k during =
    if_by (BoundSteady s) (s.words f == 0) (with_bound s b f w) (with_unbound s b f w)
    (λ free. BoundSteady-bind s b f w h (By_variable b k.0.0 (object_of f) k.0.2) (eqb-true (s.words f) 0 free)) (λ taken g id bound some. (bound, refl))
BoundSteady-row s b (Forge number w) h k during = BoundSteady-forged s number w
BoundSteady-row s b (Start policy) h k during = absurd during
BoundSteady-row s b Finish h k during = absurd during
BoundSteady-row s b _ h k during = λ f id bound some. (bound, refl)

-- the objects and the puts so far
abbrev pub CountsSteady : Table → Table → Type 0
CountsSteady s t = (s.count ≤ t.count) × (s.next ≤ t.next)

pub CountsSteady-same : (s : Table) → CountsSteady s s
CountsSteady-same s = (omega arith, omega arith)

pub CountsSteady-object : (s : Table) (b var : ℕ) → CountsSteady s (with_object s b var)
CountsSteady-object s b var = (omega arith, omega arith)

pub CountsSteady-put : (s : Table) (b : ℕ) (p : Space) (i tag value : ℕ) → CountsSteady s (with_cell s b p i tag value)
CountsSteady-put s b p i tag value = (omega arith, omega arith)

pub CountsSteady-row : (s : Table) (b : ℕ) (a : Act) → IsDuringPhase a → CountsSteady s (row s b a).next
CountsSteady-row s b (New var) during =
    if_either (CountsSteady s) (nat_lt s.count s.sizes.objects) (with_object s b var) s (CountsSteady-object s b var) (CountsSteady-same s)
CountsSteady-row s b (Link (Global g) var) during = CountsSteady-same s
CountsSteady-row s b (Link (Ref object k) var) during = CountsSteady-same s
CountsSteady-row s b (Take p) during =
    with_taken_either (CountsSteady s) s b p (least_free s p) (CountsSteady-same s) (λ i. CountsSteady-same s)
CountsSteady-row s b (Below start) during =
    with_taken_either (CountsSteady s) s b External (free_below s start) (CountsSteady-same s) (λ i. CountsSteady-same s)
CountsSteady-row s b (Put p i tag value) during = CountsSteady-put s b p i tag value
CountsSteady-row s b (Bind f w) during =
    if_either (CountsSteady s) (s.words f == 0) (with_bound s b f w) (with_unbound s b f w) (CountsSteady-same s) (CountsSteady-same s)
CountsSteady-row s b (Start policy) during = absurd during
CountsSteady-row s b Finish during = absurd during
CountsSteady-row s b _ during = CountsSteady-same s
