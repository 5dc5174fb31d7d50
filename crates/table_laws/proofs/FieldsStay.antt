-- Steadiness of the sizes, the fields and the references: an event other than the cycle's start and finish changes no
-- size, changes a field's word only by a bind that says ok or where the field is then not bound, and a reference only
-- by a link.
use Rattle.std.proofs.Common.{◌≡◌, ℕ, ◌==◌, nat_lt, Bool, if◌then◌else◌, None, refl, ap, ◌∙◌, inl, inr}
use Rattle.plain_table.specs.declared.events.Act.{Act}
use Rattle.plain_table.specs.declared.events.Act.TheVariants.{New, Link, Take, Below, Bind, Forge, Start, Finish}
use Rattle.plain_table.specs.declared.events.Space.TheVariants.{External}
use Rattle.plain_table.specs.declared.events.Field.TheVariants as field
use Rattle.plain_table.specs.declared.events.Spot.TheVariants.{Global, Ref}
use Rattle.plain_table.specs.declared.reports.Reply.{Reply}
use Rattle.plain_table.specs.declared.reports.Reply.TheVariants as reply
use Rattle.plain_table.specs.Index.{index_of}
use Rattle.plain_table.specs.Places.{space_of}
use Rattle.plain_table.specs.Table.{Table, least_free}
use Rattle.plain_table.specs.Finish.{id_at}
use Rattle.plain_table.specs.Rows.{row, free_below, object_in, with_object, with_bound, with_unbound}
use Rattle.plain_table.proofs.PlaceReads.{read_pair, read_field}
use Rattle.plain_table.proofs.Branches.{if_either, if_by, with_taken_either}
use Rattle.table_laws.specs.Steady.{IsDuringPhase, FieldsSteady, ReferencesSteady}

pub SizesSteady-row : (s : Table) (b : ℕ) (a : Act) → IsDuringPhase a → (row s b a).next.sizes ≡ s.sizes
SizesSteady-row s b (New var) during = if_either (λ t. t.sizes ≡ s.sizes) (nat_lt s.count s.sizes.objects) (with_object s b var) s refl refl
SizesSteady-row s b (Link (Global g) var) during = refl
SizesSteady-row s b (Link (Ref object k) var) during = refl
SizesSteady-row s b (Take p) during = with_taken_either (λ t. t.sizes ≡ s.sizes) s b p (least_free s p) refl (λ i. refl)
SizesSteady-row s b (Below start) during = with_taken_either (λ t. t.sizes ≡ s.sizes) s b External (free_below s start) refl (λ i. refl)
SizesSteady-row s b (Bind f w) during = if_either (λ t. t.sizes ≡ s.sizes) (s.words f == 0) (with_bound s b f w) (with_unbound s b f w) refl refl
SizesSteady-row s b (Start policy) during = absurd during
SizesSteady-row s b Finish during = absurd during
SizesSteady-row s b _ during = refl

pub FieldsSteady-row : (s : Table) (b : ℕ) (a : Act) (said : Reply) → said ≡ (row s b a).reply → IsDuringPhase a → FieldsSteady s (record { by = b; act = a; said = said }) (row s b a).next
FieldsSteady-row s b (New var) said known during =
    if_either (FieldsSteady s (record { by = b; act = New var; said = said })) (nat_lt s.count s.sizes.objects) (with_object s b var) s (λ f. inl (refl, refl)) (λ f. inl (refl, refl))
FieldsSteady-row s b (Link (Global g) var) said known during = λ f. inl (refl, refl)
FieldsSteady-row s b (Link (Ref object k) var) said known during = λ f. inl (refl, refl)
FieldsSteady-row s b (Take p) said known during =
    with_taken_either (FieldsSteady s (record { by = b; act = Take p; said = said })) s b p (least_free s p) (λ f. inl (refl, refl)) (λ i f. inl (refl, refl))
FieldsSteady-row s b (Below start) said known during =
    with_taken_either (FieldsSteady s (record { by = b; act = Below start; said = said })) s b External (free_below s start) (λ f. inl (refl, refl)) (λ i f. inl (refl, refl))
FieldsSteady-row s b (Bind f w) said known during =
    if_by (FieldsSteady s (record { by = b; act = Bind f w; said = said })) (s.words f == 0) (with_bound s b f w) (with_unbound s b f w)
    (λ free g. elim (read_field w s.words f g) [
      | inl r ↦ inr (inr (w, ap (λ h. Bind h w) r.0, known ∙ ap (λ (test : Bool). if test then reply.Ok else reply.Taken (s.words f)) free))
      | inr r ↦ elim (read_field (id_at s (space_of f) (index_of w)) s.bound f g) [
        | inl q ↦ absurd (r.0 q.0)
        | inr q ↦ inl (r.1, q.1)
      ]
    ])
    (λ taken g. inl (refl, refl))
FieldsSteady-row s b (Forge number w) said known during = λ g. elim (read_field w s.words (field.External number) g) [
  | inl r ↦ elim (read_field None s.bound (field.External number) g) [ inl q ↦ inr (inl q.1) | inr q ↦ absurd (q.0 r.0) ]
  | inr r ↦ elim (read_field None s.bound (field.External number) g) [ inl q ↦ absurd (r.0 q.0) | inr q ↦ inl (r.1, q.1) ]
]
FieldsSteady-row s b (Start policy) said known during = absurd during
FieldsSteady-row s b Finish said known during = absurd during
FieldsSteady-row s b _ said known during = λ f. inl (refl, refl)

pub ReferencesSteady-row : (s : Table) (b : ℕ) (a : Act) (said : Reply) → IsDuringPhase a → ReferencesSteady s (record { by = b; act = a; said = said }) (row s b a).next
ReferencesSteady-row s b (New var) said during =
    if_either (ReferencesSteady s (record { by = b; act = New var; said = said })) (nat_lt s.count s.sizes.objects) (with_object s b var) s (λ o k. inl refl) (λ o k. inl refl)
ReferencesSteady-row s b (Link (Global g) var) said during = λ o k. inl refl
ReferencesSteady-row s b (Link (Ref object n) var) said during = λ o k. elim (read_pair (object_in s b var) s.refs object n o k) [
  | inl r ↦ inr (var, (λ i. Link (Ref (r.0.0 i) (r.0.1 i)) var), r.1)
  | inr r ↦ inl r.1
]
ReferencesSteady-row s b (Take p) said during =
    with_taken_either (ReferencesSteady s (record { by = b; act = Take p; said = said })) s b p (least_free s p) (λ o k. inl refl) (λ i o k. inl refl)
ReferencesSteady-row s b (Below start) said during =
    with_taken_either (ReferencesSteady s (record { by = b; act = Below start; said = said })) s b External (free_below s start) (λ o k. inl refl) (λ i o k. inl refl)
ReferencesSteady-row s b (Bind f w) said during =
    if_either (ReferencesSteady s (record { by = b; act = Bind f w; said = said })) (s.words f == 0) (with_bound s b f w) (with_unbound s b f w) (λ o k. inl refl) (λ o k. inl refl)
ReferencesSteady-row s b (Start policy) said during = absurd during
ReferencesSteady-row s b Finish said during = absurd during
ReferencesSteady-row s b _ said during = λ o k. inl refl
