-- The fields of reachable objects stay sound after each act other than the finish of a cycle.
use Rattle.std.proofs.Common.{◌≡◌, ◌≢◌, ◌⊎◌, ◌<◌, ◌==◌, ℕ, Bool, true, false, Option, Some, None, refl, sym, ap, ◌∙◌, subst, inl, inr, nat_lt, if◌then◌else◌, IsTrue, IsSome, arith}
use Rattle.plain_table.specs.declared.events.Act.{Act}
use Rattle.plain_table.specs.declared.events.Act.TheVariants.{New, Drop, Get, Link, Take, Below, Abort, Put, Bind, Name, Look, Set, Swap, Forge, Publish, Mark, Evac, Scan, Start, Finish}
use Rattle.plain_table.specs.declared.events.Cell.{Cell}
use Rattle.plain_table.specs.declared.events.Space.{Space}
use Rattle.plain_table.specs.declared.events.Space.TheVariants.{External, Trusted}
use Rattle.plain_table.specs.declared.events.Field.{Field}
use Rattle.plain_table.specs.declared.events.Field.TheVariants as field
use Rattle.plain_table.specs.declared.events.Spot.{Spot}
use Rattle.plain_table.specs.declared.events.Spot.TheVariants.{Global, Ref}
use Rattle.plain_table.specs.Index.{index_of}
use Rattle.plain_table.specs.Places.{space_of, object_of, put_at, put_pair, put_field, put_claim}
use Rattle.plain_table.specs.Reachable.{Reaches}
use Rattle.plain_table.specs.Table.{Table, least_free}
use Rattle.plain_table.specs.Finish.{IsReachable, id_at}
use Rattle.plain_table.specs.Rows.{row, IsFreshBind, IsSharedBind, at_spot, object_in, with_object, with_bound, with_unbound, with_linked, with_cell, with_value, with_published, free_below}
use Rattle.plain_table.specs.Sound.{FieldsSound, IsSound}
use Rattle.table_laws.proofs.Acts.{IsNoFinish}
use Rattle.plain_table.proofs.PlaceReads.{read_field, read_claim}
use Rattle.table_laws.proofs.ClaimReads.{put_claim-none, put_claim-alone}
use Rattle.plain_table.proofs.Options.{IsSome-some, IsSome-value, is_some-option_map}
use Rattle.table_laws.proofs.IdsAt.{id_at-with_value, id_at-with_published, read_id_at-with_cell}
use Rattle.table_laws.proofs.Reach.{Reaches-put_variable, Reaches-put_object, IsReachable-at_spot, IsReachable-object_in, IsReachable-linked}
use Rattle.plain_table.proofs.Branches.{if_either, with_taken_either}

module _ {ids : Space → ℕ → Option ℕ} {fresh : ℕ → Space → ℕ → Bool} {words : Field → ℕ} {bound : Field → Option ℕ} {reaches : ℕ → Type 0} where
  -- no more can be reached
  pub FieldsSound-reach : (less : ℕ → Type 0) → FieldsSound ids fresh words bound reaches → ((o : ℕ) → less o → reaches o) → FieldsSound ids fresh words bound less
  FieldsSound-reach less h sub = record {
    own = λ f n r e. h.own f n (sub (object_of f) r) e;
    trusted = λ o r e. h.trusted o (sub o r) e;
    settled = λ o b r e. h.settled o b (sub o r) e;
  }

  -- a new object can be reached, which has no word and no bound field yet
  pub FieldsSound-new : (more : ℕ → Type 0) (n : ℕ) → FieldsSound ids fresh words bound reaches → ((o : ℕ) → more o → reaches o ⊎ (n ≡ o)) →
      ((f : Field) → words f ≢ 0 → object_of f < n) → ((f : Field) → IsSome (bound f) → object_of f < n) → FieldsSound ids fresh words bound more
  FieldsSound-new more n h sub empty unbound = record {
    own = λ f m r e. elim (sub (object_of f) r) [
      | inl before ↦ h.own f m before e
      | inr is ↦ let less : object_of f < n = unbound f (IsSome-some (bound f) m e) in absurd (omega arith)
    ];
    trusted = λ o r e. elim (sub o r) [
      | inl before ↦ h.trusted o before e
      | inr is ↦ let less : o < n = empty (field.Trusted o) e in absurd (omega arith)
    ];
    settled = λ o b r e. elim (sub o r) [
      | inl before ↦ h.settled o b before e
      | inr is ↦ let less : o < n = empty (field.Trusted o) e in absurd (omega arith)
    ];
  }

  pub FieldsSound-is : (new_ids : Space → ℕ → Option ℕ) → FieldsSound ids fresh words bound reaches → new_ids ≡ ids → FieldsSound new_ids fresh words bound reaches
  FieldsSound-is new_ids h e = subst (λ (x : Space → ℕ → Option ℕ). FieldsSound x fresh words bound reaches) (sym e) h

  -- less is fresh
  pub FieldsSound-fresh : (less : ℕ → Space → ℕ → Bool) → FieldsSound ids fresh words bound reaches →
      ((b : ℕ) (p : Space) (i : ℕ) → fresh b p i ≡ false → less b p i ≡ false) → FieldsSound ids less words bound reaches
  FieldsSound-fresh less h sub = record {
    own = h.own;
    trusted = h.trusted;
    settled = λ o b r e. sub b Trusted (index_of (words (field.Trusted o))) (h.settled o b r e);
  }

  -- the own cell of a bound field stands at no empty index
  FieldsSound-empty : (p : Space) (i : ℕ) (f : Field) (n : ℕ) → FieldsSound ids fresh words bound reaches → ids p i ≡ None → reaches (object_of f) → bound f ≡ Some n →
      p ≡ space_of f → i ≡ index_of (words f) → ⊥
  FieldsSound-empty p i f n h none r e is at =
      let here : ids (space_of f) (index_of (words f)) ≡ Some n = h.own f n r e in absurd (cc)

  -- a cell comes to an index where none stood, and is fresh
  pub FieldsSound-put : (more : Space → ℕ → Option ℕ) (b : ℕ) (p : Space) (i : ℕ) → FieldsSound ids fresh words bound reaches → ids p i ≡ None →
      ((q : Space) (j : ℕ) → ((p ≡ q) × (i ≡ j)) ⊎ (more q j ≡ ids q j)) → FieldsSound more (put_claim fresh b p i true) words bound reaches
  FieldsSound-put more b p i h none others = record {
    own = λ f n r e. elim (others (space_of f) (index_of (words f))) [
      | inl here ↦ absurd (FieldsSound-empty p i f n h none r e here.0 here.1)
      | inr same ↦ same ∙ h.own f n r e
    ];
    trusted = h.trusted;
    settled = λ o c r e. elim (read_claim fresh b p i true c Trusted (index_of (words (field.Trusted o)))) [
      | inl here ↦ let some = IsSome-value (bound (field.Trusted o)) (h.trusted o r e) in
          absurd (FieldsSound-empty p i (field.Trusted o) some.0 h none r some.1 here.0.0.1 here.0.1)
      | inr other ↦ other.1 ∙ h.settled o c r e
    ];
  }

  -- a field gets the word of a cell as its own, and nobody else is about to bind that cell
  pub FieldsSound-bind : (less : ℕ → Space → ℕ → Bool) (f : Field) (w : ℕ) → FieldsSound ids fresh words bound reaches → IsSome (ids (space_of f) (index_of w)) →
      ((b : ℕ) → less b (space_of f) (index_of w) ≡ false) → ((b : ℕ) (p : Space) (i : ℕ) → fresh b p i ≡ false → less b p i ≡ false) →
      FieldsSound ids less (put_field words f w) (put_field bound f (ids (space_of f) (index_of w))) reaches
  FieldsSound-bind less f w h found gone sub = record {
    own = λ g n r e. elim (read_field w words f g) [
      | inl at ↦ elim (read_field (ids (space_of f) (index_of w)) bound f g) [
        | inl is ↦ ap (λ (x : ℕ). ids (space_of g) (index_of x)) at.1
            ∙ ap (λ (k : Field). ids (space_of k) (index_of w)) (sym at.0) ∙ sym is.1 ∙ e
        | inr is ↦ absurd (is.0 at.0)
      ]
      | inr at ↦ elim (read_field (ids (space_of f) (index_of w)) bound f g) [
        | inl is ↦ absurd (at.0 is.0)
        | inr is ↦ ap (λ (x : ℕ). ids (space_of g) (index_of x)) at.1 ∙ h.own g n r (sym is.1 ∙ e)
      ]
    ];
    trusted = λ o r e. elim (read_field (ids (space_of f) (index_of w)) bound f (field.Trusted o)) [
      | inl is ↦ subst (λ (x : Option ℕ). IsSome x) (sym is.1) found
      | inr is ↦ elim (read_field w words f (field.Trusted o)) [
        | inl at ↦ absurd (is.0 at.0)
        | inr at ↦ subst (λ (x : Option ℕ). IsSome x) (sym is.1) (h.trusted o r (λ empty. e (at.1 ∙ empty)))
      ]
    ];
    settled = λ o b r e. elim (read_field w words f (field.Trusted o)) [
      | inl at ↦ ap (λ (x : ℕ). less b Trusted (index_of x)) at.1
          ∙ ap (λ (k : Field). less b (space_of k) (index_of w)) (sym at.0) ∙ gone b
      | inr at ↦ ap (λ (x : ℕ). less b Trusted (index_of x)) at.1
          ∙ sub b Trusted (index_of (words (field.Trusted o))) (h.settled o b r (λ empty. e (at.1 ∙ empty)))
    ];
  }

  -- an external field gets any word, and names no cell as its own
  pub FieldsSound-forge : (number w : ℕ) → FieldsSound ids fresh words bound reaches →
      FieldsSound ids fresh (put_field words (field.External number) w) (put_field bound (field.External number) None) reaches
  FieldsSound-forge number w h = record {
    own = λ g n r e. elim (read_field None bound (field.External number) g) [
      | inl is ↦ absurd (cc)
      | inr is ↦ elim (read_field w words (field.External number) g) [
        | inl at ↦ absurd (is.0 at.0)
        | inr at ↦ ap (λ (x : ℕ). ids (space_of g) (index_of x)) at.1 ∙ h.own g n r (sym is.1 ∙ e)
      ]
    ];
    trusted = h.trusted;
    settled = h.settled;
  }

-- the fields of the objects that can be reached in a table
abbrev pub AreFieldsSound : Table → Type 0
AreFieldsSound s = FieldsSound (id_at s) s.fresh s.words s.bound (IsReachable s)

-- after a bind, with the test whether the field was empty
AreFieldsSound-bind : (s : Table) (b : ℕ) (f : Field) (w : ℕ) (test : Bool) → IsSound s → IsFreshBind s b f w ⊎ IsSharedBind s f w →
    AreFieldsSound (if test then with_bound s b f w else with_unbound s b f w)
AreFieldsSound-bind s b f w false h may = FieldsSound-fresh (put_claim s.fresh b (space_of f) (index_of w) false) h.fields (put_claim-none s.fresh b (space_of f) (index_of w))
AreFieldsSound-bind s b f w true h (inl own) =
    FieldsSound-bind (put_claim s.fresh b (space_of f) (index_of w) false) f w h.fields (h.fresh.cells b (space_of f) (index_of w) own)
    (λ c. put_claim-alone s.fresh b (space_of f) (index_of w) c h.fresh own) (put_claim-none s.fresh b (space_of f) (index_of w))
AreFieldsSound-bind s b f w true h (inr shared) =
    let found : IsSome (id_at s (space_of f) (index_of w)) =
    subst (λ (p : Space). IsSome (id_at s p (index_of w))) (sym shared.trusted)
    (is_some-option_map (λ (c : Cell). c.id) (s.cells Trusted (index_of w)) ∙ shared.cell) in
    let settled : (c : ℕ) → s.fresh c (space_of f) (index_of w) ≡ false = λ c. ap (λ (p : Space). s.fresh c p (index_of w)) shared.trusted ∙ shared.settled c in
    FieldsSound-bind (put_claim s.fresh b (space_of f) (index_of w) false) f w h.fields found
    (λ c. put_claim-none s.fresh b (space_of f) (index_of w) c (space_of f) (index_of w) (settled c)) (put_claim-none s.fresh b (space_of f) (index_of w))

AreFieldsSound-object : (s : Table) (b var : ℕ) → IsSound s → AreFieldsSound (with_object s b var)
AreFieldsSound-object s b var h =
    FieldsSound-new (Reaches s.refs s.globals (put_pair s.vars b var (Some s.count))) s.count h.fields
    (Reaches-put_object s.refs s.globals s.vars b var s.count
    (λ k q e. let less : s.count < s.count = (h.objects.references s.count k q e).0 in omega arith))
    (λ f e. (h.objects.contents f e).0) h.objects.bindings

AreFieldsSound-link : (s : Table) (b : ℕ) (spot : Spot) (var : Option ℕ) → IsSound s → AreFieldsSound (with_linked s spot (object_in s b var))
AreFieldsSound-link s b (Global g) var h =
    FieldsSound-reach (Reaches s.refs (put_at s.globals g (object_in s b var)) s.vars) h.fields
    (IsReachable-linked s (Global g) (object_in s b var) (IsReachable-object_in s b var))
AreFieldsSound-link s b (Ref m k) var h =
    FieldsSound-reach (Reaches (put_pair s.refs m k (object_in s b var)) s.globals s.vars) h.fields
    (IsReachable-linked s (Ref m k) (object_in s b var) (IsReachable-object_in s b var))

AreFieldsSound-put : (s : Table) (b : ℕ) (p : Space) (i tag value : ℕ) → IsSound s → IsTrue (s.owed b p i) → AreFieldsSound (with_cell s b p i tag value)
AreFieldsSound-put s b p i tag value h owed =
    FieldsSound-put (id_at (with_cell s b p i tag value)) b p i h.fields (h.used.claims b p i owed).2
    (λ q j. elim (read_id_at-with_cell s b p i tag value q j) [ inl r ↦ inl r.0 | inr r ↦ inr r.1 ])

pub FieldsSound-row : (s : Table) (b : ℕ) (a : Act) → IsSound s → (row s b a).allowed → IsNoFinish a →
    FieldsSound (id_at (row s b a).next) (row s b a).next.fresh (row s b a).next.words (row s b a).next.bound
    (Reaches (row s b a).next.refs (row s b a).next.globals (row s b a).next.vars)
FieldsSound-row s b (New var) h k o =
    if_either AreFieldsSound (nat_lt s.count s.sizes.objects) (with_object s b var) s (AreFieldsSound-object s b var h) h.fields
FieldsSound-row s b (Drop var) h k o =
    FieldsSound-reach (Reaches s.refs s.globals (put_pair s.vars b var None)) h.fields
    (Reaches-put_variable s.refs s.globals s.vars b var None (λ q e. absurd (cc)))
FieldsSound-row s b (Get var spot) h k o =
    FieldsSound-reach (Reaches s.refs s.globals (put_pair s.vars b var (at_spot s spot))) h.fields
    (Reaches-put_variable s.refs s.globals s.vars b var (at_spot s spot) (IsReachable-at_spot s b spot k.2))
FieldsSound-row s b (Link spot var) h k o = AreFieldsSound-link s b spot var h
FieldsSound-row s b (Take p) h k o = with_taken_either AreFieldsSound s b p (least_free s p) h.fields (λ i. h.fields)
FieldsSound-row s b (Below start) h k o =
    with_taken_either AreFieldsSound s b External (free_below s start) h.fields (λ i. h.fields)
FieldsSound-row s b Abort h k o = h.fields
FieldsSound-row s b (Put p i tag value) h k o = AreFieldsSound-put s b p i tag value h k.0
FieldsSound-row s b (Bind f w) h k o = AreFieldsSound-bind s b f w (s.words f == 0) h k.2
FieldsSound-row s b (Name f) h k o = h.fields
FieldsSound-row s b (Look p w first last) h k o = h.fields
FieldsSound-row s b (Set w first last value) h k o = FieldsSound-is (id_at (with_value s (index_of w) value)) h.fields (id_at-with_value s (index_of w) value)
FieldsSound-row s b (Swap w first last value) h k o = FieldsSound-is (id_at (with_value s (index_of w) value)) h.fields (id_at-with_value s (index_of w) value)
FieldsSound-row s b (Forge number w) h k o = FieldsSound-forge number w h.fields
FieldsSound-row s b (Publish i) h k o = FieldsSound-is (id_at (with_published s b i)) h.fields (id_at-with_published s b i)
FieldsSound-row s b (Mark p i) h k o = h.fields
FieldsSound-row s b (Evac i number) h k o = h.fields
FieldsSound-row s b (Scan m) h k o = h.fields
FieldsSound-row s b (Start policy) h k o = FieldsSound-fresh (λ b p i. false) h.fields (λ b p i e. refl)
FieldsSound-row s b Finish h k o = absurd o
