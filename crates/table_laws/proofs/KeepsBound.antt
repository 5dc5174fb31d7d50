-- After each event the bound fields of the objects of a cycle have their own cells, and are safe once the object is
-- scanned or born.
use Rattle.std.proofs.Common.{◌≡◌, ◌≢◌, ◌⊎◌, ℕ, ◌<◌, ◌==◌, nat_lt, Bool, true, if◌then◌else◌, Option, Some, None, IsTrue, IsSome, IfSome, refl, ◌∙◌, sym, subst, inl, inr, arith, ap}
use Rattle.std.proofs.lemmas.Option.{IfSome_then}
use Rattle.plain_table.specs.declared.scripts.Policy.{Policy}
use Rattle.plain_table.specs.declared.events.Act.{Act}
use Rattle.plain_table.specs.declared.events.Act.TheVariants.{New, Drop, Get, Link, Take, Below, Abort, Put, Bind, Name, Look, Set, Swap, Forge, Publish, Mark, Evac, Scan, Start, Finish}
use Rattle.plain_table.specs.declared.events.Space.{Space}
use Rattle.plain_table.specs.declared.events.Space.TheVariants.{External, Trusted}
use Rattle.plain_table.specs.declared.events.Field.{Field}
use Rattle.plain_table.specs.declared.events.Field.TheVariants as field
use Rattle.plain_table.specs.Index.{index_of}
use Rattle.plain_table.specs.Places.{space_of, object_of, put_field}
use Rattle.plain_table.specs.Cycle.{Cycle, with_mark, with_birth, with_scan, with_word, with_entry, with_abort, marked_in, scanned_in, touched_in}
use Rattle.plain_table.specs.Table.{Table, least_free}
use Rattle.plain_table.specs.Finish.{id_at, CanFinish, started}
use Rattle.plain_table.specs.Rows.{IsPlaced, IsFreshBind, IsSharedBind, AreSafe, free_below, object_in, with_object, with_cell, with_published, with_forged, with_bound, with_unbound, with_value, row}
use Rattle.plain_table.specs.Sound.{IsSound, CycleSound, BoundSound}
use Rattle.plain_table.proofs.PlaceReads.{read_at, same_field-tells, put_at-grows, put_entry-grows}
use Rattle.plain_table.proofs.Options.{IsSome-some, IsSome-value}
use Rattle.table_laws.proofs.PlacedFields.{IsPlaced-fresh, IsPlaced-shared}
use Rattle.table_laws.proofs.IdsAt.{id_at-with_cell-stays, id_at-with_value, id_at-with_published}
use Rattle.plain_table.proofs.CycleParts.{IfSome-and, IfSome-changed, IfSome-changed_by, IfSome-finished}
use Rattle.plain_table.proofs.Branches.{if_either, with_taken_either, with_linked_either}

-- the bound fields of a table, for a cycle
abbrev pub BoundIn : Table → Cycle → Type 0
BoundIn s c = BoundSound c (id_at s) s.words s.bound

BoundIn-same : (s : Table) (cycle : Option Cycle) → IfSome cycle (CycleSound s) → IfSome cycle (BoundIn s)
BoundIn-same s cycle h = IfSome_then cycle h (λ c d. d.bound)

module _ (c : Cycle) (ids : Space → ℕ → Option ℕ) (words : Field → ℕ) (bound : Field → Option ℕ) where
  -- more marks, where no cell goes
  BoundSound-marked : (p : Space) (i : ℕ) (more : Space → ℕ → Option ℕ) → ((q : Space) (j n : ℕ) → ids q j ≡ Some n → more q j ≡ Some n) →
      BoundSound c ids words bound → BoundSound (with_mark p i c) more words bound
  BoundSound-marked p i more stay h = record {
    own = λ f n o e. stay (space_of f) (index_of (words f)) n (h.own f n o e);
    safe = λ f o e. let safe = h.safe f o e in (put_entry-grows c.marks p i (space_of f) (index_of (words f)) safe.0, safe.1);
  }

  -- a born object that no bound field has
  BoundSound-born : (o : ℕ) → ((f : Field) → IsSome (bound f) → object_of f ≢ o) →
      BoundSound c ids words bound → BoundSound (with_birth o c) ids words bound
  BoundSound-born o none h = record {
    own = λ f n held e. elim held [
      | inl old ↦ h.own f n (inl old) e
      | inr born ↦ elim (read_at true c.born o (object_of f)) [
        | inl r ↦ absurd (none f (IsSome-some (bound f) n e) (sym r.0))
        | inr r ↦ h.own f n (inr (sym r.1 ∙ born)) e
      ]
    ];
    safe = λ f held e. elim held [
      | inl scanned ↦ h.safe f (inl scanned) e
      | inr born ↦ elim (read_at true c.born o (object_of f)) [
        | inl r ↦ absurd (none f e (sym r.0))
        | inr r ↦ h.safe f (inr (sym r.1 ∙ born)) e
      ]
    ];
  }

  -- a scanned object whose bound fields are safe
  BoundSound-scanned : (o : ℕ) →
      ((f : Field) → object_of f ≡ o → IsSome (bound f) →
      IsTrue (c.marks (space_of f) (index_of (words f))) × IsPlaced c f (index_of (words f))) →
      BoundSound c ids words bound → BoundSound (with_scan o c) ids words bound
  BoundSound-scanned o safe h = record {
    own = h.own;
    safe = λ f held e. elim held [
      | inr born ↦ h.safe f (inr born) e
      | inl scanned ↦ elim (read_at true c.scans o (object_of f)) [
        | inl r ↦ safe f (sym r.0) e
        | inr r ↦ h.safe f (inl (sym r.1 ∙ scanned)) e
      ]
    ];
  }

  -- what holds of a field's word and cell after a change of a field
  read_both : (g : Field) (w : ℕ) (new : Option ℕ) (f : Field) (P : ℕ → Option ℕ → Type 0) → (g ≡ f → P w new) → P (words f) (bound f) →
      P (put_field words g w f) (put_field bound g new f)
  read_both g w new f P here there =
      elim (same_field-tells g f) [
        | inl t ↦ subst (λ (test : Bool). P (if test then w else words f) (if test then new else bound f)) (sym t.0) (here t.1)
        | inr t ↦ subst (λ (test : Bool). P (if test then w else words f) (if test then new else bound f)) (sym t.0) there
      ]

  -- a field with another word, which is bound to the cell there, if at all, and is then safe
  BoundSound-touched : (g : Field) (w : ℕ) (new : Option ℕ) →
      ((n : ℕ) → new ≡ Some n → ids (space_of g) (index_of w) ≡ Some n) →
      (IsSome new → IsTrue (c.marks (space_of g) (index_of w)) × IsPlaced c g (index_of w)) →
      BoundSound c ids words bound →
      BoundSound (with_word g w c) ids (put_field words g w) (put_field bound g new)
  BoundSound-touched g w new own safe h = record {
    own = λ f n held e. read_both g w new f (λ word to. to ≡ Some n → ids (space_of f) (index_of word) ≡ Some n)
        (λ same. subst (λ (x : Field). new ≡ Some n → ids (space_of x) (index_of w) ≡ Some n) same (own n)) (h.own f n held) e;
    safe = λ f held e. read_both g w new f (λ word to. IsSome to → IsTrue (c.marks (space_of f) (index_of word)) × IsPlaced c f (index_of word))
        (λ same. subst (λ (x : Field). IsSome new → IsTrue (c.marks (space_of x) (index_of w)) × IsPlaced c x (index_of w)) same safe)
        (h.safe f held) e;
  }

  IsPlaced-evacuated : (i number : ℕ) (f : Field) (j : ℕ) → IsPlaced c f j →
      IsPlaced (with_entry i number c) f j
  IsPlaced-evacuated i number (field.External m) j h = elim h [ inl stays ↦ inl stays | inr entry ↦ inr (put_at-grows c.visited number m entry) ]
  IsPlaced-evacuated i number (field.Trusted m) j h = h

  BoundSound-evacuated : (i number : ℕ) → BoundSound c ids words bound →
      BoundSound (with_entry i number c) ids words bound
  BoundSound-evacuated i number h = record {
    own = h.own;
    safe = λ f held e. let safe = h.safe f held e in (safe.0, IsPlaced-evacuated i number f (index_of (words f)) safe.1);
  }

  IsPlaced-aborted : (f : Field) (j : ℕ) → IsPlaced (with_abort c) f j
  IsPlaced-aborted (field.External m) j = inl refl
  IsPlaced-aborted (field.Trusted m) j = tt

  BoundSound-aborted : BoundSound c ids words bound → BoundSound (with_abort c) ids words bound
  BoundSound-aborted h = record {
    own = h.own;
    safe = λ f held e. ((h.safe f held e).0, IsPlaced-aborted f (index_of (words f)));
  }

BoundIn-object : (s : Table) (b var : ℕ) → IsSound s → IfSome (with_object s b var).cycle (BoundIn (with_object s b var))
BoundIn-object s b var h =
    IfSome-changed (BoundIn s) s.cycle h.cycle
    (λ c d. BoundSound-born c (id_at s) s.words s.bound s.count (λ f is e. let below : object_of f < s.count = h.objects.bindings f is in omega arith) d.bound)

BoundIn-put : (s : Table) (b : ℕ) (p : Space) (i tag value : ℕ) → IsSound s → id_at s p i ≡ None →
    IfSome (marked_in s.cycle p i) (BoundIn (with_cell s b p i tag value))
BoundIn-put s b p i tag value h empty =
    IfSome-changed (BoundIn (with_cell s b p i tag value)) s.cycle h.cycle
    (λ c d. BoundSound-marked c (id_at s) s.words s.bound p i _ (id_at-with_cell-stays s b p i tag value empty) d.bound)

BoundIn-value : (s : Table) (i value : ℕ) → IsSound s → IfSome (marked_in s.cycle External i) (BoundIn (with_value s i value))
BoundIn-value s i value h =
    IfSome-changed (BoundIn (with_value s i value)) s.cycle h.cycle
    (λ c d. BoundSound-marked c (id_at s) s.words s.bound External i _
    (λ q j n e. ap (λ (ids : Space → ℕ → Option ℕ). ids q j) (id_at-with_value s i value) ∙ e) d.bound)

BoundIn-publish : (s : Table) (b i : ℕ) → IsSound s → IfSome (marked_in s.cycle Trusted i) (BoundIn (with_published s b i))
BoundIn-publish s b i h =
    IfSome-changed (BoundIn (with_published s b i)) s.cycle h.cycle
    (λ c d. BoundSound-marked c (id_at s) s.words s.bound Trusted i _
    (λ q j n e. ap (λ (ids : Space → ℕ → Option ℕ). ids q j) (id_at-with_published s b i) ∙ e) d.bound)

BoundIn-mark : (s : Table) (p : Space) (i : ℕ) → IsSound s → IfSome (marked_in s.cycle p i) (BoundIn s)
BoundIn-mark s p i h =
    IfSome-changed (BoundIn s) s.cycle h.cycle (λ c d. BoundSound-marked c (id_at s) s.words s.bound p i _ (λ q j n e. e) d.bound)

BoundIn-bound : (s : Table) (b : ℕ) (f : Field) (w : ℕ) → IsSound s → IsFreshBind s b f w ⊎ IsSharedBind s f w →
    IfSome (with_bound s b f w).cycle (BoundIn (with_bound s b f w))
BoundIn-bound s b f w h k =
    elim k [
      | inl fresh ↦ IfSome-changed (BoundIn (with_bound s b f w)) s.cycle h.cycle
          (λ c d. BoundSound-touched c (id_at s) s.words s.bound f w (id_at s (space_of f) (index_of w)) (λ n e. e)
          (λ is. (d.marks.filled b (space_of f) (index_of w) fresh, IsPlaced-fresh c (id_at s) s.fresh d.marks b f (index_of w) fresh)) d.bound)
      | inr shared ↦ IfSome-changed_by (BoundIn (with_bound s b f w)) s.cycle h.cycle shared.marked
          (λ c d marked. BoundSound-touched c (id_at s) s.words s.bound f w (id_at s (space_of f) (index_of w)) (λ n e. e)
          (λ is. (subst (λ (p : Space). IsTrue (c.marks p (index_of w))) (sym shared.trusted) marked, IsPlaced-shared c f (index_of w) shared.trusted)) d.bound)
    ]

BoundIn-forge : (s : Table) (number w : ℕ) → IsSound s → IfSome (touched_in s.cycle (field.External number) w) (BoundIn (with_forged s number w))
BoundIn-forge s number w h =
    IfSome-changed (BoundIn (with_forged s number w)) s.cycle h.cycle
    (λ c d. BoundSound-touched c (id_at s) s.words s.bound (field.External number) w None (λ n e. absurd (cc)) (λ is. absurd (cc)) d.bound)

-- a start finds the bound fields of reachable objects so
BoundIn-start : (s : Table) (policy : Policy) → IsSound s → IfSome (started s policy).cycle (BoundIn (started s policy))
BoundIn-start s policy h = record {
  own = λ f n held e. elim held [ inl reached ↦ h.fields.own f n reached e | inr born ↦ absurd (cc) ];
  safe = λ f held e. elim held [ inl scanned ↦ absurd (cc) | inr born ↦ absurd (cc) ];
}

BoundIn-scan : (s : Table) (o : ℕ) → IsSound s → IfSome s.cycle (λ c. AreSafe s c o) → IfSome (scanned_in s.cycle o) (BoundIn s)
BoundIn-scan s o h k =
    IfSome-changed_by (BoundIn s) s.cycle h.cycle k
    (λ c d safe. BoundSound-scanned c (id_at s) s.words s.bound o
    (λ f e is. let found = IsSome-value (s.bound f) is in let held = safe f found.0 e found.1 in (held.1, held.2)) d.bound)

-- after any event
pub BoundIn-next : (s : Table) (b : ℕ) (a : Act) → IsSound s → (row s b a).allowed → IfSome (row s b a).next.cycle (BoundIn (row s b a).next)
BoundIn-next s b (New var) h k =
    if_either (λ t. IfSome t.cycle (BoundIn t)) (nat_lt s.count s.sizes.objects) (with_object s b var) s
    (BoundIn-object s b var h) (BoundIn-same s s.cycle h.cycle)
BoundIn-next s b (Drop var) h k = BoundIn-same s s.cycle h.cycle
BoundIn-next s b (Get var spot) h k = BoundIn-same s s.cycle h.cycle
BoundIn-next s b (Link spot var) h k =
    with_linked_either (λ t. IfSome t.cycle (BoundIn t)) s spot (object_in s b var)
    (λ g. BoundIn-same s s.cycle h.cycle) (λ object i. BoundIn-same s s.cycle h.cycle)
BoundIn-next s b (Take p) h k =
    with_taken_either (λ t. IfSome t.cycle (BoundIn t)) s b p (least_free s p)
    (BoundIn-same s s.cycle h.cycle) (λ i. BoundIn-same s s.cycle h.cycle)
BoundIn-next s b (Below start) h k =
    with_taken_either (λ t. IfSome t.cycle (BoundIn t)) s b External (free_below s start)
    (BoundIn-same s s.cycle h.cycle) (λ i. BoundIn-same s s.cycle h.cycle)
BoundIn-next s b Abort h k =
    IfSome-changed (BoundIn s) s.cycle h.cycle (λ c d. BoundSound-aborted c (id_at s) s.words s.bound d.bound)
BoundIn-next s b (Put p i tag value) h k = BoundIn-put s b p i tag value h (h.used.claims b p i k.0).2
BoundIn-next s b (Bind f w) h k =
    if_either (λ t. IfSome t.cycle (BoundIn t)) (s.words f == 0) (with_bound s b f w) (with_unbound s b f w)
    (BoundIn-bound s b f w h k.2) (BoundIn-same s s.cycle h.cycle)
BoundIn-next s b (Name f) h k = BoundIn-same s s.cycle h.cycle
BoundIn-next s b (Look p w first last) h k = BoundIn-same s s.cycle h.cycle
BoundIn-next s b (Set w first last value) h k = BoundIn-value s (index_of w) value h
BoundIn-next s b (Swap w first last value) h k = BoundIn-value s (index_of w) value h
BoundIn-next s b (Forge number w) h k = BoundIn-forge s number w h
BoundIn-next s b (Publish i) h k = BoundIn-publish s b i h
BoundIn-next s b (Mark p i) h k = BoundIn-mark s p i h
BoundIn-next s b (Evac i number) h k =
    IfSome-changed (BoundIn s) s.cycle h.cycle (λ c d. BoundSound-evacuated c (id_at s) s.words s.bound i number d.bound)
BoundIn-next s b (Scan o) h k = BoundIn-scan s o h (IfSome-and s.cycle k (λ c d. d.2))
BoundIn-next s b (Start policy) h k = BoundIn-start s policy h
BoundIn-next s b Finish h k = IfSome-finished (CanFinish s) _ s s.cycle k.1
