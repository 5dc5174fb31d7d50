-- Each legal event but a finish keeps the group of objects: only objects that are made are held or hold something, in
-- the places that there are, and words have 32 bits.
use Rattle.std.proofs.Common.{◌≡◌, ℕ, ◌+◌, ◌^◌, ◌<◌, ◌≤◌, true, Option, Some, None, IsSome, sym, subst, ◌∙◌, arith, inl, inr, ltb-true}
use Rattle.std.specs.Prelude.{nat_lt, ◌==◌}
use Rattle.std.proofs.lemmas.Option.{none-some, same_Some}
use Rattle.plain_table.specs.declared.events.Act.{Act}
use Rattle.plain_table.specs.declared.events.Act.TheVariants.{New, Drop, Get, Link, Take, Below, Abort, Put, Bind, Name, Look, Set, Swap, Forge, Publish, Mark, Evac, Scan, Start, Finish}
use Rattle.plain_table.specs.declared.events.Space.TheVariants.{External}
use Rattle.plain_table.specs.declared.events.Field.{Field}
use Rattle.plain_table.specs.declared.events.Field.TheVariants as field
use Rattle.plain_table.specs.declared.events.Spot.{Spot}
use Rattle.plain_table.specs.declared.events.Spot.TheVariants.{Global, Ref}
use Rattle.plain_table.specs.Index.{index_of}
use Rattle.plain_table.specs.Places.{space_of, object_of, put_at, put_pair, put_field}
use Rattle.plain_table.specs.Table.{Table, least_free}
use Rattle.plain_table.specs.Finish.{id_at}
use Rattle.plain_table.specs.Rows.{row, Holds, IsSpotOf, at_spot, with_object, with_linked, with_bound, with_unbound, object_in, free_below}
use Rattle.plain_table.specs.Sound.{ObjectsSound, IsSound}
use Rattle.table_laws.proofs.Acts.{IsNoFinish}
use Rattle.plain_table.proofs.PlaceReads.{read_at, read_pair, read_field}
use Rattle.plain_table.proofs.Branches.{if_either, if_by, with_taken_either}

-- the group, of a table
abbrev Objects : Table → Type 0
Objects s = ObjectsSound s.sizes.objects s.count s.refs s.globals s.vars s.words s.bound

module _ {most count : ℕ} {refs : ℕ → ℕ → Option ℕ} {globals : ℕ → Option ℕ} {vars : ℕ → ℕ → Option ℕ} {words : Field → ℕ} {bound : Field → Option ℕ} (h : ObjectsSound most count refs globals vars words bound) where
  -- more objects are made
  pub ObjectsSound-more : (more : ℕ) → count ≤ more → more ≤ most → ObjectsSound most more refs globals vars words bound
  ObjectsSound-more more up few = record {
    few = few;
    roots = λ g o e. let old = h.roots g o e in (old.0, omega (arith, old.1, up));
    variables = λ b v o e. let old = h.variables b v o e in (old.0, old.1, omega (arith, old.2, up));
    references = λ o k q e. let old = h.references o k q e in (omega (arith, old.0, up), old.1, omega (arith, old.2, up));
    contents = λ f e. let old = h.contents f e in (omega (arith, old.0, up), old.1);
    bindings = λ f e. let old = h.bindings f e in omega (arith, old, up);
  }

  -- what comes into a variable, a global or a reference
  pub ObjectsSound-vars : (b v : ℕ) (x : Option ℕ) → b < 8 → v < 16 → ((o : ℕ) → x ≡ Some o → o < count) →
      ObjectsSound most count refs globals (put_pair vars b v x) words bound
  ObjectsSound-vars b v x mutator var made = record {
    few = h.few;
    roots = h.roots;
    variables = λ c w o e. elim (read_pair x vars b v c w) [
      | inl r ↦ (subst (λ (n : ℕ). n < 8) r.0.0 mutator, subst (λ (n : ℕ). n < 16) r.0.1 var, made o (sym r.1 ∙ e))
      | inr r ↦ h.variables c w o (sym r.1 ∙ e)
    ];
    references = h.references;
    contents = h.contents;
    bindings = h.bindings;
  }

  pub ObjectsSound-globals : (g : ℕ) (x : Option ℕ) → g < 16 → ((o : ℕ) → x ≡ Some o → o < count) →
      ObjectsSound most count refs (put_at globals g x) vars words bound
  ObjectsSound-globals g x root made = record {
    few = h.few;
    roots = λ c o e. elim (read_at x globals g c) [
      | inl r ↦ (subst (λ (n : ℕ). n < 16) r.0 root, made o (sym r.1 ∙ e))
      | inr r ↦ h.roots c o (sym r.1 ∙ e)
    ];
    variables = h.variables;
    references = h.references;
    contents = h.contents;
    bindings = h.bindings;
  }

  pub ObjectsSound-refs : (object k : ℕ) (x : Option ℕ) → object < count → k < 4 → ((o : ℕ) → x ≡ Some o → o < count) →
      ObjectsSound most count (put_pair refs object k x) globals vars words bound
  ObjectsSound-refs object k x holder place made = record {
    few = h.few;
    roots = h.roots;
    variables = h.variables;
    references = λ o l q e. elim (read_pair x refs object k o l) [
      | inl r ↦ (subst (λ (n : ℕ). n < count) r.0.0 holder, subst (λ (n : ℕ). n < 4) r.0.1 place, made q (sym r.1 ∙ e))
      | inr r ↦ h.references o l q (sym r.1 ∙ e)
    ];
    contents = h.contents;
    bindings = h.bindings;
  }

  -- what comes into a field
  pub ObjectsSound-words : (f : Field) (w : ℕ) (x : Option ℕ) → object_of f < count → w < 2 ^ 32 →
      ObjectsSound most count refs globals vars (put_field words f w) (put_field bound f x)
  ObjectsSound-words f w x made small = record {
    few = h.few;
    roots = h.roots;
    variables = h.variables;
    references = h.references;
    contents = λ g e. elim (read_field w words f g) [
      | inl r ↦ (subst (λ (n : Field). object_of n < count) r.0 made, subst (λ (n : ℕ). n < 2 ^ 32) (sym r.1) small)
      | inr r ↦ let old = h.contents g (λ zero. e (r.1 ∙ zero)) in (old.0, subst (λ (n : ℕ). n < 2 ^ 32) (sym r.1) old.1)
    ];
    bindings = λ g e. elim (read_field x bound f g) [
      | inl r ↦ subst (λ (n : Field). object_of n < count) r.0 made
      | inr r ↦ h.bindings g (subst IsSome r.1 e)
    ];
  }

-- an object that a mutator holds is made
pub Holds-made : (s : Table) (b o : ℕ) → Objects s → Holds s b o → o < s.count
Holds-made s b o h held = (h.variables b held.0 o held.2).2

-- what stands at a spot, and in a variable, is made
pub at_spot-made : (s : Table) (spot : Spot) (o : ℕ) → Objects s → at_spot s spot ≡ Some o → o < s.count
at_spot-made s (Global g) o h e = (h.roots g o e).1
at_spot-made s (Ref object k) o h e = (h.references object k o e).2

pub object_in-made : (s : Table) (b : ℕ) (var : Option ℕ) (o : ℕ) → Objects s → object_in s b var ≡ Some o → o < s.count
object_in-made s b None o h e = absurd (none-some o e)
object_in-made s b (Some var) o h e = (h.variables b var o e).2

ObjectsSound-object : (s : Table) (b var : ℕ) → nat_lt s.count s.sizes.objects ≡ true → b < 8 → var < 16 → Objects s → Objects (with_object s b var)
ObjectsSound-object s b var e mutator place h =
    let few = ltb-true s.count s.sizes.objects e in
    ObjectsSound-vars (ObjectsSound-more h (s.count + 1) (omega arith) (omega (arith, few))) b var (Some s.count) mutator place
    (λ o is. let same : s.count ≡ o = same_Some s.count o is in omega (arith, same))

ObjectsSound-link : (s : Table) (b : ℕ) (spot : Spot) (x : Option ℕ) → IsSpotOf s b spot → ((o : ℕ) → x ≡ Some o → o < s.count) → Objects s →
    Objects (with_linked s spot x)
ObjectsSound-link s b (Global g) x k made h = ObjectsSound-globals h g x k made
ObjectsSound-link s b (Ref object n) x k made h = ObjectsSound-refs h object n x (Holds-made s b object h k.0) k.1 made

pub ObjectsSound-row : (s : Table) (b : ℕ) (a : Act) → IsSound s → (row s b a).allowed → IsNoFinish a →
    ObjectsSound (row s b a).next.sizes.objects (row s b a).next.count (row s b a).next.refs (row s b a).next.globals (row s b a).next.vars (row s b a).next.words (row s b a).next.bound
ObjectsSound-row s b (New var) h k _ =
    if_by Objects (nat_lt s.count s.sizes.objects) (with_object s b var) s
    (λ e. ObjectsSound-object s b var e k.0 k.1 h.objects) (λ e. h.objects)
ObjectsSound-row s b (Drop var) h k _ = ObjectsSound-vars h.objects b var None k.0 k.1 (λ o e. absurd (none-some o e))
ObjectsSound-row s b (Get var spot) h k _ =
    ObjectsSound-vars h.objects b var (at_spot s spot) k.0 k.1 (λ o e. at_spot-made s spot o h.objects e)
ObjectsSound-row s b (Link spot var) h k _ =
    ObjectsSound-link s b spot (object_in s b var) k.0 (λ o e. object_in-made s b var o h.objects e) h.objects
ObjectsSound-row s b (Take p) h k _ = with_taken_either Objects s b p (least_free s p) h.objects (λ i. h.objects)
ObjectsSound-row s b (Below start) h k _ = with_taken_either Objects s b External (free_below s start) h.objects (λ i. h.objects)
ObjectsSound-row s b Abort h k _ = h.objects
ObjectsSound-row s b (Put p i tag value) h k _ = h.objects
ObjectsSound-row s b (Bind f word) h k _ =
    if_either Objects (s.words f == 0) (with_bound s b f word) (with_unbound s b f word)
    (ObjectsSound-words h.objects f word (id_at s (space_of f) (index_of word)) (Holds-made s b (object_of f) h.objects k.0) k.1) h.objects
ObjectsSound-row s b (Name f) h k _ = h.objects
ObjectsSound-row s b (Look p word first last) h k _ = h.objects
ObjectsSound-row s b (Set word first last value) h k _ = h.objects
ObjectsSound-row s b (Swap word first last value) h k _ = h.objects
ObjectsSound-row s b (Forge number word) h k _ =
    ObjectsSound-words h.objects (field.External number) word None (Holds-made s b (object_of (field.External number)) h.objects k.0) k.1
ObjectsSound-row s b (Publish i) h k _ = h.objects
ObjectsSound-row s b (Mark p i) h k _ = h.objects
ObjectsSound-row s b (Evac i number) h k _ = h.objects
ObjectsSound-row s b (Scan o) h k _ = h.objects
ObjectsSound-row s b (Start policy) h k _ = h.objects
ObjectsSound-row s b Finish h k not = absurd not
