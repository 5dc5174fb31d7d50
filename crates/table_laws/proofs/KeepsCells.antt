-- Each legal event but a finish keeps the group of cells: each has a tag and a value of 48 bits, and each external one
-- can be seen.
use Rattle.std.proofs.Common.{◌≡◌, ℕ, ◌^◌, ◌<◌, true, Option, Some, None, IsTrue, refl, sym, subst, ◌∙◌, inl, inr}
use Rattle.std.specs.Prelude.{nat_lt, ◌==◌}
use Rattle.std.specs.Option.{ForSome, option_map}
use Rattle.std.proofs.lemmas.Option.{none-some, same_Some}
use Rattle.plain_table.specs.declared.events.Act.{Act}
use Rattle.plain_table.specs.declared.events.Act.TheVariants.{New, Drop, Get, Link, Take, Below, Abort, Put, Bind, Name, Look, Set, Swap, Forge, Publish, Mark, Evac, Scan, Start, Finish}
use Rattle.plain_table.specs.declared.events.Cell.{Cell}
use Rattle.plain_table.specs.declared.events.Space.{Space}
use Rattle.plain_table.specs.declared.events.Space.TheVariants.{External, Trusted}
use Rattle.plain_table.specs.Index.{index_of}
use Rattle.plain_table.specs.Places.{same_space, put_entry}
use Rattle.plain_table.specs.Table.{Table, least_free}
use Rattle.plain_table.specs.Rows.{row, IsTag, with_object, with_bound, with_unbound, object_in, free_below}
use Rattle.plain_table.specs.Sound.{CellsSound, IsSound}
use Rattle.table_laws.proofs.Acts.{IsNoFinish}
use Rattle.plain_table.proofs.PlaceReads.{read_entry}
use Rattle.plain_table.proofs.Branches.{if_either, with_taken_either, with_linked_either}

-- a tag, and a value of 48 bits
abbrev HasBits : Cell → Type 0
HasBits c = IsTag c.tag × (c.value < 2 ^ 48)

pub ForSome-Some : {A : Type 0} (x : A) (P : A → Type 0) → P x → ForSome (Some x) P
ForSome-Some x P h y e = subst P (same_Some x y e) h

pub ForSome-option_map : {A B : Type 0} (f : A → B) (o : Option A) (P : B → Type 0) → ForSome o (λ x. P (f x)) → ForSome (option_map f o) P
ForSome-option_map f None P h y e = absurd (none-some y e)
ForSome-option_map f (Some x) P h y e = subst P (same_Some (f x) y e) (h x refl)

pub same_space-external : (p : Space) → p ≡ External → IsTrue (same_space p External)
same_space-external p e = subst (λ (x : Space). IsTrue (same_space x External)) (sym e) refl

module _ {cells : Space → ℕ → Option Cell} (h : CellsSound cells) where
  -- what comes to an index
  pub CellsSound-put_entry : (p : Space) (i : ℕ) (found : Option Cell) → ForSome found HasBits →
      (p ≡ External → ForSome found (λ c. IsTrue c.shown)) → CellsSound (put_entry cells p i found)
  CellsSound-put_entry p i found bits seen = record {
    tags = λ q j c e. elim (read_entry found cells p i q j) [
      | inl r ↦ bits c (sym r.1 ∙ e)
      | inr r ↦ h.tags q j c (sym r.1 ∙ e)
    ];
    seen = λ j c e. elim (read_entry found cells p i External j) [
      | inl r ↦ seen r.0.0 c (sym r.1 ∙ e)
      | inr r ↦ h.seen j c (sym r.1 ∙ e)
    ];
  }

  pub CellsSound-put : (p : Space) (i id tag value : ℕ) → IsTag tag → value < 2 ^ 48 →
      CellsSound (put_entry cells p i (Some (record { id = id; tag = tag; value = value; shown = same_space p External })))
  CellsSound-put p i id tag value bits small =
      let c : Cell = record { id = id; tag = tag; value = value; shown = same_space p External } in
      CellsSound-put_entry p i (Some c) (ForSome-Some c HasBits (bits, small))
      (λ e. ForSome-Some c (λ x. IsTrue x.shown) (same_space-external p e))

  pub CellsSound-set : (i value : ℕ) → value < 2 ^ 48 →
      CellsSound (put_entry cells External i (option_map (λ (c : Cell). record c { value = value }) (cells External i)))
  CellsSound-set i value small =
      CellsSound-put_entry External i (option_map (λ (c : Cell). record c { value = value }) (cells External i))
      (ForSome-option_map (λ (c : Cell). record c { value = value }) (cells External i) HasBits (λ c e. ((h.tags External i c e).0, small)))
      (λ same. ForSome-option_map (λ (c : Cell). record c { value = value }) (cells External i) (λ c. IsTrue c.shown) (λ c e. h.seen i c e))

  pub CellsSound-publish : (i : ℕ) →
      CellsSound (put_entry cells Trusted i (option_map (λ (c : Cell). record c { shown = true }) (cells Trusted i)))
  CellsSound-publish i =
      CellsSound-put_entry Trusted i (option_map (λ (c : Cell). record c { shown = true }) (cells Trusted i))
      (ForSome-option_map (λ (c : Cell). record c { shown = true }) (cells Trusted i) HasBits (λ c e. h.tags Trusted i c e))
      (λ same. ForSome-option_map (λ (c : Cell). record c { shown = true }) (cells Trusted i) (λ c. IsTrue c.shown) (λ c e. refl))

-- the group, of a table
abbrev Cells : Table → Type 0
Cells s = CellsSound s.cells

pub CellsSound-row : (s : Table) (b : ℕ) (a : Act) → IsSound s → (row s b a).allowed → IsNoFinish a → CellsSound (row s b a).next.cells
CellsSound-row s b (New var) h k _ = if_either Cells (nat_lt s.count s.sizes.objects) (with_object s b var) s h.cells h.cells
CellsSound-row s b (Drop var) h k _ = h.cells
CellsSound-row s b (Get var spot) h k _ = h.cells
CellsSound-row s b (Link spot var) h k _ = with_linked_either Cells s spot (object_in s b var) (λ g. h.cells) (λ object k. h.cells)
CellsSound-row s b (Take p) h k _ = with_taken_either Cells s b p (least_free s p) h.cells (λ i. h.cells)
CellsSound-row s b (Below start) h k _ = with_taken_either Cells s b External (free_below s start) h.cells (λ i. h.cells)
CellsSound-row s b Abort h k _ = h.cells
CellsSound-row s b (Put p i tag value) h k _ = CellsSound-put h.cells p i s.next tag value k.1 k.2
CellsSound-row s b (Bind f word) h k _ = if_either Cells (s.words f == 0) (with_bound s b f word) (with_unbound s b f word) h.cells h.cells
CellsSound-row s b (Name f) h k _ = h.cells
CellsSound-row s b (Look p word first last) h k _ = h.cells
CellsSound-row s b (Set word first last value) h k _ = CellsSound-set h.cells (index_of word) value k.1
CellsSound-row s b (Swap word first last value) h k _ = CellsSound-set h.cells (index_of word) value k.1
CellsSound-row s b (Forge number word) h k _ = h.cells
CellsSound-row s b (Publish i) h k _ = CellsSound-publish h.cells i
CellsSound-row s b (Mark p i) h k _ = h.cells
CellsSound-row s b (Evac i number) h k _ = h.cells
CellsSound-row s b (Scan o) h k _ = h.cells
CellsSound-row s b (Start policy) h k _ = h.cells
CellsSound-row s b Finish h k not = absurd not
