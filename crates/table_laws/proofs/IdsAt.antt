-- The ids of the cells after an event: a put has a new one at its index, and a store and a publish leave all as they are.
use Rattle.std.proofs.Common.{◌≡◌, ℕ, ◌==◌, true, Option, Some, refl, sym, ap, ap₂, ◌∙◌, subst, inl, inr, is_some, IsSome, None}
use Rattle.std.specs.Prelude.{◌&&◌}
use Rattle.std.specs.Option.{option_map}
use Rattle.plain_table.specs.declared.events.Cell.{Cell}
use Rattle.plain_table.specs.declared.events.Space.{Space}
use Rattle.plain_table.specs.declared.events.Space.TheVariants.{External, Trusted}
use Rattle.plain_table.specs.Places.{same_space, put_entry}
use Rattle.plain_table.specs.Table.{Table}
use Rattle.plain_table.specs.Finish.{id_at}
use Rattle.plain_table.specs.Rows.{with_cell, with_value, with_published}
use Rattle.plain_table.proofs.PlaceReads.{Read, read_entry}
use Rattle.plain_table.proofs.Options.{IsSome-none, option_map-if, option_map-same}

-- a cell changed at an index, but for its id
id_at-changed : (s : Table) (p : Space) (i : ℕ) (change : Cell → Cell) → ((c : Cell) → (change c).id ≡ c.id) → (q : Space) (j : ℕ) →
    option_map (λ (cell : Cell). cell.id) (put_entry s.cells p i (option_map change (s.cells p i)) q j) ≡ id_at s q j
id_at-changed s p i change same q j = elim (read_entry (option_map change (s.cells p i)) s.cells p i q j) [
  | inl r ↦ ap (option_map (λ (cell : Cell). cell.id)) r.1
      ∙ option_map-same (λ (cell : Cell). cell.id) change (s.cells p i) same ∙ ap₂ (id_at s) r.0.0 r.0.1
  | inr r ↦ ap (option_map (λ (cell : Cell). cell.id)) r.1
]

pub id_at-with_value : (s : Table) (i value : ℕ) → id_at (with_value s i value) ≡ id_at s
id_at-with_value s i value = λ t q j. id_at-changed s External i (λ c. record c { value = value }) (λ c. refl) q j t

pub id_at-with_published : (s : Table) (b i : ℕ) → id_at (with_published s b i) ≡ id_at s
id_at-with_published s b i = λ t q j. id_at-changed s Trusted i (λ c. record c { shown = true }) (λ c. refl) q j t

module _ (s : Table) (b : ℕ) (p : Space) (i tag value : ℕ) where
  pub id_at-with_cell : id_at (with_cell s b p i tag value) ≡ put_entry (id_at s) p i (Some s.next)
  id_at-with_cell =
      λ t q j. option_map-if (λ (cell : Cell). cell.id) (same_space p q && (i == j))
      (Some (record { id = s.next; tag = tag; value = value; shown = same_space p External })) (s.cells q j) t

  -- the same at any place
  pub read_id_at-with_cell : (q : Space) (j : ℕ) → Read ((p ≡ q) × (i ≡ j)) (id_at (with_cell s b p i tag value) q j) (Some s.next) (id_at s q j)
  read_id_at-with_cell q j =
      subst (λ (ids : Space → ℕ → Option ℕ). Read ((p ≡ q) × (i ≡ j)) (ids q j) (Some s.next) (id_at s q j)) (sym id_at-with_cell)
      (read_entry (Some s.next) (id_at s) p i q j)

  -- an id stays after a put into an empty index
  pub id_at-with_cell-stays : id_at s p i ≡ None → (q : Space) (j n : ℕ) → id_at s q j ≡ Some n → id_at (with_cell s b p i tag value) q j ≡ Some n
  id_at-with_cell-stays empty q j n e = elim (read_id_at-with_cell q j) [
    | inl r ↦ absurd (IsSome-none (id_at s q j) (sym (ap₂ (id_at s) r.0.0 r.0.1) ∙ empty) (ap is_some e))
    | inr r ↦ r.1 ∙ e
  ]

  -- a cell stands at the index, and where one was
  pub id_at-with_cell-here : IsSome (id_at (with_cell s b p i tag value) p i)
  id_at-with_cell-here = elim (read_id_at-with_cell p i) [ inl r ↦ ap is_some r.1 | inr r ↦ absurd (r.0 (refl, refl)) ]

  pub id_at-with_cell-was : (q : Space) (j : ℕ) → IsSome (id_at s q j) → IsSome (id_at (with_cell s b p i tag value) q j)
  id_at-with_cell-was q j h = elim (read_id_at-with_cell q j) [ inl r ↦ ap is_some r.1 | inr r ↦ ap is_some r.1 ∙ h ]
