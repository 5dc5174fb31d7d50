-- Each legal event but a finish keeps the group of ids: the ids of all cells differ, and are those of puts.
use Rattle.std.proofs.Common.{◌≡◌, ℕ, ◌+◌, Option, Some, sym, subst, ◌∙◌, arith, inl, inr}
use Rattle.std.specs.Prelude.{nat_lt, ◌==◌}
use Rattle.std.proofs.lemmas.Option.{same_Some}
use Rattle.plain_table.specs.declared.events.Act.{Act}
use Rattle.plain_table.specs.declared.events.Act.TheVariants.{New, Drop, Get, Link, Take, Below, Abort, Put, Bind, Name, Look, Set, Swap, Forge, Publish, Mark, Evac, Scan, Start, Finish}
use Rattle.plain_table.specs.declared.events.Space.{Space}
use Rattle.plain_table.specs.declared.events.Space.TheVariants.{External}
use Rattle.plain_table.specs.Index.{index_of}
use Rattle.plain_table.specs.Places.{put_entry}
use Rattle.plain_table.specs.Table.{Table, least_free}
use Rattle.plain_table.specs.Finish.{id_at}
use Rattle.plain_table.specs.Rows.{row, with_object, with_bound, with_unbound, object_in, free_below}
use Rattle.plain_table.specs.Sound.{IdsSound, IsSound}
use Rattle.table_laws.proofs.Acts.{IsNoFinish}
use Rattle.table_laws.proofs.IdsAt.{id_at-with_cell, id_at-with_value, id_at-with_published}
use Rattle.plain_table.proofs.PlaceReads.{read_entry}
use Rattle.plain_table.proofs.Branches.{if_either, with_taken_either, with_linked_either}

-- the group, of a table
abbrev Ids : Table → Type 0
Ids s = IdsSound (id_at s) s.next

module _ {ids : Space → ℕ → Option ℕ} {next : ℕ} (h : IdsSound ids next) where
  pub IdsSound-is : (new_ids : Space → ℕ → Option ℕ) → new_ids ≡ ids → IdsSound new_ids next
  IdsSound-is new_ids e = subst (λ (x : Space → ℕ → Option ℕ). IdsSound x next) (sym e) h

  -- a cell of the next id, at any index
  pub IdsSound-put : (p : Space) (i : ℕ) → IdsSound (put_entry ids p i (Some next)) (next + 1)
  IdsSound-put p i = record {
    differ = λ q r j k n first second. elim (read_entry (Some next) ids p i q j) [
      | inl t ↦ elim (read_entry (Some next) ids p i r k) [
        | inl u ↦ (sym t.0.0 ∙ u.0.0, sym t.0.1 ∙ u.0.1)
        | inr u ↦
            let own : next ≡ n = same_Some next n (sym t.1 ∙ first) in
            let old = h.below r k n (sym u.1 ∙ second) in
            absurd (omega (arith, own, old))
      ]
      | inr t ↦ elim (read_entry (Some next) ids p i r k) [
        | inl u ↦
            let own : next ≡ n = same_Some next n (sym u.1 ∙ second) in
            let old = h.below q j n (sym t.1 ∙ first) in
            absurd (omega (arith, own, old))
        | inr u ↦ h.differ q r j k n (sym t.1 ∙ first) (sym u.1 ∙ second)
      ]
    ];
    below = λ q j n is. elim (read_entry (Some next) ids p i q j) [
      | inl t ↦ let own : next ≡ n = same_Some next n (sym t.1 ∙ is) in omega (arith, own)
      | inr t ↦ let old = h.below q j n (sym t.1 ∙ is) in omega (arith, old)
    ];
  }

pub IdsSound-row : (s : Table) (b : ℕ) (a : Act) → IsSound s → (row s b a).allowed → IsNoFinish a →
    IdsSound (id_at (row s b a).next) (row s b a).next.next
IdsSound-row s b (New var) h k _ = if_either Ids (nat_lt s.count s.sizes.objects) (with_object s b var) s h.ids h.ids
IdsSound-row s b (Drop var) h k _ = h.ids
IdsSound-row s b (Get var spot) h k _ = h.ids
IdsSound-row s b (Link spot var) h k _ = with_linked_either Ids s spot (object_in s b var) (λ g. h.ids) (λ object k. h.ids)
IdsSound-row s b (Take p) h k _ = with_taken_either Ids s b p (least_free s p) h.ids (λ i. h.ids)
IdsSound-row s b (Below start) h k _ = with_taken_either Ids s b External (free_below s start) h.ids (λ i. h.ids)
IdsSound-row s b Abort h k _ = h.ids
IdsSound-row s b (Put p i tag value) h k _ =
    subst (λ (x : Space → ℕ → Option ℕ). IdsSound x (s.next + 1)) (sym (id_at-with_cell s b p i tag value)) (IdsSound-put h.ids p i)
IdsSound-row s b (Bind f word) h k _ = if_either Ids (s.words f == 0) (with_bound s b f word) (with_unbound s b f word) h.ids h.ids
IdsSound-row s b (Name f) h k _ = h.ids
IdsSound-row s b (Look p word first last) h k _ = h.ids
IdsSound-row s b (Set word first last value) h k _ = IdsSound-is h.ids _ (id_at-with_value s (index_of word) value)
IdsSound-row s b (Swap word first last value) h k _ = IdsSound-is h.ids _ (id_at-with_value s (index_of word) value)
IdsSound-row s b (Forge number word) h k _ = h.ids
IdsSound-row s b (Publish i) h k _ = IdsSound-is h.ids _ (id_at-with_published s b i)
IdsSound-row s b (Mark p i) h k _ = h.ids
IdsSound-row s b (Evac i number) h k _ = h.ids
IdsSound-row s b (Scan o) h k _ = h.ids
IdsSound-row s b (Start policy) h k _ = h.ids
IdsSound-row s b Finish h k not = absurd not
