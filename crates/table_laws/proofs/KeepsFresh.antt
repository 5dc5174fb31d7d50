-- Each legal event but a finish keeps the group of fresh cells: each stands at its index, and no two numbers are about
-- to bind one.
use Rattle.std.proofs.Common.{◌≡◌, ℕ, Bool, true, false, Option, Some, None, IsSome, refl, sym, subst, subst₂, ◌∙◌, true≢false, inl, inr}
use Rattle.std.specs.Prelude.{nat_lt, ◌==◌}
use Rattle.plain_table.specs.declared.events.Act.{Act}
use Rattle.plain_table.specs.declared.events.Act.TheVariants.{New, Drop, Get, Link, Take, Below, Abort, Put, Bind, Name, Look, Set, Swap, Forge, Publish, Mark, Evac, Scan, Start, Finish}
use Rattle.plain_table.specs.declared.events.Space.{Space}
use Rattle.plain_table.specs.declared.events.Space.TheVariants.{External}
use Rattle.plain_table.specs.Index.{index_of}
use Rattle.plain_table.specs.Places.{space_of, put_entry, put_claim}
use Rattle.plain_table.specs.Table.{Table, least_free}
use Rattle.plain_table.specs.Finish.{id_at}
use Rattle.plain_table.specs.Rows.{row, with_object, with_bound, with_unbound, object_in, free_below}
use Rattle.plain_table.specs.Sound.{FreshSound, IsSound}
use Rattle.table_laws.proofs.Acts.{IsNoFinish}
use Rattle.table_laws.proofs.IdsAt.{id_at-with_cell, id_at-with_value, id_at-with_published}
use Rattle.plain_table.proofs.PlaceReads.{read_entry, read_claim}
use Rattle.plain_table.proofs.Options.{IsSome-none}
use Rattle.table_laws.proofs.ClaimReads.{put_claim-was}
use Rattle.plain_table.proofs.Branches.{if_either, with_taken_either, with_linked_either}

-- the group, of a table
abbrev Fresh : Table → Type 0
Fresh s = FreshSound (id_at s) s.fresh

pub FreshSound-none : (ids : Space → ℕ → Option ℕ) → FreshSound ids (λ b p i. false)
FreshSound-none ids = record { cells = λ b p i is. absurd (true≢false (sym is)); one_fresh = λ b c p i is also. absurd (true≢false (sym is)) }

module _ {ids : Space → ℕ → Option ℕ} {fresh : ℕ → Space → ℕ → Bool} (h : FreshSound ids fresh) where
  pub FreshSound-is : (new_ids : Space → ℕ → Option ℕ) → new_ids ≡ ids → FreshSound new_ids fresh
  FreshSound-is new_ids e = subst (λ (x : Space → ℕ → Option ℕ). FreshSound x fresh) (sym e) h

  -- an index without a cell is filled
  pub FreshSound-put : (b : ℕ) (p : Space) (i n : ℕ) → ids p i ≡ None → FreshSound (put_entry ids p i (Some n)) (put_claim fresh b p i true)
  FreshSound-put b p i n bare = record {
    cells = λ c q j is. elim (read_entry (Some n) ids p i q j) [
      | inl r ↦ subst IsSome (sym r.1) refl
      | inr r ↦ elim (read_claim fresh b p i true c q j) [
        | inl t ↦ absurd (r.0 (t.0.0.1, t.0.1))
        | inr t ↦ subst IsSome (sym r.1) (h.cells c q j (sym t.1 ∙ is))
      ]
    ];
    one_fresh = λ c d q j first second. elim (read_claim fresh b p i true c q j) [
      | inl r ↦ elim (read_claim fresh b p i true d q j) [
        | inl t ↦ sym r.0.0.0 ∙ t.0.0.0
        | inr t ↦ absurd (IsSome-none (ids q j) (subst₂ (λ (x : Space) (k : ℕ). ids x k ≡ None) r.0.0.1 r.0.1 bare) (h.cells d q j (sym t.1 ∙ second)))
      ]
      | inr r ↦ elim (read_claim fresh b p i true d q j) [
        | inl t ↦ absurd (IsSome-none (ids q j) (subst₂ (λ (x : Space) (k : ℕ). ids x k ≡ None) t.0.0.1 t.0.1 bare) (h.cells c q j (sym r.1 ∙ first)))
        | inr t ↦ h.one_fresh c d q j (sym r.1 ∙ first) (sym t.1 ∙ second)
      ]
    ];
  }

  -- a fresh cell is bound, or found its field taken
  pub FreshSound-bind : (b : ℕ) (p : Space) (i : ℕ) → FreshSound ids (put_claim fresh b p i false)
  FreshSound-bind b p i = record {
    cells = λ c q j is. h.cells c q j (put_claim-was fresh b p i c q j is);
    one_fresh = λ c d q j first second.
        h.one_fresh c d q j (put_claim-was fresh b p i c q j first) (put_claim-was fresh b p i d q j second);
  }

pub FreshSound-row : (s : Table) (b : ℕ) (a : Act) → IsSound s → (row s b a).allowed → IsNoFinish a →
    FreshSound (id_at (row s b a).next) (row s b a).next.fresh
FreshSound-row s b (New var) h k _ = if_either Fresh (nat_lt s.count s.sizes.objects) (with_object s b var) s h.fresh h.fresh
FreshSound-row s b (Drop var) h k _ = h.fresh
FreshSound-row s b (Get var spot) h k _ = h.fresh
FreshSound-row s b (Link spot var) h k _ = with_linked_either Fresh s spot (object_in s b var) (λ g. h.fresh) (λ object k. h.fresh)
FreshSound-row s b (Take p) h k _ = with_taken_either Fresh s b p (least_free s p) h.fresh (λ i. h.fresh)
FreshSound-row s b (Below start) h k _ = with_taken_either Fresh s b External (free_below s start) h.fresh (λ i. h.fresh)
FreshSound-row s b Abort h k _ = h.fresh
FreshSound-row s b (Put p i tag value) h k _ =
    let empty = FreshSound-put h.fresh b p i s.next (h.used.claims b p i k.0).2 in
    subst (λ (x : Space → ℕ → Option ℕ). FreshSound x (put_claim s.fresh b p i true)) (sym (id_at-with_cell s b p i tag value)) empty
FreshSound-row s b (Bind f word) h k _ =
    if_either Fresh (s.words f == 0) (with_bound s b f word) (with_unbound s b f word)
    (FreshSound-bind h.fresh b (space_of f) (index_of word)) (FreshSound-bind h.fresh b (space_of f) (index_of word))
FreshSound-row s b (Name f) h k _ = h.fresh
FreshSound-row s b (Look p word first last) h k _ = h.fresh
FreshSound-row s b (Set word first last value) h k _ = FreshSound-is h.fresh _ (id_at-with_value s (index_of word) value)
FreshSound-row s b (Swap word first last value) h k _ = FreshSound-is h.fresh _ (id_at-with_value s (index_of word) value)
FreshSound-row s b (Forge number word) h k _ = h.fresh
FreshSound-row s b (Publish i) h k _ = FreshSound-is h.fresh _ (id_at-with_published s b i)
FreshSound-row s b (Mark p i) h k _ = h.fresh
FreshSound-row s b (Evac i number) h k _ = h.fresh
FreshSound-row s b (Scan o) h k _ = h.fresh
FreshSound-row s b (Start policy) h k _ = FreshSound-none (id_at s)
FreshSound-row s b Finish h k not = absurd not
