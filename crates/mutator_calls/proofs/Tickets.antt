-- The ticket of mutator 0 by its pending cell: the index that it may publish, and the cell that stands there.
use Rattle.std.proofs.Common.{◌≡◌, ℕ, ◌<◌, List, Option, Some, None, refl, sym, ap, subst, ◌∙◌, inl, inr, arith, get_or-set_same, get_or-set_other}
use Rattle.std.specs.Prelude.{slice_index_or, slice_set, IsSomeAnd}
use Rattle.std.specs.Option.{option_map}
use Rattle.std.proofs.Math.ListN.{get_or-map}
use Rattle.std.proofs.lemmas.Bool.Decides.{eqb_tells}
use Rattle.std.proofs.lemmas.List.{length-set}
use Rattle.std.proofs.lemmas.Option.{same_Some}
use Rattle.plain_table.specs.declared.events.Cell.{Cell}
use Rattle.plain_table.specs.declared.events.Space.TheVariants.{Trusted}
use Rattle.plain_table.specs.Places.{put_at}
use Rattle.plain_table.specs.Table.{Table}
use Rattle.plain_table.specs.Shows.{IsPending, PendingCell}
use Rattle.plain_table.proofs.Options.{IsSome-value, IsSomeAnd-is, IsSomeAnd-some}
use Rattle.plain_table.proofs.PlaceReads.{put_at-other, put_at-same}
use Rattle.entry_word.specs.declared.image.Pending.{Pending}
use Rattle.entry_word.specs.Image.{image_of, pending_of}
use Rattle.mutator_calls.specs.declared.heap.Mutator.{Mutator}
use Rattle.mutator_calls.specs.Calls.{Sees}
use Rattle.mutator_calls.proofs.Seen.{HasPending}

-- the cell that mutator 0 may publish is the pending one
pub record IsOwnPending (s : Table) (p : PendingCell) : Type 0 where
  pub ticket : s.ticket 0 ≡ Some p.index
  pub cell : Cell
  pub stands : s.cells Trusted p.index ≡ Some cell
  pub tag : p.tag ≡ cell.tag
  pub value : p.value ≡ cell.value

abbrev is_of : PendingCell → ℕ → Cell → Type 0
is_of p i cell = Some p ≡ Some (record { index = i; tag = cell.tag; value = cell.value })

IsOwnPending-some : (s : Table) (p : PendingCell) (found : Option ℕ) → s.ticket 0 ≡ found → IsPending s found (Some p) → IsOwnPending s p
IsOwnPending-some s p None is was = absurd (cc)
IsOwnPending-some s p (Some i) is was =
    let cell = IsSome-value (s.cells Trusted i) (IsSomeAnd-some (s.cells Trusted i) (is_of p i) was) in
    let same = IsSomeAnd-is (s.cells Trusted i) (is_of p i) cell.0 cell.1 was in
    let parts = same_Some p (record { index = i; tag = cell.0.tag; value = cell.0.value }) same in
    let index = ap (λ (x : PendingCell). x.index) parts in
    record {
      ticket = is ∙ ap Some (sym index);
      cell = cell.0;
      stands = ap (s.cells Trusted) index ∙ cell.1;
      tag = ap (λ (x : PendingCell). x.tag) parts;
      value = ap (λ (x : PendingCell). x.value) parts;
    }

ticket-none : (s : Table) (found : Option ℕ) → IsPending s found None → found ≡ None
ticket-none s None was = refl
ticket-none s (Some i) was = absurd (no_cell None refl (s.cells Trusted i) was)
  where
    no_cell : (pending : Option PendingCell) → pending ≡ None → (found : Option Cell) →
        IsSomeAnd found (λ cell. pending ≡ Some (record { index = i; tag = cell.tag; value = cell.value })) → ⊥
    no_cell pending none None k = k
    no_cell pending none (Some cell) k = absurd (cc)

module _ (m : Mutator) (s : Table) (h : Sees (image_of m.image) s) (d : Option Pending) where
  pending-at : IsPending s (s.ticket 0) (option_map pending_of (slice_index_or m.image.pending.items 0 d))
  pending-at =
      subst (IsPending s (s.ticket 0)) (get_or-map (option_map pending_of) m.image.pending.items 0 d)
      (h.shows.pending.1 0 (option_map pending_of d) (omega arith))

  pub IsOwnPending-shown : (x : Pending) → slice_index_or m.image.pending.items 0 d ≡ Some x → IsOwnPending s (pending_of x)
  IsOwnPending-shown x is =
      IsOwnPending-some s (pending_of x) (s.ticket 0) refl (subst (λ o. IsPending s (s.ticket 0) (option_map pending_of o)) is pending-at)

  pub no_ticket-shown : slice_index_or m.image.pending.items 0 d ≡ None → s.ticket 0 ≡ None
  no_ticket-shown is = ticket-none s (s.ticket 0) (subst (λ o. IsPending s (s.ticket 0) (option_map pending_of o)) is pending-at)

-- the pending cell of a mutator after a change of its ticket
pub HasPending-put : (pending : List (Option PendingCell)) (s : Table) (ticket : ℕ → Option ℕ) (b : ℕ) (found : Option ℕ) (p : Option PendingCell) →
    b < 8 → HasPending pending s ticket → IsPending s found p → HasPending (slice_set pending b p) s (put_at ticket b found)
HasPending-put pending s ticket b found p small was is = (length-set pending b p ∙ was.0, each)
  where
    each : (c : ℕ) (d : Option PendingCell) → c < 8 → IsPending s (put_at ticket b found c) (slice_index_or (slice_set pending b p) c d)
    each c d few = elim (eqb_tells b c) [
      | inl same ↦
          let long = was.0 in
          subst (λ k. IsPending s (put_at ticket b found k) (slice_index_or (slice_set pending b p) k d)) same.1
          (subst (λ (o : Option ℕ). IsPending s o (slice_index_or (slice_set pending b p) b d)) (sym (put_at-same ticket b found))
          (subst (IsPending s found) (sym (get_or-set_same pending b p d (omega (arith, small, long)))) is))
      | inr apart ↦
          subst (λ (o : Option ℕ). IsPending s o (slice_index_or (slice_set pending b p) c d)) (sym (put_at-other ticket b c found apart.1))
          (subst (IsPending s (ticket c)) (sym (get_or-set_other pending b c p d (λ e. apart.1 (sym e)))) (was.1 c d few))
    ]
