-- What views own stays after the events of others, and after own events that leave it alone.
use Rattle.std.proofs.Common.{◌≡◌, ◌≢◌, Bool, true, false, if◌then◌else◌, List, [], ◌∷◌, inl, inr, ℕ, slice_index_or, Option, Some, None, IsTrue, IsSomeAnd, refl, sym, ap, ◌∙◌, subst, arith}
use Rattle.plain_table.specs.declared.events.Event.{Event}
use Rattle.plain_table.specs.declared.events.Cell.{Cell}
use Rattle.plain_table.specs.declared.events.Space.TheVariants.{Trusted}
use Rattle.plain_table.specs.Table.{Table}
use Rattle.plain_table.specs.Words.{object_word}
use Rattle.plain_table.specs.Shows.{PendingCell, IsPending}
use Rattle.table_laws.specs.Steady.{CellsSteady, IsSteady}
use Rattle.entry_base.specs.declared.view.View.{View}
use Rattle.entry_base.specs.Lists.{Each, count_in}
use Rattle.entry_base.specs.Numbers.{HasNumber}
use Rattle.entry_base.specs.declared.view.Claim.{Claim}
use Rattle.entry_base.specs.Owns.{Owns, same_claim, without_claim}
use Rattle.entry_base.specs.Openings.{pending_cell}
use Rattle.plain_table.proofs.PlaceReads.{read_claim}
use Rattle.plain_table.specs.Places.{put_claim}
use Rattle.plain_table.specs.declared.events.Space.{Space}
use Rattle.entry_base.proofs.Sums.{each_map}

cell_pending : (o now : Option Cell) (i : ℕ) (pending : Option PendingCell)
    → ((c : Cell) → o ≡ Some c → IsSomeAnd now (λ d. (d.id ≡ c.id) × (d.tag ≡ c.tag))) → ((c : Cell) → o ≡ Some c → IsSomeAnd now (λ d. d.value ≡ c.value))
    → IsSomeAnd o (λ cell. pending ≡ Some (record { index = i; tag = cell.tag; value = cell.value }))
    → IsSomeAnd now (λ cell. pending ≡ Some (record { index = i; tag = cell.tag; value = cell.value }))
cell_pending None now i pending stay value k = absurd k
cell_pending (Some c) None i pending stay value k = absurd (stay c refl)
cell_pending (Some c) (Some d) i pending stay value k =
    let tag : d.tag ≡ c.tag = (stay c refl).1 in
    let val : d.value ≡ c.value = value c refl in
    k ∙ (λ j. Some (record { index = i; tag = sym tag j; value = sym val j }))

pub pending_stays : (s : Table) (e : Event) (t : Table) (ticket : Option ℕ) (pending : Option PendingCell) → CellsSteady s e t → IsPending s ticket pending → IsPending t ticket pending
pending_stays s e t None pending h k = k
pending_stays s e t (Some i) pending h k = cell_pending (s.cells Trusted i) (t.cells Trusted i) i pending (h.stay Trusted i) (h.values i) k

-- a number of a view is not that of another's event
apart : (u : View) (b n : ℕ) → count_in n u.numbers ≡ 0 → HasNumber u b → b ≢ n
apart u b n none has same = let e : count_in b u.numbers ≡ count_in n u.numbers = ap (λ (m : ℕ). count_in m u.numbers) same in omega arith

pub owns_other : (s : Table) (e : Event) (t : Table) (u : View) → IsSteady s e t → count_in e.by u.numbers ≡ 0 → Owns s u → Owns t u
owns_other s e t u h none k = record {
  variables = λ b i has few low. k.variables b i has few low ∙ ap object_word (sym (h.others.variables b i (apart u b e.by none has)));
  pending = λ b d has few.
      subst (λ ticket. IsPending t ticket (pending_cell (slice_index_or u.pending b d))) (sym (h.others.tickets b (apart u b e.by none has)))
      (pending_stays s e t (s.ticket b) (pending_cell (slice_index_or u.pending b d)) h.cells (k.pending b d has few));
  owed = each_map _ _ u.owed (λ x was. (was.0, h.others.owed x.number x.space x.index (apart u x.number e.by none was.0) ∙ was.1)) k.owed;
  fresh = each_map _ _ u.fresh (λ x was. (was.0, h.others.fresh x.number x.space x.index (apart u x.number e.by none was.0) ∙ was.1)) k.fresh;
}

-- an event that changes no variable, ticket, taken or filled index
pub record LeavesOwn (s t : Table) : Type 0 where
  pub vars : t.vars ≡ s.vars
  pub ticket : t.ticket ≡ s.ticket
  pub owed : t.owed ≡ s.owed
  pub fresh : t.fresh ≡ s.fresh

pub record KeepsOwn (v w : View) : Type 0 where
  pub numbers : w.numbers ≡ v.numbers
  pub vars : w.vars ≡ v.vars
  pub pending : w.pending ≡ v.pending
  pub owed : w.owed ≡ v.owed
  pub fresh : w.fresh ≡ v.fresh

pub owns_same : (s : Table) (e : Event) (t : Table) (v : View) → CellsSteady s e t → LeavesOwn s t → Owns s v → Owns t v
owns_same s e t v cells l k = record {
  variables = λ b i has few low. k.variables b i has few low ∙ ap (λ m. object_word (m b i)) (sym l.vars);
  pending = λ b d has few.
      subst (λ m. IsPending t (m b) (pending_cell (slice_index_or v.pending b d))) (sym l.ticket)
      (pending_stays s e t (s.ticket b) (pending_cell (slice_index_or v.pending b d)) cells (k.pending b d has few));
  owed = each_map _ _ v.owed (λ x was. (was.0, ap (λ m. m x.number x.space x.index) l.owed ∙ was.1)) k.owed;
  fresh = each_map _ _ v.fresh (λ x was. (was.0, ap (λ m. m x.number x.space x.index) l.fresh ∙ was.1)) k.fresh;
}

-- claims of a map that is set at one place
module _ (N : ℕ → Type 0) (f : ℕ → Space → ℕ → Bool) (b : ℕ) (p : Space) (i : ℕ) where
  pub claims_left : (ts : List Claim) → Each (λ t. N t.number × IsTrue (f t.number t.space t.index)) ts
      → Each (λ t. N t.number × IsTrue (put_claim f b p i false t.number t.space t.index)) (without_claim b p i ts)
  claims_left [] h = tt
  claims_left (t ∷ ts) h = go (same_claim b p i t) refl (claims_left ts h.1)
    where
      go : (test : Bool) → same_claim b p i t ≡ test → Each (λ t. N t.number × IsTrue (put_claim f b p i false t.number t.space t.index)) (without_claim b p i ts)
          → Each (λ t. N t.number × IsTrue (put_claim f b p i false t.number t.space t.index)) (if test then without_claim b p i ts else t ∷ without_claim b p i ts)
      go true e rest = rest
      go false e rest = ((h.0.0, ap (λ (test : Bool). if test then false else f t.number t.space t.index) e ∙ h.0.1), rest)

  pub claims_kept : (ts : List Claim) → Each (λ t. N t.number × IsTrue (f t.number t.space t.index)) ts
      → Each (λ t. N t.number × IsTrue (put_claim f b p i true t.number t.space t.index)) ts
  claims_kept ts h = each_map _ _ ts (λ t was. (was.0, elim (read_claim f b p i true t.number t.space t.index) [ inl r ↦ r.1 | inr r ↦ r.1 ∙ was.1 ])) h

  pub claim_here : IsTrue (put_claim f b p i true b p i)
  claim_here = elim (read_claim f b p i true b p i) [ inl r ↦ r.1 | inr r ↦ absurd (r.0 ((refl, refl), refl)) ]
