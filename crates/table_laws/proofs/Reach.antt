-- Reach: an object that can be reached after an event could be reached before it, or was made by it.
use Rattle.std.proofs.Common.{◌≡◌, ◌⊎◌, ◌<◌, ◌==◌, ℕ, Bool, true, false, Option, Some, None, refl, sym, ap, ◌∙◌, subst, inl, inr, nat_lt, if◌then◌else◌, arith}
use Rattle.plain_table.specs.declared.events.Act.{Act}
use Rattle.plain_table.specs.declared.events.Act.TheVariants.{New, Drop, Get, Link, Take, Below, Abort, Put, Bind, Name, Look, Set, Swap, Forge, Publish, Mark, Evac, Scan, Start, Finish}
use Rattle.plain_table.specs.declared.events.Space.TheVariants.{External}
use Rattle.plain_table.specs.declared.events.Spot.{Spot}
use Rattle.plain_table.specs.declared.events.Spot.TheVariants.{Global, Ref}
use Rattle.plain_table.specs.declared.reports.Reply.TheVariants as reply
use Rattle.plain_table.specs.Places.{put_at, put_pair}
use Rattle.plain_table.specs.Reachable.{Reaches, By_global, By_variable, By_reference}
use Rattle.plain_table.specs.Table.{Table, least_free}
use Rattle.plain_table.specs.Finish.{IsReachable}
use Rattle.plain_table.specs.Rows.{row, IsSpotOf, at_spot, object_in, with_object, with_bound, with_unbound, with_linked, free_below}
use Rattle.plain_table.specs.Sound.{IsSound}
use Rattle.table_laws.specs.Laws.{ReachOnlyGrowsByNew}
use Rattle.plain_table.proofs.PlaceReads.{read_at, read_pair}
use Rattle.plain_table.proofs.Branches.{if_either, with_taken_either, finished_in_either}

-- what holds of the roots, and goes from an object to what its references hold, holds of all that can be reached
pub Reaches-fold : {refs : ℕ → ℕ → Option ℕ} {globals : ℕ → Option ℕ} {vars : ℕ → ℕ → Option ℕ} (P : ℕ → Type 0) (o : ℕ) → Reaches refs globals vars o →
    ((g q : ℕ) → globals g ≡ Some q → P q) → ((b v q : ℕ) → vars b v ≡ Some q → P q) → ((m k q : ℕ) → P m → refs m k ≡ Some q → P q) → P o
Reaches-fold P _ (By_global g o e) roots variables references = roots g o e
Reaches-fold P _ (By_variable b v o e) roots variables references = variables b v o e
Reaches-fold P _ (By_reference m k o r e) roots variables references = references m k o (Reaches-fold P m r roots variables references) e

module _ (refs : ℕ → ℕ → Option ℕ) (globals : ℕ → Option ℕ) (vars : ℕ → ℕ → Option ℕ) where
  -- a variable gets what could be reached
  pub Reaches-put_variable : (b var : ℕ) (x : Option ℕ) → ((o : ℕ) → x ≡ Some o → Reaches refs globals vars o) →
      (o : ℕ) → Reaches refs globals (put_pair vars b var x) o → Reaches refs globals vars o
  Reaches-put_variable b var x known o r =
      Reaches-fold (Reaches refs globals vars) o r By_global
      (λ c v q e. elim (read_pair x vars b var c v) [ inl r ↦ known q (sym r.1 ∙ e) | inr r ↦ By_variable c v q (sym r.1 ∙ e) ])
      By_reference

  -- a global gets what could be reached
  pub Reaches-put_global : (g : ℕ) (x : Option ℕ) → ((o : ℕ) → x ≡ Some o → Reaches refs globals vars o) →
      (o : ℕ) → Reaches refs (put_at globals g x) vars o → Reaches refs globals vars o
  Reaches-put_global g x known o r =
      Reaches-fold (Reaches refs globals vars) o r
      (λ h q e. elim (read_at x globals g h) [ inl r ↦ known q (sym r.1 ∙ e) | inr r ↦ By_global h q (sym r.1 ∙ e) ])
      By_variable By_reference

  -- a reference gets what could be reached
  pub Reaches-put_reference : (m k : ℕ) (x : Option ℕ) → ((o : ℕ) → x ≡ Some o → Reaches refs globals vars o) →
      (o : ℕ) → Reaches (put_pair refs m k x) globals vars o → Reaches refs globals vars o
  Reaches-put_reference m k x known o r =
      Reaches-fold (Reaches refs globals vars) o r By_global By_variable
      (λ n j q before e. elim (read_pair x refs m k n j) [
        | inl r ↦ known q (sym r.1 ∙ e)
        | inr r ↦ By_reference n j q before (sym r.1 ∙ e)
      ])

  -- a variable gets a new object, which has no reference yet
  pub Reaches-put_object : (b var n : ℕ) → ((k q : ℕ) → refs n k ≡ Some q → ⊥) →
      (o : ℕ) → Reaches refs globals (put_pair vars b var (Some n)) o → Reaches refs globals vars o ⊎ (n ≡ o)
  Reaches-put_object b var n bare o r =
      Reaches-fold (λ q. Reaches refs globals vars q ⊎ (n ≡ q)) o r (λ g q e. inl (By_global g q e))
      (λ c v q e. elim (read_pair (Some n) vars b var c v) [ inl r ↦ inr (cc) | inr r ↦ inl (By_variable c v q (sym r.1 ∙ e)) ])
      (λ m k q before e. elim before [
        | inl r ↦ inl (By_reference m k q r e)
        | inr is ↦ absurd (bare k q (subst (λ (x : ℕ). refs x k ≡ Some q) (sym is) e))
      ])

-- what stands at a place that a number may read can be reached
pub IsReachable-at_spot : (s : Table) (b : ℕ) (spot : Spot) → IsSpotOf s b spot → (o : ℕ) → at_spot s spot ≡ Some o → IsReachable s o
IsReachable-at_spot s b (Global g) k o e = By_global g o e
IsReachable-at_spot s b (Ref m j) ((v, under, held), _) o e = By_reference m j o (By_variable b v m held) e

-- what a variable holds can be reached
pub IsReachable-object_in : (s : Table) (b : ℕ) (var : Option ℕ) (o : ℕ) → object_in s b var ≡ Some o → IsReachable s o
IsReachable-object_in s b None o e = absurd (cc)
IsReachable-object_in s b (Some v) o e = By_variable b v o e

-- what a link leaves reachable could be reached
pub IsReachable-linked : (s : Table) (spot : Spot) (x : Option ℕ) → ((o : ℕ) → x ≡ Some o → IsReachable s o) → (o : ℕ) → IsReachable (with_linked s spot x) o → IsReachable s o
IsReachable-linked s (Global g) x known o r = Reaches-put_global s.refs s.globals s.vars g x known o r
IsReachable-linked s (Ref m k) x known o r = Reaches-put_reference s.refs s.globals s.vars m k x known o r

-- after a new object, with the test whether there is room for it
IsReachable-new : (s : Table) (b var : ℕ) (test : Bool) → IsSound s → (o : ℕ) → IsReachable (if test then with_object s b var else s) o →
    IsReachable s o ⊎ ((if test then reply.Obj s.count else reply.HeapFull) ≡ reply.Obj o)
IsReachable-new s b var false h o r = inl r
IsReachable-new s b var true h o r =
    elim (Reaches-put_object s.refs s.globals s.vars b var s.count (λ k q e. let less : s.count < s.count = (h.objects.references s.count k q e).0 in omega arith) o r) [
      | inl before ↦ inl before
      | inr is ↦ inr (ap reply.Obj is)
    ]

-- an act made the object
abbrev pub IsMadeBy : Table → ℕ → Act → ℕ → Type 0
IsMadeBy s b a o = (var : ℕ) × (a ≡ New var) × ((row s b a).reply ≡ reply.Obj o)

pub reached-row : (s : Table) (b : ℕ) (a : Act) → IsSound s → (row s b a).allowed → (o : ℕ) → IsReachable (row s b a).next o → IsReachable s o ⊎ IsMadeBy s b a o
reached-row s b (New var) h k o r = elim (IsReachable-new s b var (nat_lt s.count s.sizes.objects) h o r) [
  | inl before ↦ inl before
  | inr is ↦ inr (var, refl, is)
]
reached-row s b (Drop var) h k o r = inl (Reaches-put_variable s.refs s.globals s.vars b var None (λ q e. absurd (cc)) o r)
reached-row s b (Get var spot) h k o r =
    inl (Reaches-put_variable s.refs s.globals s.vars b var (at_spot s spot) (IsReachable-at_spot s b spot k.2) o r)
reached-row s b (Link spot var) h k o r = inl (IsReachable-linked s spot (object_in s b var) (IsReachable-object_in s b var) o r)
reached-row s b (Take p) h k o r =
    inl (with_taken_either (λ t. IsReachable t o → IsReachable s o) s b p (least_free s p) (λ q. q) (λ i q. q) r)
reached-row s b (Below start) h k o r =
    inl (with_taken_either (λ t. IsReachable t o → IsReachable s o) s b External (free_below s start) (λ q. q) (λ i q. q) r)
reached-row s b Abort h k o r = inl r
reached-row s b (Put p i tag value) h k o r = inl r
reached-row s b (Bind f w) h k o r =
    inl (if_either (λ t. IsReachable t o → IsReachable s o) (s.words f == 0) (with_bound s b f w) (with_unbound s b f w) (λ q. q) (λ q. q) r)
reached-row s b (Name f) h k o r = inl r
reached-row s b (Look p w first last) h k o r = inl r
reached-row s b (Set w first last value) h k o r = inl r
reached-row s b (Swap w first last value) h k o r = inl r
reached-row s b (Forge number w) h k o r = inl r
reached-row s b (Publish i) h k o r = inl r
reached-row s b (Mark p i) h k o r = inl r
reached-row s b (Evac i number) h k o r = inl r
reached-row s b (Scan m) h k o r = inl r
reached-row s b (Start policy) h k o r = inl r
reached-row s b Finish h k o r =
    inl (finished_in_either (λ t. IsReachable t o → IsReachable s o) s s.cycle (λ q. q) (λ c q. q) r)

pub reached-before : ReachOnlyGrowsByNew
reached-before s e o h legal r = elim (reached-row s e.by e.act h legal.0 o r) [
  | inl before ↦ inl before
  | inr made ↦ inr (made.0, made.1, legal.1 ∙ made.2)
]
