-- After each event the objects of a cycle are made, none is both old and born, only old ones are scanned, and what a
-- variable, a global or a reference of one of them holds is one of them.
use Rattle.std.proofs.Common.{◌≡◌, ◌≢◌, ◌⊎◌, ℕ, ◌+◌, ◌<◌, ◌==◌, nat_lt, Bool, true, Option, Some, None, IsTrue, IfSome, refl, ◌∙◌, sym, subst, inl, inr, arith}
use Rattle.std.proofs.lemmas.Option.{IfSome_then}
use Rattle.plain_table.specs.declared.scripts.Policy.{Policy}
use Rattle.plain_table.specs.declared.events.Act.{Act}
use Rattle.plain_table.specs.declared.events.Act.TheVariants.{New, Drop, Get, Link, Take, Below, Bind, Name, Look, Scan, Start, Finish}
use Rattle.plain_table.specs.declared.events.Space.TheVariants.{External}
use Rattle.plain_table.specs.declared.events.Spot.{Spot}
use Rattle.plain_table.specs.declared.events.Spot.TheVariants.{Global, Ref}
use Rattle.plain_table.specs.Places.{put_at, put_pair}
use Rattle.plain_table.specs.Reachable.{By_global, By_variable, By_reference}
use Rattle.plain_table.specs.Cycle.{Cycle, IsOld, scanned_in}
use Rattle.plain_table.specs.Table.{Table, least_free}
use Rattle.plain_table.specs.Finish.{IsReachable, CanFinish, started}
use Rattle.plain_table.specs.Rows.{IsSpotOf, at_spot, object_in, free_below, with_object, with_bound, with_unbound, with_linked, row}
use Rattle.plain_table.specs.Sound.{IsSound, CycleSound, TracedSound}
use Rattle.plain_table.proofs.PlaceReads.{read_at, read_pair, put_at-same, put_at-grows}
use Rattle.plain_table.proofs.CycleParts.{IfSome-and, IfSome-changed, IfSome-changed_by, IfSome-finished}
use Rattle.plain_table.proofs.Branches.{if_either, with_taken_either}

-- the objects of a cycle, for a table
abbrev pub TracedIn : Table → Cycle → Type 0
TracedIn s c = TracedSound s.count (IsOld c) c.born c.scans s.refs s.globals s.vars

TracedIn-same : (s : Table) (cycle : Option Cycle) → IfSome cycle (CycleSound s) → IfSome cycle (TracedIn s)
TracedIn-same s cycle h = IfSome_then cycle h (λ c d. d.traced)

module _ (count : ℕ) (old : ℕ → Type 0) (born scans : ℕ → Bool) (refs : ℕ → ℕ → Option ℕ) (globals : ℕ → Option ℕ) (vars : ℕ → ℕ → Option ℕ) where
  -- the next object is born, and a variable holds it
  TracedSound-born : (b v : ℕ) → ((k q : ℕ) → refs count k ≢ Some q) → TracedSound count old born scans refs globals vars →
      TracedSound (count + 1) old (put_at born count true) scans refs globals (put_pair vars b v (Some count))
  TracedSound-born b v none h =
      let more = λ (o : ℕ) (held : old o ⊎ IsTrue (born o)).
      let now : old o ⊎ IsTrue (put_at born count true o) = elim held [ inl is ↦ inl is | inr is ↦ inr (put_at-grows born count o is) ] in now
      in record {
        apart = λ o is. elim (read_at true born count o) [
          | inl r ↦ let below : o < count = h.made o (inl is) in let same : count ≡ o = r.0 in absurd (omega arith)
          | inr r ↦ r.1 ∙ h.apart o is
        ];
        made = λ o held. elim held [
          | inl is ↦ let below : o < count = h.made o (inl is) in omega arith
          | inr is ↦ elim (read_at true born count o) [
            | inl r ↦ let same : count ≡ o = r.0 in omega arith
            | inr r ↦ let below : o < count = h.made o (inr (sym r.1 ∙ is)) in omega arith
          ]
        ];
        scanned = h.scanned;
        roots = λ g o e. more o (h.roots g o e);
        variables = λ c u o e. elim (read_pair (Some count) vars b v c u) [
          | inl r ↦ let same : count ≡ o = cc in inr (subst (λ (x : ℕ). IsTrue (put_at born count true x)) same (put_at-same born count true))
          | inr r ↦ more o (h.variables c u o (sym r.1 ∙ e))
        ];
        references = λ o k q held e. elim held [
          | inl is ↦ more q (h.references o k q (inl is) e)
          | inr is ↦ elim (read_at true born count o) [
            | inl r ↦ absurd (none k q (subst (λ (x : ℕ). refs x k ≡ Some q) (sym r.0) e))
            | inr r ↦ more q (h.references o k q (inr (sym r.1 ∙ is)) e)
          ]
        ];
      }

  -- a variable, a global or a reference that holds nothing or such an object
  TracedSound-held : (b v : ℕ) (x : Option ℕ) → ((o : ℕ) → x ≡ Some o → old o ⊎ IsTrue (born o)) → TracedSound count old born scans refs globals vars →
      TracedSound count old born scans refs globals (put_pair vars b v x)
  TracedSound-held b v x held h = record {
    apart = h.apart;
    made = h.made;
    scanned = h.scanned;
    roots = h.roots;
    variables = λ c u o e. elim (read_pair x vars b v c u) [ inl r ↦ held o (sym r.1 ∙ e) | inr r ↦ h.variables c u o (sym r.1 ∙ e) ];
    references = h.references;
  }

  TracedSound-root : (g : ℕ) (x : Option ℕ) → ((o : ℕ) → x ≡ Some o → old o ⊎ IsTrue (born o)) → TracedSound count old born scans refs globals vars →
      TracedSound count old born scans refs (put_at globals g x) vars
  TracedSound-root g x held h = record {
    apart = h.apart;
    made = h.made;
    scanned = h.scanned;
    roots = λ j o e. elim (read_at x globals g j) [ inl r ↦ held o (sym r.1 ∙ e) | inr r ↦ h.roots j o (sym r.1 ∙ e) ];
    variables = h.variables;
    references = h.references;
  }

  TracedSound-linked : (object i : ℕ) (x : Option ℕ) → ((o : ℕ) → x ≡ Some o → old o ⊎ IsTrue (born o)) → TracedSound count old born scans refs globals vars →
      TracedSound count old born scans (put_pair refs object i x) globals vars
  TracedSound-linked object i x held h = record {
    apart = h.apart;
    made = h.made;
    scanned = h.scanned;
    roots = h.roots;
    variables = h.variables;
    references = λ o k q is e. elim (read_pair x refs object i o k) [ inl r ↦ held q (sym r.1 ∙ e) | inr r ↦ h.references o k q is (sym r.1 ∙ e) ];
  }

  TracedSound-scanned : (o : ℕ) → old o → TracedSound count old born scans refs globals vars →
      TracedSound count old born (put_at scans o true) refs globals vars
  TracedSound-scanned o is h = record {
    apart = h.apart;
    made = h.made;
    scanned = λ j marked. elim (read_at true scans o j) [ inl r ↦ subst old r.0 is | inr r ↦ h.scanned j (sym r.1 ∙ marked) ];
    roots = h.roots;
    variables = h.variables;
    references = h.references;
  }

TracedIn-object : (s : Table) (b var : ℕ) → IsSound s → IfSome (with_object s b var).cycle (TracedIn (with_object s b var))
TracedIn-object s b var h =
    IfSome-changed (TracedIn (with_object s b var)) s.cycle h.cycle
    (λ c d. TracedSound-born s.count (IsOld c) c.born c.scans s.refs s.globals s.vars b var
    (λ k q e. let below : s.count < s.count = (h.objects.references s.count k q e).0 in omega arith) d.traced)

-- what stands at a spot of a number, and what one of its variables holds
at_spot-held : (s : Table) (b : ℕ) (spot : Spot) (c : Cycle) → IsSpotOf s b spot → TracedIn s c → (o : ℕ) → at_spot s spot ≡ Some o → IsOld c o ⊎ IsTrue (c.born o)
at_spot-held s b (Global g) c k h o e = h.roots g o e
at_spot-held s b (Ref object i) c k h o e = h.references object i o (h.variables b k.0.0 object k.0.2) e

object_in-held : (s : Table) (b : ℕ) (var : Option ℕ) (c : Cycle) → TracedIn s c → (o : ℕ) → object_in s b var ≡ Some o → IsOld c o ⊎ IsTrue (c.born o)
object_in-held s b None c h o e = absurd (cc)
object_in-held s b (Some var) c h o e = h.variables b var o e

TracedIn-link : (s : Table) (b : ℕ) (spot : Spot) (var : Option ℕ) → IsSound s →
    IfSome (with_linked s spot (object_in s b var)).cycle (TracedIn (with_linked s spot (object_in s b var)))
TracedIn-link s b (Global g) var h =
    IfSome_then s.cycle h.cycle
    (λ c d. TracedSound-root s.count (IsOld c) c.born c.scans s.refs s.globals s.vars g (object_in s b var) (object_in-held s b var c d.traced) d.traced)
TracedIn-link s b (Ref object i) var h =
    IfSome_then s.cycle h.cycle
    (λ c d. TracedSound-linked s.count (IsOld c) c.born c.scans s.refs s.globals s.vars object i (object_in s b var) (object_in-held s b var c d.traced) d.traced)

-- each reachable object is made
pub IsReachable-made : (s : Table) → IsSound s → (o : ℕ) → IsReachable s o → o < s.count
IsReachable-made s h _ (By_global g o e) = (h.objects.roots g o e).1
IsReachable-made s h _ (By_variable b v o e) = (h.objects.variables b v o e).2
IsReachable-made s h _ (By_reference o k q r e) = (h.objects.references o k q e).2

TracedIn-start : (s : Table) (policy : Policy) → IsSound s → IfSome (started s policy).cycle (TracedIn (started s policy))
TracedIn-start s policy h = record {
  apart = λ o is. refl;
  made = λ o held. elim held [ inl is ↦ IsReachable-made s h o is | inr is ↦ absurd (cc) ];
  scanned = λ o is. absurd (cc);
  roots = λ g o e. inl (By_global g o e);
  variables = λ b v o e. inl (By_variable b v o e);
  references = λ o k q held e. elim held [ inl is ↦ inl (By_reference o k q is e) | inr is ↦ absurd (cc) ];
}

TracedIn-scan : (s : Table) (o : ℕ) → IsSound s → IfSome s.cycle (λ c. IsOld c o) → IfSome (scanned_in s.cycle o) (TracedIn s)
TracedIn-scan s o h is =
    IfSome-changed_by (TracedIn s) s.cycle h.cycle is
    (λ c d old. TracedSound-scanned s.count (IsOld c) c.born c.scans s.refs s.globals s.vars o old d.traced)

-- after any event
pub TracedIn-next : (s : Table) (b : ℕ) (a : Act) → IsSound s → (row s b a).allowed → IfSome (row s b a).next.cycle (TracedIn (row s b a).next)
TracedIn-next s b (New var) h k =
    if_either (λ t. IfSome t.cycle (TracedIn t)) (nat_lt s.count s.sizes.objects) (with_object s b var) s
    (TracedIn-object s b var h) (TracedIn-same s s.cycle h.cycle)
TracedIn-next s b (Drop var) h k =
    IfSome_then s.cycle h.cycle
    (λ c d. TracedSound-held s.count (IsOld c) c.born c.scans s.refs s.globals s.vars b var None (λ o e. absurd (cc)) d.traced)
TracedIn-next s b (Get var spot) h k =
    IfSome_then s.cycle h.cycle
    (λ c d. TracedSound-held s.count (IsOld c) c.born c.scans s.refs s.globals s.vars b var (at_spot s spot) (at_spot-held s b spot c k.2 d.traced) d.traced)
TracedIn-next s b (Link spot var) h k = TracedIn-link s b spot var h
TracedIn-next s b (Take p) h k =
    with_taken_either (λ t. IfSome t.cycle (TracedIn t)) s b p (least_free s p)
    (TracedIn-same s s.cycle h.cycle) (λ i. TracedIn-same s s.cycle h.cycle)
TracedIn-next s b (Below start) h k =
    with_taken_either (λ t. IfSome t.cycle (TracedIn t)) s b External (free_below s start)
    (TracedIn-same s s.cycle h.cycle) (λ i. TracedIn-same s s.cycle h.cycle)
TracedIn-next s b (Bind f w) h k =
    if_either (λ t. IfSome t.cycle (TracedIn t)) (s.words f == 0) (with_bound s b f w) (with_unbound s b f w)
    (IfSome-changed (TracedIn s) s.cycle h.cycle (λ c d. d.traced)) (TracedIn-same s s.cycle h.cycle)
TracedIn-next s b (Name f) h k = TracedIn-same s s.cycle h.cycle
TracedIn-next s b (Look p w first last) h k = TracedIn-same s s.cycle h.cycle
TracedIn-next s b (Scan o) h k = TracedIn-scan s o h (IfSome-and s.cycle k (λ c d. d.0))
TracedIn-next s b (Start policy) h k = TracedIn-start s policy h
TracedIn-next s b Finish h k = IfSome-finished (CanFinish s) _ s s.cycle k.1
-- all others leave the objects of the cycle alone
TracedIn-next s b _ h k = IfSome-changed (TracedIn s) s.cycle h.cycle (λ c d. d.traced)
