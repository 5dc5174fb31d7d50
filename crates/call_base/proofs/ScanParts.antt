-- Parts of scans: calls without an event, a call with one, what is done with no event, and one part after another.
use Rattle.std.proofs.Common.{◌≡◌, ◌≢◌, ℕ, ◌==◌, if◌then◌else◌, Bool, true, false, List, [], ◌∷◌, ◌++◌, refl, sym, ap, subst, ◌∙◌, arith, append_assoc, append-nil}
use Rattle.std.proofs.lemmas.Bool.Decides.{nat_tests}
use Rattle.plain_table.specs.declared.events.Event.{Event}
use Rattle.plain_table.specs.Belongs.{events_by}
use Rattle.plain_table.specs.Table.{Table}
use Rattle.plain_table.specs.History.{next, after}
use Rattle.plain_table.specs.Scans.{Scanner, Makes, Ends, Others, Make, IsReadConcurrently}
use Rattle.plain_table.proofs.CallsMade.{after-append}
use Rattle.plain_table.proofs.ScansGoOn.{Scans-append, Scans-turn}
use Rattle.entry_base.specs.declared.view.View.{View}
use Rattle.entry_base.specs.Openings.{IsBase}
use Rattle.call_base.specs.Called.{Called}
use Rattle.call_base.specs.ScanParts.{ScanPart, ScansOn, TurnsOn, any_object, scanned_by, scanned_in}
use Rattle.call_base.proofs.CallsInOrder.{called_none, called_trans}

first_is : (x e : Event) (xs : List Event) → x ∷ xs ≡ e ∷ [] → (x ≡ e) × (xs ≡ [])
first_is x e xs is = (cc, cc)

other_by : (b : ℕ) (e : Event) → (e.by == b) ≡ false → e.by ≢ b
other_by b e is same = let t : (e.by == b) ≡ true = grind (arith, nat_tests) in absurd (cc)

-- where no event of the number stands, it stays at its place
pub Scans-others : (b : ℕ) (at : Scanner) (s : Table) (es : List Event) → events_by b es ≡ [] → ScansOn b at s es at
Scans-others b at s [] none_own = Ends at s
Scans-others b at s (e ∷ es) none_own = go (e.by == b) refl none_own (λ none. Scans-others b at (next s e) es none)
  where
    go : (t : Bool) → (e.by == b) ≡ t → (if t then e ∷ events_by b es else events_by b es) ≡ [] → (events_by b es ≡ [] → ScansOn b at (next s e) es at) → ScansOn b at s (e ∷ es) at
    go true is none rest = absurd (cc)
    go false is none rest = Others at s e es at (other_by b e is) (rest none)

-- and where one stands, it makes it
abbrev MakesAt : ℕ → Event → Scanner → Scanner → Table → List Event → Type 0
MakesAt b e at to s es = (front back : List Event) → es ≡ front ++ e ∷ back → Makes IsReadConcurrently b (after s front) e at to

pub Scans-one : (b : ℕ) (e : Event) (at to : Scanner) (s : Table) (es : List Event) → events_by b es ≡ e ∷ [] → MakesAt b e at to s es → ScansOn b at s es to
Scans-one b e at to s [] one_own makes = absurd (cc)
Scans-one b e at to s (x ∷ xs) one_own makes = go (x.by == b) refl one_own (λ one on. Scans-one b e at to (next s x) xs one on)
  where
    go : (t : Bool) → (x.by == b) ≡ t → (if t then x ∷ events_by b xs else events_by b xs) ≡ e ∷ []
        → (events_by b xs ≡ e ∷ [] → MakesAt b e at to (next s x) xs → ScansOn b at (next s x) xs to) → ScansOn b at s (x ∷ xs) to
    go true is one rest =
        let parts = first_is x e (events_by b xs) one in
        Make at to s x xs to (grind (arith, nat_tests))
        (subst (λ y. Makes IsReadConcurrently b s y at to) (sym parts.0) (makes [] xs (ap (λ y. y ∷ xs) parts.0)))
        (Scans-others b to (next s x) xs parts.1)
    go false is one rest = Others at s x xs to (other_by b x is) (rest one (λ front back at_front. makes (x ∷ front) back (ap (λ ys. x ∷ ys) at_front)))

pub scanned_in-append : (es fs : List Event) → scanned_in (es ++ fs) ≡ scanned_in es ++ scanned_in fs
scanned_in-append [] fs = refl
scanned_in-append (e ∷ es) fs = ap (λ l. scanned_by e.act ++ l) (scanned_in-append es fs) ∙ sym (append_assoc (scanned_by e.act) (scanned_in es) (scanned_in fs))

-- no call, a call without an event, and one with an event
pub part_none : (v : View) (at : Scanner) → ScanPart v at v at []
part_none v at = record { own = []; called = called_none v; scanned = refl; grown = []; seen = sym (append-nil v.seen); scans = λ b base. Ends at (after b v.seen) }

pub part_still : (v w : View) (at : Scanner) → Called v [] w → ScanPart v at w at []
part_still v w at c = record { own = []; called = c; scanned = refl; grown = c.grown; seen = c.seen; scans = λ b base. Scans-others v.number at (after b v.seen) c.grown c.mine }

pub part_event : (v w : View) (e : Event) (at to : Scanner) (c : Called v (e ∷ []) w)
    → ((front back : List Event) → w.seen ≡ (v.seen ++ front) ++ e ∷ back → (b : Table) → IsBase v.opening b → Makes IsReadConcurrently v.number (after b (v.seen ++ front)) e at to)
    → ScanPart v at w to (scanned_by e.act)
part_event v w e at to c makes = record {
  own = e ∷ [];
  called = c;
  scanned = append-nil (scanned_by e.act);
  grown = c.grown;
  seen = c.seen;
  scans = λ b base. Scans-one v.number e at to (after b v.seen) c.grown c.mine (λ front back is.
      subst (λ t. Makes IsReadConcurrently v.number t e at to) (after-append b v.seen front)
      (makes front back (c.seen ∙ (ap (λ l. v.seen ++ l) is ∙ sym (append_assoc v.seen front (e ∷ back)))) b base));
}

pub part_trans : (u v w : View) (at mid to : Scanner) (done more : List ℕ) → ScanPart u at v mid done → ScanPart v mid w to more → ScanPart u at w to (done ++ more)
part_trans u v w at mid to done more a b = record {
  own = a.own ++ b.own;
  called = called_trans u v w a.own b.own a.called b.called;
  scanned = scanned_in-append a.own b.own ∙ (ap (λ l. l ++ scanned_in b.own) a.scanned ∙ ap (λ l. done ++ l) b.scanned);
  grown = a.grown ++ b.grown;
  seen = b.seen ∙ (ap (λ l. l ++ b.grown) a.seen ∙ append_assoc u.seen a.grown b.grown);
  scans = λ t base. Scans-append any_object IsReadConcurrently u.number at mid to (after t u.seen) a.grown b.grown (a.scans t base)
      (subst (λ x. ScansOn u.number mid x b.grown to) (ap (after t) a.seen ∙ after-append t u.seen a.grown)
      (subst (λ n. ScansOn n mid (after t v.seen) b.grown to) a.called.same.number (b.scans t (subst (λ o. IsBase o t) (sym a.called.same.opening) base))));
}

-- what the number does with no event at the end
pub part_turn : (v w : View) (at mid to : Scanner) (done : List ℕ) → ScanPart v at w mid done → ((b : Table) → IsBase v.opening b → TurnsOn (after b w.seen) mid to) → ScanPart v at w to done
part_turn v w at mid to done a turns = record {
  own = a.own;
  called = a.called;
  scanned = a.scanned;
  grown = a.grown;
  seen = a.seen;
  scans = λ b base. Scans-turn any_object IsReadConcurrently v.number at mid to (after b v.seen) a.grown (a.scans b base)
      (subst (λ t. TurnsOn t mid to) (ap (after b) a.seen ∙ after-append b v.seen a.grown) (turns b base));
}
