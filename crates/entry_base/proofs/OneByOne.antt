-- One step after another: what contracts say of views goes on, and a caller stays one.
use Rattle.std.proofs.Common.{◌≡◌, ℕ, zero, suc, ◌+◌, ◌*◌, ◌<◌, ◌≤◌, List, [], ◌∷◌, Option, Some, None, IfSome, set, slice_index, slice_index_or, sym, ap, subst, ◌∙◌, arith}
use Rattle.plain_table.specs.declared.events.Event.{Event}
use Rattle.entry_word.specs.declared.image.Pending.{Pending}
use Rattle.entry_base.specs.declared.view.View.{View}
use Rattle.entry_base.specs.Lists.{count_in}
use Rattle.entry_base.specs.Numbers.{IsQuiet}
use Rattle.entry_base.specs.declared.view.Opening.{Opening}
use Rattle.entry_base.specs.Callers.{AreVariables, ArePublishable, AreWithin, IsCaller, IsPublishable, SameCaller, SameOwn}
use Rattle.entry_base.specs.Histories.{IsPhaseHistory}
use Rattle.entry_base.specs.Openings.{sizes_in}
use Rattle.entry_base.specs.Owns.{HoldsIn}
use Rattle.entry_base.specs.Sessions.{pending_in}
use Rattle.entry_base.proofs.Sums.{each_has, each_map, has_count}

pub same_trans : (u v w : View) → SameCaller u v → SameCaller v w → SameCaller u w
same_trans u v w a b = record {
  opening = b.opening ∙ a.opening;
  number = b.number ∙ a.number;
  numbers = b.numbers ∙ a.numbers;
  cut = b.cut ∙ a.cut;
  knows = λ f has. b.knows f (a.knows f has);
}

pub own_trans : (u v w : View) → SameOwn u v → SameOwn v w → SameOwn u w
own_trans u v w a b = record { vars = b.vars ∙ a.vars; pending = b.pending ∙ a.pending; owed = b.owed ∙ a.owed; fresh = b.fresh ∙ a.fresh }

quiet_back : (u v : View) (es : List Event) → SameCaller u v → IsQuiet v es → IsQuiet u es
quiet_back u v es a q = each_map _ _ es (λ e none_there. ap (count_in e.by) (sym a.numbers) ∙ none_there) q

-- a caller stays one
pub caller_stays : (key : Opening) (v w : View) → IsCaller key v → SameCaller v w → IsPhaseHistory v.opening w.seen → AreVariables key w.vars → ArePublishable key w.pending → AreWithin key w.hands → IsCaller key w
caller_stays key v w is same lawful variables pending hands = record {
  opened = same.opening ∙ is.opened;
  own = subst (λ n. 1 ≤ count_in n w.numbers) (sym same.number) (subst (λ l. 1 ≤ count_in v.number l) (sym same.numbers) is.own);
  lawful = subst (λ o. IsPhaseHistory o w.seen) is.opened lawful;
  variables = variables;
  pending = pending;
  hands = hands;
}

-- and so where its variables, its cells to publish and its hands stay
pub caller_same : (key : Opening) (v w : View) → IsCaller key v → SameCaller v w → IsPhaseHistory v.opening w.seen → w.vars ≡ v.vars → w.pending ≡ v.pending → w.hands ≡ v.hands → IsCaller key w
caller_same key v w is same lawful vars pending hands =
    caller_stays key v w is same lawful (subst (AreVariables key) (sym vars) is.variables) (subst (ArePublishable key) (sym pending) is.pending) (subst (AreWithin key) (sym hands) is.hands)

-- a variable that is set
pub variables_set : (key : Opening) (vars : List ℕ) (place word : ℕ) → AreVariables key vars → word ≤ (sizes_in key).objects → AreVariables key (set vars place word)
variables_set key [] place word h low = tt
variables_set key (x ∷ xs) zero word h low = (low, h.1)
variables_set key (x ∷ xs) (suc place) word h low = (h.0, variables_set key xs place word h.1 low)

-- a cell to publish that is set, and one that is read
pub pending_set : (key : Opening) (cells : List (Option Pending)) (place : ℕ) (cell : Option Pending) → ArePublishable key cells → IfSome cell (IsPublishable key) → ArePublishable key (set cells place cell)
pending_set key [] place cell h can = tt
pending_set key (x ∷ xs) zero cell h can = (can, h.1)
pending_set key (x ∷ xs) (suc place) cell h can = (h.0, pending_set key xs place cell h.1 can)

pub publishable_at : (key : Opening) (v : View) (cell : Pending) → IsCaller key v → pending_in v ≡ Some cell → IsPublishable key cell
publishable_at key v cell is found = read v.pending v.number is.pending found
  where
    read : (cells : List (Option Pending)) (n : ℕ) → ArePublishable key cells → slice_index_or cells n None ≡ Some cell → IsPublishable key cell
    read [] n h e = absurd (cc)
    read (x ∷ xs) zero h e = subst (λ c. IfSome c (IsPublishable key)) e h.0
    read (x ∷ xs) (suc n) h e = read xs n h.1 e

-- the object of a variable is within the limit
pub held_within_limit : (key : Opening) (v : View) (var o : ℕ) → IsCaller key v → HoldsIn v var o → o < (sizes_in key).objects
held_within_limit key v var o is holds = let low = read v.vars (16 * v.number + var) is.variables in let h = holds.1 in omega (arith, low, h)
  where
    read : (vars : List ℕ) (i : ℕ) → AreVariables key vars → slice_index vars i ≤ (sizes_in key).objects
    read [] i h = omega arith
    read (x ∷ xs) zero h = h.0
    read (x ∷ xs) (suc i) h = read xs i h.1

-- and so is one of the hands
pub hands_within_limit : (key : Opening) (v : View) (o : ℕ) → IsCaller key v → 1 ≤ count_in o v.hands → o < (sizes_in key).objects
hands_within_limit key v o is has = each_has (λ q. q < (sizes_in key).objects) v.hands o is.hands (has_count o v.hands has)
