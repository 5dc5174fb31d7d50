-- What a session has after it tried to make an object: it is still a caller, and a variable holds the object where it was made. That
-- the step keeps the rule stands in `ObjectsMade.antt`, for views that list the 128 variables: here it is said of every view, and open.
use Rattle.std.proofs.Common.{◌≡◌, ◌≢◌, ◌+◌, ◌*◌, ◌<◌, ◌≤◌, ℕ, slice_set, subst, inl, inr, arith}
use Rattle.std.proofs.lemmas.Bool.Decides.{eqb_tells}
use Rattle.entry_base.specs.declared.view.Opening.{Opening}
use Rattle.entry_base.specs.declared.view.View.{View}
use Rattle.entry_base.specs.Callers.{IsCaller}
use Rattle.entry_base.specs.Openings.{sizes_in}
use Rattle.entry_base.specs.Tied.{Parts, IsTied}
use Rattle.entry_base.proofs.OneByOne.{caller_same}
use Rattle.entry_base.proofs.TiedParts.{tied_stays}
use Rattle.object_rule.specs.Objects.{NewObject}
use Rattle.object_rule.proofs.Held.{set_calls, set_tied}

module _ (v w : View) (var n found : ℕ) where
  pub made_calls : (key : Opening) → IsCaller key v → n < (sizes_in v.opening).objects → NewObject v var n found w → IsCaller key w
  made_calls key caller below new = elim (eqb_tells found n) [
    | inl same ↦
        let t = new.won same.1 in
        let low : n + 1 ≤ (sizes_in key).objects = (let less = subst (λ o. n < (sizes_in o).objects) caller.opened below in omega arith) in
        set_calls v w var (n + 1) (record { same = t.same; rest = t.rest; vars = t.vars }) key caller t.extends.lawful low
    | inr other ↦
        let t = (new.lost other.1).seen in
        caller_same key v w caller t.loaded.same t.looks.lawful t.loaded.own.vars t.loaded.own.pending t.loaded.hands
  ]

  pub made_tied : (x : Parts) → IsTied x v → NewObject v var n found w → found ≡ n → IsTied (record x { vars = slice_set x.vars (16 * x.number + var) (n + 1) }) w
  made_tied x tied new same = let t = new.won same in set_tied v w var (n + 1) (record { same = t.same; rest = t.rest; vars = t.vars }) x tied

  pub missed_tied : (x : Parts) → IsTied x v → NewObject v var n found w → found ≢ n → IsTied x w
  missed_tied x tied new other = let t = (new.lost other).seen.loaded in tied_stays v w x t.same.opening t.same.number t.same.numbers t.own.vars t.own.pending tied
