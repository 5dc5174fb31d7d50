-- What a session that cut objects off has left.
use Rattle.std.specs.Prelude.{◌≡◌, ℕ, ◌+◌, List}
use Rattle.entry_base.specs.declared.view.View.{View}
use Rattle.entry_base.specs.Lists.{count_in}

-- a session cut objects of its hands off, and nothing else of it changed
pub record CutOff (v : View) (objects : List ℕ) (w : View) : Type 0 where
  pub opening : w.opening ≡ v.opening
  pub number : w.number ≡ v.number
  pub numbers : w.numbers ≡ v.numbers
  pub seen : w.seen ≡ v.seen
  pub vars : w.vars ≡ v.vars
  pub pending : w.pending ≡ v.pending
  pub owed : w.owed ≡ v.owed
  pub fresh : w.fresh ≡ v.fresh
  pub facts : w.facts ≡ v.facts
  pub hands : (o : ℕ) → count_in o w.hands + count_in o objects ≡ count_in o v.hands
  pub cut : (o : ℕ) → count_in o w.cut ≡ count_in o v.cut + count_in o objects
