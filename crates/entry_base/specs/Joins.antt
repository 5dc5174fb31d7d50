-- What a join and an absorption leave: both histories come first, and the events of each number are those that its
-- session had seen, so the calls of an ended number are kept.
use Rattle.std.specs.Prelude.{◌≡◌, ◌⊎◌, ℕ, ◌++◌}
use Rattle.plain_table.specs.Belongs.{events_by}
use Rattle.entry_base.specs.declared.view.Fact.{Fact}
use Rattle.entry_base.specs.declared.view.View.{View}
use Rattle.entry_base.specs.Histories.{IsPhaseHistory}
use Rattle.entry_base.specs.Lists.{StartsWith, Has}
use Rattle.entry_base.specs.Numbers.{HasNumber}
use Rattle.entry_base.specs.Views.{both}

-- the histories, facts and hands of two views, in one after them
pub record PutTogether (v u w : View) : Type 0 where
  pub opening : w.opening ≡ v.opening
  pub number : w.number ≡ v.number
  pub hands : w.hands ≡ v.hands ++ u.hands
  pub knows : (f : Fact) → Has v.facts f ⊎ Has u.facts f → Has w.facts f
  pub seen : StartsWith w.seen v.seen × StartsWith w.seen u.seen
  pub mine : (n : ℕ) → HasNumber v n → events_by n w.seen ≡ events_by n v.seen
  pub theirs : (n : ℕ) → HasNumber u n → events_by n w.seen ≡ events_by n u.seen
  pub lawful : IsPhaseHistory w.opening w.seen

-- a session took in another one, with its numbers, variables, tickets and claims
pub record Joined (v u w : View) : Type 0 where
  pub together : PutTogether v u w
  pub numbers : w.numbers ≡ v.numbers ++ u.numbers
  pub vars : w.vars ≡ (both v u).vars
  pub pending : w.pending ≡ (both v u).pending
  pub owed : w.owed ≡ v.owed ++ u.owed
  pub fresh : w.fresh ≡ v.fresh ++ u.fresh
  pub cut : w.cut ≡ v.cut ++ u.cut

-- a session took in a chunk, which has hands alone
pub record Absorbed (v u w : View) : Type 0 where
  pub together : PutTogether v u w
  pub numbers : w.numbers ≡ v.numbers
  pub vars : w.vars ≡ v.vars
  pub pending : w.pending ≡ v.pending
  pub owed : w.owed ≡ v.owed
  pub fresh : w.fresh ≡ v.fresh
  pub cut : w.cut ≡ v.cut
