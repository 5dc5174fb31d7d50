-- How sessions are given out to workers before a phase, and taken in again after it.
use Rattle.std.specs.Prelude.{◌≡◌, ◌⊎◌, ℕ, ◌+◌, ◌<◌, ◌≤◌, List, [], ◌∷◌}
use Rattle.plain_table.specs.Belongs.{events_by}
use Rattle.entry_base.specs.declared.view.Fact.{Fact}
use Rattle.entry_base.specs.declared.view.View.{View}
use Rattle.entry_base.specs.Lists.{Each, Has, StartsWith, count_in, total}
use Rattle.entry_base.specs.Numbers.{HasNumber}

-- a session gave out so many numbers from one on, and nothing of its hands
pub record GaveOut (v : View) (from many : ℕ) (w : View) : Type 0 where
  pub opening : w.opening ≡ v.opening
  pub number : w.number ≡ v.number
  pub rest : (n : ℕ) → HasNumber v n → (n < from) ⊎ (from + many ≤ n) → HasNumber w n
  pub seen : w.seen ≡ v.seen
  pub vars : w.vars ≡ v.vars
  pub pending : w.pending ≡ v.pending
  pub hands : w.hands ≡ v.hands
  pub cut : w.cut ≡ v.cut
  pub facts : w.facts ≡ v.facts

-- the session that was given a number, with no hands
pub record IsGiven (v : View) (n : ℕ) (u : View) : Type 0 where
  pub opening : u.opening ≡ v.opening
  pub number : u.number ≡ n
  pub numbers : u.numbers ≡ n ∷ []
  pub seen : u.seen ≡ v.seen
  pub vars : u.vars ≡ v.vars
  pub pending : u.pending ≡ v.pending
  pub hands : u.hands ≡ []
  pub cut : u.cut ≡ []

-- a session took in others one after another: with their numbers, their hands and what they know; the history that it has seen
-- begins with each of theirs, and the events of each number are those that the number's session had seen
pub record TookIn (v : View) (us : List View) (w : View) : Type 0 where
  pub opening : w.opening ≡ v.opening
  pub number : w.number ≡ v.number
  pub numbers : (n : ℕ) → count_in n w.numbers ≡ count_in n v.numbers + total (λ (u : View). count_in n u.numbers) us
  pub hands : (o : ℕ) → count_in o w.hands ≡ count_in o v.hands + total (λ (u : View). count_in o u.hands) us
  pub cut : (o : ℕ) → count_in o w.cut ≡ count_in o v.cut + total (λ (u : View). count_in o u.cut) us
  pub knew : (f : Fact) → Has v.facts f → Has w.facts f
  pub knows : Each (λ (u : View). (f : Fact) → Has u.facts f → Has w.facts f) us
  pub began : StartsWith w.seen v.seen
  pub begins : Each (λ (u : View). StartsWith w.seen u.seen) us
  pub mine : (n : ℕ) → HasNumber v n → events_by n w.seen ≡ events_by n v.seen
  pub theirs : Each (λ (u : View). (n : ℕ) → HasNumber u n → events_by n w.seen ≡ events_by n u.seen) us
