-- What the steps on objects, references and globals tell their seat.
use Rattle.std.specs.Prelude.{◌≡◌, ◌≢◌, ◌⊎◌, ℕ, zero, suc, ◌+◌, ◌*◌, ◌<◌, ◌≤◌, slice_set, Option, Some, None}
use Rattle.plain_table.specs.declared.events.Act.TheVariants as act
use Rattle.plain_table.specs.declared.events.Spot.{Spot}
use Rattle.plain_table.specs.declared.reports.Reply.{Reply}
use Rattle.plain_table.specs.declared.reports.Reply.TheVariants as reply
use Rattle.entry_base.specs.declared.view.Fact.TheVariants as fact
use Rattle.entry_base.specs.declared.view.View.{View}
use Rattle.entry_base.specs.Callers.{SameCaller, SameOwn, Looks, Extends, event_of}
use Rattle.entry_base.specs.Learned.{Answered}
use Rattle.entry_base.specs.Lists.{Has}
use Rattle.entry_base.specs.Openings.{phase_of, sizes_in}
use Rattle.entry_base.specs.Owns.{HoldsIn}

-- the count of objects was loaded, and at least so many are made
pub record CountLoaded (v : View) (found : ℕ) (w : View) : Type 0 where
  pub same : SameCaller v w
  pub own : SameOwn v w
  pub hands : w.hands ≡ v.hands
  pub knows : Has w.facts (fact.Count found)
  pub low : found ≤ (sizes_in v.opening).objects
  -- it is no less than one that was known
  pub rises : (count : ℕ) → Has v.facts (fact.Count count) → count ≤ found

pub record CountSeen (v : View) (found : ℕ) (w : View) : Type 0 where
  pub loaded : CountLoaded v found w
  pub looks : Looks v w

-- where it is the limit, the load is the event of a new object that finds the heap full
pub record CountForNew (v : View) (var found : ℕ) (w : View) : Type 0 where
  pub loaded : CountLoaded v found w
  pub full : found ≡ (sizes_in v.opening).objects → Extends v (event_of v (act.New var) reply.HeapFull) w
  pub left : found ≢ (sizes_in v.opening).objects → Looks v w

-- the exchange won: a variable holds the new object
pub record MadeObject (v : View) (var n : ℕ) (w : View) : Type 0 where
  pub same : SameCaller v w
  pub rest : (w.pending ≡ v.pending) × (w.owed ≡ v.owed) × (w.fresh ≡ v.fresh) × (w.hands ≡ v.hands)
  pub vars : w.vars ≡ slice_set v.vars (16 * v.number + var) (n + 1)
  pub extends : Extends v (event_of v (act.New var) (reply.Obj n)) w

-- or it found another count, which is greater
pub record MissedObject (v : View) (n found : ℕ) (w : View) : Type 0 where
  pub seen : CountSeen v found w
  pub more : n < found

pub record NewObject (v : View) (var n found : ℕ) (w : View) : Type 0 where
  pub won : found ≡ n → MadeObject v var n w
  pub lost : found ≢ n → MissedObject v n found w

-- a variable was made to hold nothing, or what a place holds
pub record SetVariable (v : View) (var word : ℕ) (w : View) : Type 0 where
  pub same : SameCaller v w
  pub rest : (w.pending ≡ v.pending) × (w.owed ≡ v.owed) × (w.fresh ≡ v.fresh) × (w.hands ≡ v.hands)
  pub vars : w.vars ≡ slice_set v.vars (16 * v.number + var) word

pub record Dropped (v : View) (var : ℕ) (w : View) : Type 0 where
  pub variable : SetVariable v var 0 w
  pub extends : Extends v (event_of v (act.Drop var) reply.Ok) w

abbrev pub got_reply : ℕ → Reply
got_reply zero = reply.Nothing
got_reply (suc q) = reply.Obj q

pub record Got (v : View) (into : ℕ) (spot : Spot) (found : ℕ) (w : View) : Type 0 where
  pub variable : SetVariable v into found w
  pub extends : Extends v (event_of v (act.Get into spot) (got_reply found)) w
  pub low : found ≤ (sizes_in v.opening).objects

-- the word of what is linked: nothing, or the object of a variable
abbrev pub IsTarget : View → Option ℕ → ℕ → Type 0
IsTarget v None word = word ≡ 0
IsTarget v (Some var) word = (q : ℕ) × HoldsIn v var q × (word ≡ q + 1)

-- outside a cycle, or the object is known as shaded
abbrev pub IsClearTarget : View → ℕ → Type 0
IsClearTarget v word = (phase_of v.opening ≡ 0) ⊎ ((q : ℕ) → word ≡ q + 1 → Has v.facts (fact.Shaded q))

abbrev pub LinkedTo : View → Spot → Option ℕ → View → Type 0
LinkedTo v spot target w = Answered v (event_of v (act.Link spot target) reply.Ok) w
