-- What calls on objects leave: what a variable holds after a reply, what a link names, and an object that was shaded.
use Rattle.std.specs.Prelude.{◌≡◌, ◌≤◌, ◌⊎◌, ◌<◌, ℕ, ◌+◌, ◌*◌, Bool, if◌then◌else◌, ◌∷◌, Option, Some, None, slice_set}
use Rattle.std.specs.Option.{option_map_or}
use Rattle.plain_table.specs.declared.events.Spot.{Spot}
use Rattle.plain_table.specs.declared.reports.Reply.{Reply}
use Rattle.plain_table.specs.declared.reports.Reply.TheVariants as reply
use Rattle.plain_table.specs.Rows.{at_spot}
use Rattle.plain_table.specs.Table.{Table}
use Rattle.plain_table.specs.Words.{object_word}
use Rattle.entry_base.specs.declared.view.Fact.TheVariants as fact
use Rattle.entry_base.specs.declared.view.View.{View}
use Rattle.entry_base.specs.Callers.{SameOwn}
use Rattle.entry_base.specs.Lists.{Has, count_in}
use Rattle.entry_base.specs.Sessions.{held_in}
use Rattle.call_base.specs.Called.{HeldAtLast, LeavesOwn}

-- a variable holds this object, or nothing; the other variables, and all else that the caller owns, are as before
pub record NowHolds (v : View) (var : ℕ) (x : Option ℕ) (w : View) : Type 0 where
  pub held : held_in w var ≡ x
  pub vars : w.vars ≡ slice_set v.vars (16 * v.number + var) (object_word x)
  pub rest : (w.pending ≡ v.pending) × (w.owed ≡ v.owed) × (w.fresh ≡ v.fresh) × (w.hands ≡ v.hands)

-- a variable holds what the reply says, and is as before where it says neither an object nor nothing
abbrev pub HoldsReply : View → ℕ → Reply → View → Type 0
HoldsReply v var (reply.Obj q) w = NowHolds v var (Some q) w
HoldsReply v var reply.Nothing w = NowHolds v var None w
HoldsReply v var _ w = LeavesOwn v w

-- the object of the count was made where the count was below the limit at the event, and else the heap was full
abbrev pub IsNewReply : Table → Reply → Type 0
IsNewReply t said =
    ((t.count < t.sizes.objects) × (said ≡ reply.Obj t.count)) ⊎ ((t.count ≡ t.sizes.objects) × (said ≡ reply.HeapFull))

abbrev pub IsNewAtEvent : View → Reply → Type 0
IsNewAtEvent w said = HeldAtLast w.opening w.seen (λ t. IsNewReply t said)

-- a place held at the event what the reply says
abbrev pub IsAtSpot : View → Spot → Reply → Type 0
IsAtSpot w spot said = HeldAtLast w.opening w.seen (λ t. said ≡ option_map_or reply.Obj (at_spot t spot) reply.Nothing)

-- the object that a link names: that of a variable, or none; and a named variable that holds nothing
abbrev pub target_in : View → Option ℕ → Option ℕ
target_in v None = None
target_in v (Some var) = held_in v var

abbrev pub IsUnheld : View → Option ℕ → Type 0
IsUnheld v None = ⊥
IsUnheld v (Some var) = held_in v var ≡ None

-- an object is known as shaded, and came into the hands exactly where it was white; each object stands there at most once
pub record IsShadedNow (v : View) (o : ℕ) (white : Bool) (w : View) : Type 0 where
  pub own : SameOwn v w
  pub hands : w.hands ≡ (if white then o ∷ v.hands else v.hands)
  pub once : (q : ℕ) → count_in q w.hands ≤ 1
  pub knows : Has w.facts (fact.Shaded o)
