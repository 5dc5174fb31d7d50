-- What the steps on freelist words tell their seat: loads of a freelist word and of the link at its head, and the exchanges
-- that try to take the head.
use Rattle.std.specs.Prelude.{◌≡◌, ◌≢◌, ◌⊎◌, ℕ, ◌+◌, ◌/◌, ◌%◌, ◌^◌, ◌<◌, ◌≤◌, List, [], ◌∷◌}
use Rattle.plain_table.specs.declared.events.Act.{Act}
use Rattle.plain_table.specs.declared.events.Act.TheVariants as act
use Rattle.plain_table.specs.declared.events.Space.{Space}
use Rattle.plain_table.specs.declared.events.Space.TheVariants.{External}
use Rattle.plain_table.specs.declared.reports.Reply.TheVariants as reply
use Rattle.plain_table.specs.Table.{limit_in}
use Rattle.plain_table.specs.Words.{free_word}
use Rattle.free_chain.specs.Rank.{rank}
use Rattle.entry_base.specs.declared.view.Fact.{Fact}
use Rattle.entry_base.specs.declared.view.Fact.TheVariants as fact
use Rattle.entry_base.specs.declared.view.View.{View}
use Rattle.entry_base.specs.Callers.{SameCaller, SameOwn, Looks, Extends, event_of}
use Rattle.entry_base.specs.Lists.{Has}
use Rattle.entry_base.specs.Openings.{sizes_in}
use Rattle.entry_base.specs.Owns.{claim_of, without_claim}
use Rattle.entry_base.specs.Ranks.{takes_in, Rises}

-- where the list is not empty its head is an index of the space other than 0; and else it is the first index of a whole
-- segment that is left, or the limit
pub record IsFreelistIn (v : View) (p : Space) (found : ℕ) : Type 0 where
  pub some : found / 2 ^ 32 ≢ 0 → (found % 2 ^ 32 ≢ 0) × (found % 2 ^ 32 < limit_in (sizes_in v.opening) p)
  pub none : found / 2 ^ 32 ≡ 0 → found % 2 ^ 32 ≤ limit_in (sizes_in v.opening) p
  pub room : found / 2 ^ 32 ≡ 0 → found % 2 ^ 32 < limit_in (sizes_in v.opening) p →
      found % 2 ^ 32 + (sizes_in v.opening).seg ≤ limit_in (sizes_in v.opening) p

-- a freelist word was loaded: it is known, and it rose from each one that was known before
pub record FreelistLoaded (v : View) (p : Space) (found : ℕ) (w : View) : Type 0 where
  pub same : SameCaller v w
  pub own : SameOwn v w
  pub hands : w.hands ≡ v.hands
  pub knows : Has w.facts (fact.Freelist p found (takes_in p w.seen))
  pub rises : (word takes : ℕ) → Has v.facts (fact.Freelist p word takes) → Rises word takes found (takes_in p w.seen)
  pub within : IsFreelistIn v p found

pub record FreelistSeen (v : View) (p : Space) (found : ℕ) (w : View) : Type 0 where
  pub loaded : FreelistLoaded v p found w
  pub looks : Looks v w

-- the list is empty and no segment is left
abbrev pub IsSpent : View → Space → ℕ → Type 0
IsSpent v p found = (found / 2 ^ 32 ≡ 0) × (limit_in (sizes_in v.opening) p ≤ found % 2 ^ 32)

-- so the load is the event of a take that finds the space full
pub record FreelistForTake (v : View) (p : Space) (found : ℕ) (w : View) : Type 0 where
  pub loaded : FreelistLoaded v p found w
  pub full : IsSpent v p found → Extends v (event_of v (act.Take p) reply.Full) w
  pub left : (IsSpent v p found → ⊥) → Looks v w

-- the list is empty, or its head is not below the start
abbrev pub IsOutOfRoom : ℕ → ℕ → Type 0
IsOutOfRoom start found = (found / 2 ^ 32 ≡ 0) ⊎ (start ≤ found % 2 ^ 32)

-- so the load is the event of a take below the start that finds no room: each index below it is used
pub record FreelistForBelow (v : View) (start found : ℕ) (w : View) : Type 0 where
  pub loaded : FreelistLoaded v External found w
  pub full : IsOutOfRoom start found → Extends v (event_of v (act.Below start) reply.NoRoom) w × Has w.facts (fact.Used External start)
  pub left : (IsOutOfRoom start found → ⊥) → Looks v w

-- the load of the entry at the head of a freelist word: its link, as long as the index is free
abbrev pub link_facts : Space → ℕ → ℕ → List Fact
link_facts p i found = fact.Link p i (free_word (found % 2 ^ 32)) ∷ []

-- the exchange won: the head is taken, and the caller owes it; no index below it is free
pub record TookHead (v : View) (p : Space) (a : Act) (i : ℕ) (w : View) : Type 0 where
  pub same : SameCaller v w
  pub rest : (w.vars ≡ v.vars) × (w.pending ≡ v.pending) × (w.fresh ≡ v.fresh) × (w.hands ≡ v.hands)
  pub owed : w.owed ≡ claim_of v p i ∷ v.owed
  pub fresh_claim : without_claim v.number p i v.owed ≡ v.owed
  pub inside : (i ≢ 0) × (i < limit_in (sizes_in v.opening) p)
  pub extends : Extends v (event_of v a (reply.Index i)) w
  pub knows : Has w.facts (fact.Used p i)

-- or it found another word, of greater rank, and more was taken since the first one was loaded
pub record MissedHead (v : View) (p : Space) (word found : ℕ) (w : View) : Type 0 where
  pub same : SameCaller v w
  pub own : SameOwn v w
  pub hands : w.hands ≡ v.hands
  pub looks : Looks v w
  pub rises : rank word < rank found
  pub more : (takes : ℕ) → Has v.facts (fact.Freelist p word takes) → takes < takes_in p w.seen
  pub knows : Has w.facts (fact.Freelist p found (takes_in p w.seen))

pub record Took (v : View) (p : Space) (a : Act) (word found : ℕ) (w : View) : Type 0 where
  pub won : found ≡ word → TookHead v p a (word % 2 ^ 32) w
  pub lost : found ≢ word → MissedHead v p word found w
