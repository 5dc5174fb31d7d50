-- What the steps that commit a segment tell their seat: the exchanges that link its entries, and the one that commits it.
use Rattle.std.specs.Prelude.{◌≡◌, ◌≢◌, ℕ, ◌+◌, ◌<◌, ◌≤◌, ◌==◌, if◌then◌else◌}
use Rattle.plain_table.specs.declared.events.Space.{Space}
use Rattle.plain_table.specs.Words.{freelist_word}
use Rattle.free_chain.specs.Rank.{rank}
use Rattle.entry_base.specs.declared.view.Fact.TheVariants as fact
use Rattle.entry_base.specs.declared.view.View.{View}
use Rattle.entry_base.specs.Callers.{SameCaller, SameOwn, Looks}
use Rattle.entry_base.specs.Lists.{Has}
use Rattle.entry_base.specs.Openings.{sizes_in}
use Rattle.entry_base.specs.Ranks.{takes_in}

-- an entry was linked, or had been: it can be used
pub record LinkedEntry (v : View) (p : Space) (i : ℕ) (w : View) : Type 0 where
  pub same : SameCaller v w
  pub own : SameOwn v w
  pub hands : w.hands ≡ v.hands
  pub looks : Looks v w
  pub knows : Has w.facts (fact.Linked p i)

-- each entry of the segment from an index on was linked
abbrev pub IsLinkedFrom : View → Space → ℕ → Type 0
IsLinkedFrom v p head = (i : ℕ) → head ≤ i → i < head + (sizes_in v.opening).seg → Has v.facts (fact.Linked p i)

-- the exchange that commits the segment at the head of an empty freelist: it won, or the freelist word has risen since; the
-- word that then stands there is known
pub record Committed (v : View) (p : Space) (head found : ℕ) (w : View) : Type 0 where
  pub same : SameCaller v w
  pub own : SameOwn v w
  pub hands : w.hands ≡ v.hands
  pub looks : Looks v w
  pub lost : found ≢ head → rank head < rank found
  pub knows : Has w.facts (fact.Freelist p (if found == head then freelist_word head (sizes_in v.opening).seg else found) (takes_in p w.seen))
