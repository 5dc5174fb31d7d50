-- What the commit of a segment says of freelist words.
use Rattle.std.specs.Prelude.{◌≡◌, ℕ, ◌/◌, ◌^◌, ◌<◌}
use Rattle.plain_table.specs.declared.events.Space.{Space}
use Rattle.plain_table.specs.Table.{limit_in}
use Rattle.free_chain.specs.Rank.{rank}
use Rattle.entry_base.specs.declared.view.Fact.TheVariants as fact
use Rattle.entry_base.specs.declared.view.View.{View}
use Rattle.entry_base.specs.Lists.{Has}
use Rattle.entry_base.specs.Openings.{sizes_in}

-- a freelist word is known that is later than this one
abbrev pub HasRisen : Space → ℕ → View → Type 0
HasRisen p word w = (later : ℕ) × (takes : ℕ) × Has w.facts (fact.Freelist p later takes) × (rank word < rank later)

-- the list is empty, and a segment is left
abbrev pub IsUncommitted : View → Space → ℕ → Type 0
IsUncommitted v p word = (word / 2 ^ 32 ≡ 0) × (word < limit_in (sizes_in v.opening) p)

-- the freelist word has risen since it was one with an empty list and a segment left
abbrev pub IsCommitted : View → Space → View → Type 0
IsCommitted v p w = (word : ℕ) (takes : ℕ) → Has v.facts (fact.Freelist p word takes) → IsUncommitted v p word → HasRisen p word w
