-- Freelist words, one after another, while mutators run: the rank of a word rises with each change, and each take from a
-- list that is not empty is one more in the history.
use Rattle.std.specs.Prelude.{◌≡◌, ◌≢◌, ◌⊎◌, ℕ, ◌+◌, ◌/◌, ◌^◌, ◌<◌, ◌≤◌, if◌then◌else◌, List, [], ◌∷◌}
use Rattle.plain_table.specs.declared.events.Act.{Act}
use Rattle.plain_table.specs.declared.events.Act.TheVariants.{Take, Below}
use Rattle.plain_table.specs.declared.events.Event.{Event}
use Rattle.plain_table.specs.declared.events.Space.{Space}
use Rattle.plain_table.specs.declared.events.Space.TheVariants.{External}
use Rattle.plain_table.specs.declared.reports.Reply.{Reply}
use Rattle.plain_table.specs.declared.reports.Reply.TheVariants as reply
use Rattle.plain_table.specs.Places.{same_space}
use Rattle.free_chain.specs.Rank.{rank}

-- 1 for an event that took an index of the space
abbrev pub takes_of : Space → Act → Reply → ℕ
takes_of p (Take q) (reply.Index i) = if same_space p q then 1 else 0
takes_of p (Below start) (reply.Index i) = if same_space p External then 1 else 0
takes_of p _ _ = 0

-- how many indexes of the space a history took
abbrev pub takes_in : Space → List Event → ℕ
takes_in p [] = 0
takes_in p (e ∷ es) = takes_of p e.act e.said + takes_in p es

-- from one freelist word, after so many takes, to another: the same ones, or a word of greater rank, and more takes where
-- the list was not empty (a commit raises the rank of an empty one, and takes nothing)
abbrev pub Rises : ℕ → ℕ → ℕ → ℕ → Type 0
Rises word takes later more =
    ((later ≡ word) × (more ≡ takes)) ⊎ ((rank word < rank later) × (takes ≤ more) × (word / 2 ^ 32 ≢ 0 → takes < more))
