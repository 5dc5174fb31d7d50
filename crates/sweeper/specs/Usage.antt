-- How many indexes of a space are used and which is the greatest, read off its entry words and the links of its freelist.
use Rattle.std.specs.Prelude.{◌≡◌, ℕ, zero, suc, ◌+◌, ◌%◌, ◌^◌, ◌==◌, if◌then◌else◌, Option, None, List}
use Rattle.plain_table.specs.declared.scripts.Policy.{Policy}
use Rattle.plain_table.specs.Table.{Table, Sizes}
use Rattle.plain_table.specs.Finish.{area_of}
use Rattle.plain_table.specs.Words.{no_access_word}
use Rattle.plain_table.specs.Shows.{Shows}
use Rattle.plain_table.specs.Sound.{IsSound}
use Rattle.sweeper.specs.Small.{AreSmall}
use Rattle.sweeper.specs.declared.usage.Usage.{Usage}

-- one index more: the next free one has the link to the one after it, and an index that is not committed is not used
abbrev pub counted : Usage → (word index : ℕ) → Usage
counted usage word index =
    if word == no_access_word then usage
    else (if index == usage.next then record usage { next = word % 2 ^ 32 } else record usage { count = usage.count + 1; greatest = index })

-- the indexes below n, by their words and the head of the freelist
abbrev pub usage_of : (ℕ → ℕ) → ℕ → ℕ → Usage
usage_of entry head zero = record { next = head; count = 0; greatest = 0 }
usage_of entry head (suc n) = counted (usage_of entry head n) (entry n) n

-- the words show a sound table outside a cycle
pub record IsOutside (s : Table) (words : List ℕ) (sizes : Sizes) : Type 0 where
  pub sound : IsSound s
  pub none : s.cycle ≡ None
  pub small : AreSmall s
  pub same : s.sizes ≡ sizes
  pub shows : Shows words s

abbrev pub IsOutsideSome : List ℕ → Sizes → Type 0
IsOutsideSome words sizes = (s : Table) × IsOutside s words sizes

-- for each of them it is the start of the area that the start of a cycle decides on
abbrev pub DecidesArea : List ℕ → Sizes → Policy → Option ℕ → Type 0
DecidesArea words sizes policy start = (s : Table) → IsOutside s words sizes → start ≡ area_of s policy
