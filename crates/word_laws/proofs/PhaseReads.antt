-- Reading the phase word: it is 1 just where a cycle is under way.
use Rattle.std.proofs.Common.{◌≡◌, ℕ, List, slice_index, Option, Some, None, refl, sym, ap, ◌∙◌, arith}
use Rattle.plain_table.specs.Cycle.{Cycle}
use Rattle.plain_table.specs.Table.{Table}
use Rattle.plain_table.specs.Words.{phase_place, phase_word}
use Rattle.plain_table.specs.Shows.{Shows}

module _ (words : List ℕ) (s : Table) (shows : Shows words s) where
  pub cycle-some : slice_index words phase_place ≡ 1 → (c : Cycle) × (s.cycle ≡ Some c)
  cycle-some one = by_cycle s.cycle refl
    where
      by_cycle : (cycle : Option Cycle) → s.cycle ≡ cycle → (c : Cycle) × (s.cycle ≡ Some c)
      by_cycle None is = let wrong : 1 ≡ 0 = sym one ∙ shows.phase ∙ ap phase_word is in absurd (omega (arith, wrong))
      by_cycle (Some c) is = (c, is)

  pub cycle-none : slice_index words phase_place ≡ 0 → s.cycle ≡ None
  cycle-none nothing = by_cycle s.cycle refl
    where
      by_cycle : (cycle : Option Cycle) → s.cycle ≡ cycle → s.cycle ≡ None
      by_cycle None is = is
      by_cycle (Some c) is = let wrong : 0 ≡ 1 = sym nothing ∙ shows.phase ∙ ap phase_word is in absurd (omega (arith, wrong))
