-- The one argument, the line that is written, and the exit statuses.
use Rattle.std.specs.Prelude.{◌≡◌, ℕ, ◌+◌, ◌≤◌, List, [], ◌∷◌, ◌++◌, codes, decimal}
use Rattle.code_run.specs.declared.run.CodeReport.{CodeReport}
use Rattle.code_run.specs.declared.main_call.CodeStatus.{CodeStatus}
use Rattle.code_run.specs.declared.main_call.CodeStatus.TheVariants.{Ok, Usage, WriteFault, OutOfMemory}

-- the words are the one decimal number n from 1 to 1,000, without leading zeros
pub record IsCallsWord (words : List (List ℕ)) (n : ℕ) : Type 0 where
  pub low : 1 ≤ n
  pub high : n ≤ 1000
  pub word : words ≡ decimal n ∷ []

-- the line of so many calls, and of so many pairs that are not those of one write
abbrev pub line : ℕ → ℕ → List ℕ
line calls bad = (((codes "code calls=" ++ decimal calls) ++ codes " bad=") ++ decimal bad) ++ codes "\n"

abbrev pub line_of : CodeReport → List ℕ
line_of r = line ((r.done + r.busy) + (r.pairs + r.again)) r.bad

abbrev pub status_code : CodeStatus → ℕ
status_code Ok = 0
status_code Usage = 2
status_code WriteFault = 5
status_code OutOfMemory = 6
