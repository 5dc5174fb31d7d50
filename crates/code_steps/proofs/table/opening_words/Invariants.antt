use Rattle.std.proofs.Common.{◌≡◌, take}
use Rattle.code_steps.specs.Views.{words_of}
use Rattle.code_steps.proofs.table.opening_words.Given as goal

abbrev pub invariant-loop-pair : goal.invariant-loop-pair
invariant-loop-pair l = l.words.items ≡ words_of l.seq (take l.pair-index l.pairs)
