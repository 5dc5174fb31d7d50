use Rattle.word_laws.proofs.covered_words_stay.Goals as goal
use Rattle.word_laws.proofs.CoveredWords.{CoveredWordsStay-step}

pub returns : goal.returns
returns c = CoveredWordsStay-step
