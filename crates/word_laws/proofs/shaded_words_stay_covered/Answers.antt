use Rattle.word_laws.proofs.shaded_words_stay_covered.Goals as goal
use Rattle.word_laws.proofs.CoveredWords.{ShadedWordsStayCovered-step}

pub returns : goal.returns
returns c = ShadedWordsStayCovered-step
