use Rattle.word_laws.proofs.scanned_words_stay_covered.Goals as goal
use Rattle.word_laws.proofs.CoveredWords.{ScannedWordsStayCovered-step}

pub returns : goal.returns
returns c = ScannedWordsStayCovered-step
