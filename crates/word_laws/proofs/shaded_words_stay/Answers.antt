use Rattle.word_laws.proofs.shaded_words_stay.Goals as goal
use Rattle.word_laws.proofs.HeaderWords.{ShadedWordsStay-header}

pub returns : goal.returns
returns c = ShadedWordsStay-header
