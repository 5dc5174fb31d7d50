use Rattle.word_laws.proofs.count_words_follow.Goals as goal
use Rattle.word_laws.proofs.CountWords.{CountWordsFollow-row}

pub returns : goal.returns
returns c = CountWordsFollow-row
