use Rattle.word_laws.proofs.area_words_follow.Goals as goal
use Rattle.word_laws.proofs.CountWords.{AreaWordsFollow-row}

pub returns : goal.returns
returns c = AreaWordsFollow-row
