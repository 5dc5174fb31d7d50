use Rattle.word_laws.proofs.freelist_words_follow.Goals as goal
use Rattle.word_laws.proofs.FreelistWords.{FreelistWordsFollow-row}

pub returns : goal.returns
returns c = FreelistWordsFollow-row
