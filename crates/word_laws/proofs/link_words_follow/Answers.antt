use Rattle.word_laws.proofs.link_words_follow.Goals as goal
use Rattle.word_laws.proofs.LinkWords.{LinkWordsFollow-row}

pub returns : goal.returns
returns c = LinkWordsFollow-row
