use Rattle.word_laws.proofs.committed_words_follow.Goals as goal
use Rattle.word_laws.proofs.CommittedWords.{CommittedWordsFollow-shown}

pub returns : goal.returns
returns c = CommittedWordsFollow-shown
