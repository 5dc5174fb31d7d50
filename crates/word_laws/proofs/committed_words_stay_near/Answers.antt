use Rattle.word_laws.proofs.committed_words_stay_near.Goals as goal
use Rattle.word_laws.proofs.CommittedWords.{CommittedWordsStayNear-near}

pub returns : goal.returns
returns c = CommittedWordsStayNear-near
