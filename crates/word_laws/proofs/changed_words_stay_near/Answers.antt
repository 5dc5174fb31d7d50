use Rattle.word_laws.proofs.changed_words_stay_near.Goals as goal
use Rattle.word_laws.proofs.NearWords.{IsNear-set}

pub returns : goal.returns
returns c = IsNear-set
