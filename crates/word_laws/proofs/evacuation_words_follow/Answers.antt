use Rattle.word_laws.proofs.evacuation_words_follow.Goals as goal
use Rattle.word_laws.proofs.CellWords.{EvacuationWordsFollow-row}

pub returns : goal.returns
returns c = EvacuationWordsFollow-row
