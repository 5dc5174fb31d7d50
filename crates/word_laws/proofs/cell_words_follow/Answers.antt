use Rattle.word_laws.proofs.cell_words_follow.Goals as goal
use Rattle.word_laws.proofs.CellWords.{CellWordsFollow-row}

pub returns : goal.returns
returns c = CellWordsFollow-row
