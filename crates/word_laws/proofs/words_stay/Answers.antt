use Rattle.word_laws.proofs.words_stay.Goals as goal
use Rattle.word_laws.proofs.QuietWords.{WordsStay-all}

pub returns : goal.returns
returns c = WordsStay-all
