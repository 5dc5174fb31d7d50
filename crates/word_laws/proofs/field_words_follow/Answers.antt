use Rattle.word_laws.proofs.field_words_follow.Goals as goal
use Rattle.word_laws.proofs.FieldWords.{FieldWordsFollow-row}

pub returns : goal.returns
returns c = FieldWordsFollow-row
