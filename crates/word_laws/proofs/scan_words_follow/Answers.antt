use Rattle.word_laws.proofs.scan_words_follow.Goals as goal
use Rattle.word_laws.proofs.HeaderWords.{ScanWordsFollow-row}

pub returns : goal.returns
returns c = ScanWordsFollow-row
