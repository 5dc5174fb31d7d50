use Rattle.word_laws.proofs.area_words_tell.Goals as goal
use Rattle.word_laws.proofs.AreaReads.{AreaWordsTell-shown}

pub returns : goal.returns
returns c = AreaWordsTell-shown
