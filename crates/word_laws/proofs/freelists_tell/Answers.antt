use Rattle.word_laws.proofs.freelists_tell.Goals as goal
use Rattle.word_laws.proofs.FreelistReads.{FreelistsTell-shown}

pub returns : goal.returns
returns c = FreelistsTell-shown
