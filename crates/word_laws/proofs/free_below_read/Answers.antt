use Rattle.word_laws.proofs.free_below_read.Goals as goal
use Rattle.word_laws.proofs.FreeBelowReads.{FreeBelowRead-shown}

pub returns : goal.returns
returns c = FreeBelowRead-shown
