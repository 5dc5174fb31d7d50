use Rattle.word_laws.proofs.looks_read.Goals as goal
use Rattle.word_laws.proofs.LookReads.{LooksRead-near}

pub returns : goal.returns
returns c = LooksRead-near
