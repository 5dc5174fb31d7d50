use Rattle.word_laws.proofs.segments_can_be_committed.Goals as goal
use Rattle.word_laws.proofs.CommittedWords.{SegmentsCanBeCommitted-linked}

pub returns : goal.returns
returns c = SegmentsCanBeCommitted-linked
