use Rattle.word_laws.proofs.linked_entries_stay_near.Goals as goal
use Rattle.word_laws.proofs.NearWords.{LinkedEntriesStayNear-near}

pub returns : goal.returns
returns c = LinkedEntriesStayNear-near
