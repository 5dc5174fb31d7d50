use Rattle.word_laws.proofs.entry_kinds_tell.Goals as goal
use Rattle.word_laws.proofs.EntryKinds.{EntryKindsTell-shown}

pub returns : goal.returns
returns c = EntryKindsTell-shown
