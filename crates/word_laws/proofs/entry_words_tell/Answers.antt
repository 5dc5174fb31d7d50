use Rattle.word_laws.proofs.entry_words_tell.Goals as goal
use Rattle.word_laws.proofs.EntryReads.{EntryWordsTell-near}

pub returns : goal.returns
returns c = EntryWordsTell-near
