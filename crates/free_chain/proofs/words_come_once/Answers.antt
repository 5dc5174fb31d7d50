use Rattle.free_chain.proofs.Ranks.{WordsComeOnce-by_rank}
use Rattle.free_chain.proofs.words_come_once.Goals as goal

pub returns : goal.returns
returns c = WordsComeOnce-by_rank
