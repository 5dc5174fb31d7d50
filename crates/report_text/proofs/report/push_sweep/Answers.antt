-- What the one `write!` appends, with its pieces grouped to the right and the compaction's name by its contract.
use Rattle.std.proofs.lemmas.List.{append_assoc}
use Rattle.report_text.proofs.report.push_sweep.Goals as goal

pub returns : goal.returns
returns c = rw c.compaction_name-compaction.ensures at (simp append_assoc at c.write.ensures.bytes)
