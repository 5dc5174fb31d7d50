use Rattle.tag_set.proofs.TagList.{Lists}
use Rattle.tag_set.proofs.tags.all.Given as goal

abbrev pub invariant-loop-byte : goal.invariant-loop-byte
invariant-loop-byte l = Lists l.tags l.count l.byte
