use Rattle.std.proofs.Common.{arith}
use Rattle.sweeper.specs.Bits.{without_mark}
use Rattle.sweeper.proofs.Cleared.{lanes_next, word_next}
use Rattle.sweeper.proofs.lanes.clear_marks.Goals as goal

pub loop-words-preserved : goal.loop-words-preserved
loop-words-preserved c = record {
  within = omega (arith, c.loop-words-test.true, c.loop-words.auto.words, c.loop-words.invariant.within);
  done = lanes_next without_mark c.args.words.now c.loop-words.words c.clear_at.new.words c.loop-words.at c.loop-words.invariant.done c.clear_at.ensures;
}

pub loop-at-preserved : goal.loop-at-preserved
loop-at-preserved c = record {
  within = omega (arith, c.loop-at-test.true, c.loop-at.auto.words, c.loop-at.invariant.within);
  done = word_next without_mark c.args.words.now c.loop-at.words c.loop-at.at c.loop-at.invariant.done;
}
