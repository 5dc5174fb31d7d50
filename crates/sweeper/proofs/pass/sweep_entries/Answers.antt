use Rattle.std.proofs.Common.{◌≡◌, ◌+◌, ◌-◌, ◌<◌, ◌≤◌, true, subst, arith, lt-ltb}
use Rattle.sweeper.specs.Pass.{entries_from, IsPassAt, IsTallyAt}
use Rattle.sweeper.proofs.PassLoops.{IsIndexDone, words-next, tally-next, few-next}
use Rattle.sweeper.proofs.pass.sweep_entries.Goals as goal

pub loop-index-init : goal.loop-index-init
loop-index-init c = record {
  later = c.requires.first;
  inside = omega arith;
  words = c.close_entries-tally.ensures.words;
  tally = c.close_entries-tally.ensures.tally;
  few = c.close_entries-tally.ensures.few;
}

pub loop-index-preserved : goal.loop-index-preserved
loop-index-preserved c =
    let h = c.loop-index.invariant in
    let z = c.args.span in
    let i = c.loop-index.index - 1 in
    let next : c.loop-index.index ≡ i + 1 = omega arith in
    let later : 1 ≤ i = omega arith in
    let under : i < c.args.committed = omega (arith, h.inside) in
    let below : i < z.limit = omega (arith, under, c.requires.within) in
    let done : IsIndexDone c.loop-index.words z.base z.from c.args.committed i c.loop-index.tally c.counted-tally.result true c.word_after.result =
    record { inside = lt-ltb i c.args.committed under; word = c.word_after.ensures; counted = c.counted-tally.ensures } in
    record {
      later = omega arith;
      inside = omega (arith, under);
      words = words-next c.args.words.now c.loop-index.words z.base z.limit z.from c.args.committed c.loop-index.index i c.loop-index.tally c.counted-tally.result true c.word_after.result next later below c.requires.inside h.words h.tally done;
      tally = tally-next c.args.words.now c.loop-index.words z.base z.limit z.from c.args.committed c.loop-index.index i c.loop-index.tally c.counted-tally.result true c.word_after.result next later below c.requires.inside h.words h.tally done;
      few = few-next c.args.words.now c.loop-index.words z.base z.limit z.from c.args.committed c.loop-index.index i c.loop-index.tally c.counted-tally.result true c.word_after.result next later below c.requires.inside h.words h.tally done h.few;
    }

pub returns-clause-words : goal.returns-clause-words
returns-clause-words c =
    let last : c.loop-index.index ≡ 1 = omega arith in
    subst (IsPassAt c.args.words.now c.loop-index.words c.args.span.base c.args.span.limit c.args.span.from c.args.committed) last c.loop-index.invariant.words

pub returns-clause-tally : goal.returns-clause-tally
returns-clause-tally c =
    let last : c.loop-index.index ≡ 1 = omega arith in
    subst (λ i. IsTallyAt (entries_from c.args.words.now c.args.span.base) c.args.span.limit c.args.span.from c.args.committed i c.loop-index.tally) last c.loop-index.invariant.tally
