use Rattle.std.proofs.Common.{◌≡◌, ◌+◌, ◌-◌, ◌<◌, ◌≤◌, false, refl, subst, arith, le-ltb}
use Rattle.sweeper.specs.Pass.{entries_from, IsPassAt, IsTallyAt, IsFew}
use Rattle.sweeper.proofs.PassSteps.{IsPassAt-start, IsTallyAt-start}
use Rattle.sweeper.proofs.PassLoops.{IsIndexDone, words-next, tally-next, few-next}
use Rattle.sweeper.proofs.pass.close_entries.Goals as goal

pub loop-index-init : goal.loop-index-init
loop-index-init c = record {
  later = c.requires.within;
  words = IsPassAt-start c.args.words.now c.args.span.base c.args.span.limit c.args.span.from c.args.committed;
  tally = IsTallyAt-start (entries_from c.args.words.now c.args.span.base) c.args.span.limit c.args.span.from c.args.committed c.requires.within;
  few = record { len_few = omega arith; kept_few = omega arith; freed_few = omega arith; moved_few = omega arith };
}

pub loop-index-preserved : goal.loop-index-preserved
loop-index-preserved c =
    let h = c.loop-index.invariant in
    let z = c.args.span in
    let i = c.loop-index.index - 1 in
    let next : c.loop-index.index ≡ i + 1 = omega arith in
    let past : c.args.committed ≤ i = omega arith in
    let later : 1 ≤ i = omega (arith, c.requires.first, past) in
    let below : i < z.limit = omega arith in
    let done : IsIndexDone c.loop-index.words z.base z.from c.args.committed i c.loop-index.tally c.closed-tally.result false _ =
    record { inside = le-ltb i c.args.committed past; word = refl; counted = c.closed-tally.ensures } in
    record {
      later = past;
      words = words-next c.args.words.now c.loop-index.words z.base z.limit z.from c.args.committed c.loop-index.index i c.loop-index.tally c.closed-tally.result false _ next later below c.requires.inside h.words h.tally done;
      tally = tally-next c.args.words.now c.loop-index.words z.base z.limit z.from c.args.committed c.loop-index.index i c.loop-index.tally c.closed-tally.result false _ next later below c.requires.inside h.words h.tally done;
      few = few-next c.args.words.now c.loop-index.words z.base z.limit z.from c.args.committed c.loop-index.index i c.loop-index.tally c.closed-tally.result false _ next later below c.requires.inside h.words h.tally done h.few;
    }

pub returns-clause-words : goal.returns-clause-words
returns-clause-words c =
    let last : c.loop-index.index ≡ c.args.committed = omega arith in
    subst (IsPassAt c.args.words.now c.loop-index.words c.args.span.base c.args.span.limit c.args.span.from c.args.committed) last c.loop-index.invariant.words

pub returns-clause-tally : goal.returns-clause-tally
returns-clause-tally c =
    let last : c.loop-index.index ≡ c.args.committed = omega arith in
    subst (λ i. IsTallyAt (entries_from c.args.words.now c.args.span.base) c.args.span.limit c.args.span.from c.args.committed i c.loop-index.tally) last c.loop-index.invariant.tally

pub returns-clause-few : goal.returns-clause-few
returns-clause-few c =
    let last : c.loop-index.index ≡ c.args.committed = omega arith in
    subst (λ i. IsFew c.args.span.limit i c.loop-index.tally) last c.loop-index.invariant.few
