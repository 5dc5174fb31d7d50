use Rattle.std.proofs.Common.{◌≡◌, ◌+◌, ◌<◌, ℕ, slice_index, subst, arith}
use Rattle.sweeper.specs.Shading.{Shades, names}
use Rattle.sweeper.proofs.ShadeSteps.{Shades-range}
use Rattle.sweeper.proofs.shading.shade_words.Goals as goal

pub loop-k-preserved : goal.loop-k-preserved
loop-k-preserved c =
    let old = c.args.words.now in
    let mid = c.loop-k.words in
    let now = c.shade-end.new.words in
    let k = c.loop-k.k in
    let less : k < c.args.many = omega arith in
    let same : slice_index mid (c.args.first + k) ≡ slice_index old (c.args.first + k) = c.loop-k.invariant.rest (c.args.first + k) (λ o few. c.requires.apart k o less) in
    Shades-range old mid now c.args.list.now c.loop-k.list c.shade-end.new.list c.args.len c.loop-k.end c.shade-end.result k (λ k. slice_index old (c.args.first + k))
    c.loop-k.invariant
    (subst (λ w. Shades mid now c.loop-k.list c.shade-end.new.list c.loop-k.end c.shade-end.result (names w)) same c.shade-end.ensures)

pub returns : goal.returns
returns c =
    let end : c.loop-k.k ≡ c.args.many = omega arith in
    subst (λ n. Shades c.args.words.now c.loop-k.words c.args.list.now c.loop-k.list c.args.len c.loop-k.end (λ o. (k : ℕ) × (k < n) × (slice_index c.args.words.now (c.args.first + k) ≡ o + 1)))
    end c.loop-k.invariant
