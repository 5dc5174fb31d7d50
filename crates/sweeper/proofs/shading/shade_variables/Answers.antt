use Rattle.std.proofs.Common.{◌≡◌, ◌+◌, ◌<◌, ℕ, length, slice_index, ap, subst, ◌∙◌, arith}
use Rattle.sweeper.specs.Shading.{Shades, names}
use Rattle.sweeper.proofs.ShadeSteps.{Shades-range}
use Rattle.sweeper.proofs.shading.shade_variables.Goals as goal

pub loop-k-preserved : goal.loop-k-preserved
loop-k-preserved c =
    let vars = c.args.variables.now in
    let k = c.loop-k.k in
    let value : c.from.result ≡ slice_index vars k = omega arith in
    let place : k ≡ 0 + k = omega arith in
    let same : c.from.result ≡ slice_index vars (0 + k) = value ∙ ap (slice_index vars) place in
    Shades-range c.args.words.now c.loop-k.words c.shade-end.new.words c.args.list.now c.loop-k.list c.shade-end.new.list c.args.len c.loop-k.end c.shade-end.result k (λ k. slice_index vars (0 + k))
    c.loop-k.invariant
    (subst (λ w. Shades c.loop-k.words c.shade-end.new.words c.loop-k.list c.shade-end.new.list c.loop-k.end c.shade-end.result (names w)) same c.shade-end.ensures)

pub returns : goal.returns
returns c =
    let end : c.loop-k.k ≡ length c.args.variables.now = omega arith in
    subst (λ n. Shades c.args.words.now c.loop-k.words c.args.list.now c.loop-k.list c.args.len c.loop-k.end (λ o. (k : ℕ) × (k < n) × (slice_index c.args.variables.now (0 + k) ≡ o + 1)))
    end c.loop-k.invariant
