use Rattle.std.proofs.Common.{◌≡◌, ◌+◌, ◌<◌, ℕ, slice_index, arith}
use Rattle.sweeper.proofs.HeldRoots.{IsHeldMore-none, IsHeldMore-range}
use Rattle.sweeper.proofs.roots.hold_globals.Goals as goal

pub loop-global-init : goal.loop-global-init
loop-global-init c = IsHeldMore-none c.args.held.now (λ o. (g : ℕ) × (g < 0) × (slice_index c.args.words.now (16 + g) ≡ o + 1)) (λ o there. omega (arith, there.1))

pub loop-global-preserved : goal.loop-global-preserved
loop-global-preserved c = IsHeldMore-range c.args.held.now c.loop-global.held c.hold.new.held (λ g. slice_index c.args.words.now (16 + g)) c.loop-global.global c.hold.ensures c.loop-global.invariant
