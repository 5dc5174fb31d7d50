use Rattle.std.proofs.Common.{ℕ, List, ap, bit_and, ◌-◌, ◌^◌}
use lib.Lanes.{chunk, put_chunk}
use Rattle.std.proofs.lemmas.Simd.{zip2_splat, length-chunk}
use Rattle.sweeper.proofs.lanes.clear_at.Goals as goal

pub returns : goal.returns
returns c =
    let ws = c.args.words.now in
    ap (λ (xs : List ℕ). put_chunk c.args.at ws xs) (zip2_splat bit_and (chunk c.args.at 8 ws) 8 (2 ^ 64 - 1 - 2 ^ 62) (length-chunk c.args.at 8 ws c.requires))
