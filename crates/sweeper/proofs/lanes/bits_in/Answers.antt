use Rattle.std.proofs.Common.{ℕ, Bool, ◌≡◌, ◌*◌, ◌%◌, ◌∙◌, ap, map, not, eqb, arith, w64, bit_and, ◌^◌}
use lib.Lanes.{mask_l, zip2}
use lib.ListN.{replicate}
use Rattle.std.proofs.lemmas.Nat.{one_shl}
use Rattle.std.proofs.lemmas.Simd.{bitmask_splat, zip2_splat, length-zip2, map-map}
use Rattle.sweeper.proofs.Masks.{tested}
use Rattle.sweeper.proofs.lanes.bits_in.Goals as goal

pub returns : goal.returns
returns c =
    let v = c.args.lanes.now in
    let flag = 1 * 2 ^ c.args.place % 2 ^ 64 in
    let m = replicate 8 flag in
    let is : flag ≡ 2 ^ c.args.place = one_shl c.args.place 64 c.requires in
    bitmask_splat w64 (λ a b. not (eqb a b)) (zip2 bit_and v m) 8 0 (length-zip2 bit_and v m c.told-lanes ∙ c.told-lanes) (omega arith)
    ∙ ap mask_l (ap (map (λ x. not (eqb x 0))) (zip2_splat bit_and v 8 flag c.told-lanes)
    ∙ (map-map (λ x. not (eqb x 0)) (λ x. bit_and x flag) v ∙ ap (λ (f : ℕ → Bool). map f v) (λ k x. (ap (λ n. not (eqb (bit_and x n) 0)) is ∙ tested c.args.place x) k)))
