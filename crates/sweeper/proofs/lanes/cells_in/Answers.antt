use Rattle.std.proofs.Common.{ℕ, Bool, ◌≡◌, ◌∙◌, ap, ap₂, map, not, eqb, List, arith, w64, bit_and, length}
use lib.Lanes.{mask_l, zip2}
use lib.ListN.{replicate}
use Rattle.std.proofs.lemmas.Simd.{bitmask_splat, zip2_splat, length-zip2, map-map}
use Rattle.sweeper.proofs.CellMasks.{and-mask}
use Rattle.sweeper.proofs.lanes.cells_in.Goals as goal

pub returns : goal.returns
returns c =
    let v : List ℕ = c.args.lanes.now in
    let side : (t : ℕ → ℕ → Bool) (m : ℕ) → mask_l (map (λ x. t x 0) (zip2 bit_and v (replicate 8 m))) ≡ mask_l (map (λ x. t (bit_and x m) 0) v) = λ t m. ap mask_l (ap (map (λ x. t x 0)) (zip2_splat bit_and v 8 m c.told-lanes) ∙ map-map (λ x. t x 0) (λ x. bit_and x m) v) in
    let long : (m : ℕ) → length (zip2 bit_and v (replicate 8 m)) ≡ 8 = λ m. length-zip2 bit_and v (replicate 8 m) c.told-lanes ∙ c.told-lanes in
    (ap₂ bit_and
    (bitmask_splat w64 eqb (zip2 bit_and v (replicate 8 504403158265495552)) 8 0 (long 504403158265495552) (omega arith) ∙ side eqb 504403158265495552)
    (bitmask_splat w64 (λ a b. not (eqb a b)) (zip2 bit_and v (replicate 8 71776119061217280)) 8 0 (long 71776119061217280) (omega arith) ∙ side (λ a b. not (eqb a b)) 71776119061217280))
    ∙ and-mask (λ w. eqb (bit_and w 504403158265495552) 0) (λ w. not (eqb (bit_and w 71776119061217280) 0)) v
