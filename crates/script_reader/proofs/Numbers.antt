-- How large the number is that digits spell.
use Rattle.std.proofs.Common.{ℕ, ◌+◌, ◌*◌, ◌^◌, ◌<◌, ◌≤◌, arith, lit<}
use Rattle.std.proofs.Math.Nat.{mul-le-mul_right, pow-le-pow_right}
use Rattle.std.proofs.lemmas.Grind.{pow_more}

-- a digit more is a factor of the base more
pub digit_more : (base n digit i : ℕ) → base ≤ 16 → digit < base → n < 16 ^ i → base * n + digit < 16 ^ (i + 1)
digit_more base n digit i b d h =
    let m : base * n ≤ 16 * n = mul-le-mul_right n b in
    rw (pow_more 16 i) (omega arith)

-- twelve digits fit
pub digit_fits : (base n digit i : ℕ) → base ≤ 16 → digit < base → n < 16 ^ i → i < 12 → base * n + digit < 2 ^ 48
digit_fits base n digit i b d h l =
    let m : base * n + digit < 16 ^ (i + 1) = digit_more base n digit i b d h in
    let p : 16 ^ (i + 1) ≤ 16 ^ 12 = pow-le-pow_right (lit< tt) {i = i + 1} {j = 12} (omega arith) in
    omega arith
