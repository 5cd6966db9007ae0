-- How many blocks a file has.
use Rattle.std.proofs.Common.{◌≤◌, ◌*◌, ℕ, arith}
use Rattle.std.proofs.Math.Nat.{mul-le-mul_left}

-- at most 1,024 pieces of at most 8 fragments of at most 16 points
pub few_blocks : (p k n : ℕ) → p ≤ 1024 → k ≤ 8 → n ≤ 16 → p * (k * n) ≤ 131072
few_blocks p k n a b c =
    let kn : k * n ≤ k * 16 = mul-le-mul_left k c in
    let k16 : k * 16 ≤ 128 = omega (arith, b) in
    let one : k * n ≤ 128 = omega (arith, kn, k16) in
    let two : p * (k * n) ≤ p * 128 = mul-le-mul_left p one in
    let p128 : p * 128 ≤ 131072 = omega (arith, a) in
    omega (arith, two, p128)
