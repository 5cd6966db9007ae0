-- A blur is a multiple of 2 ^ bits, and does not fall where the name rises.
use Rattle.std.proofs.Common.{◌≡◌, ℕ, ◌*◌, ◌/◌, ◌%◌, ◌^◌, ◌≤◌, arith, ap, ◌∙◌}
use Rattle.std.proofs.Math.Nat.{div-mul-le_self, mul-le-mul_right, mul-mod_left}
use Rattle.std.proofs.lemmas.Nat.{le-div, div-add-mod', pow_pos}
use Rattle.pot_pointer.specs.Pointers.{blur}

blur_is_multiple : (name bits : ℕ) → blur name bits ≡ name / 2 ^ bits * 2 ^ bits
blur_is_multiple name bits = let parts = div-add-mod' name (2 ^ bits) in omega (arith, parts)

-- the low bits of a blur are zero
pub blur_is_cleared : (name bits : ℕ) → blur name bits % 2 ^ bits ≡ 0
blur_is_cleared name bits =
    ap (λ n. n % 2 ^ bits) (blur_is_multiple name bits) ∙ mul-mod_left (name / 2 ^ bits) (2 ^ bits)

-- a greater name has no smaller blur
pub blur_rises : (a b bits : ℕ) → a ≤ b → blur a bits ≤ blur b bits
blur_rises a b bits a_le_b =
    let part = div-mul-le_self a (2 ^ bits) in
    let quotients : a / 2 ^ bits ≤ b / 2 ^ bits = le-div (a / 2 ^ bits) b (2 ^ bits) (pow_pos bits) (omega (arith, part)) in
    let multiples = mul-le-mul_right (2 ^ bits) quotients in
    omega (arith, multiples, blur_is_multiple a bits, blur_is_multiple b bits)
