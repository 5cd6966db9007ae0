-- One row or two are whole rows.
use Rattle.std.proofs.Common.{◌≡◌, ◌<◌, ◌*◌, ◌/◌, ℕ, ap, sym, arith}
use Rattle.std.proofs.Math.Nat.{mul-div_cancel}

whole : (count size total : ℕ) → 0 < size → total ≡ count * size → total ≡ total / size * size
whole count size total h e = rw e (ap (λ k. k * size) (sym (mul-div_cancel count h)))

pub one_row : (size total : ℕ) → 0 < size → total ≡ size → total ≡ total / size * size
one_row size total h e = whole 1 size total h (omega (arith, e))

pub two_rows : (size total : ℕ) → 0 < size → total ≡ 2 * size → total ≡ total / size * size
two_rows size total h e = whole 2 size total h e
