-- The fields of a place.
use Rattle.std.proofs.Common.{◌≡◌, ◌≤◌, ℕ, ◌*◌, ◌==◌, ◌&&◌, Bool, true, false, List, Ok, ap₂, arith, eq-eqb}
use Rattle.std.proofs.lemmas.Bool.{eqb-true, le-leb}
use Rattle.pot_image.specs.declared.fault.Fault.{Fault}
use Rattle.pot_image.specs.Reading.{reading}
use Rattle.pot_image.specs.Numbers.{natural, between}
use Rattle.pot_image.specs.Following.{Fails}
use Rattle.pot_image.proofs.Steps.{kept, short, between_of}

-- a number between one and itself
pub group_read : (e x n : ℕ) (bytes rest : List ℕ) → e ≡ x → reading (natural 1 (between e e)) bytes ≡ Ok (n, rest) → reading (natural 1 (λ m. m == x)) bytes ≡ Ok (n, rest)
group_read e x n bytes rest q h = (let b = between_of 1 e e bytes rest n h in kept 1 (between e e) (λ m. m == x) bytes rest n h (eq-eqb n x (omega (arith, q, b.0, b.1))))

pub group_is : (e n : ℕ) (bytes rest : List ℕ) → reading (natural 1 (between e e)) bytes ≡ Ok (n, rest) → n ≡ e
group_is e n bytes rest h = (let b = between_of 1 e e bytes rest n h in omega (arith, b.0, b.1))

pub group_short : (e x : ℕ) (bytes : List ℕ) (f : Fault) → e ≡ x → Fails f (reading (natural 1 (between e e)) bytes) → Fails f (reading (natural 1 (λ m. m == x)) bytes)
group_short e x bytes f q h = short 1 (between e e) (λ m. m == x) bytes f h (λ m k. at m (eqb-true m x k))
  where
    at : (m : ℕ) → m ≡ x → between e e m ≡ true
    at m k = (let l : e ≤ m = omega (arith, k, q) in let r : m ≤ e = omega (arith, k, q) in ap₂ (λ a b. a && b) (le-leb e m l) (le-leb m e r))

pub second_false : (a b : Bool) → a ≡ true → b ≡ false → a && b ≡ false
second_false a b e f = ap₂ (λ x y. x && y) e f

pub as_total : (m a b c d : ℕ) → a ≡ c → b ≡ d → m * a * b ≡ m * c * d
as_total m a b c d e f = ap₂ (λ x y. m * x * y) e f
