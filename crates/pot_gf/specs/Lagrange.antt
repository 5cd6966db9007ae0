-- Lagrange's form of the value at 0 of the polynomial through some points.
use Rattle.std.specs.Prelude.{ℕ, List, [], ◌∷◌, bit_xor, nat_eq, if◌then◌else◌}
use Rattle.pot_bytes.specs.Product.{byte_product}
use Rattle.pot_gf.specs.Field.{inverse}

-- the product of `f a` over the points `a` other than `x`
abbrev pub product_but : ℕ → (ℕ → ℕ) → List ℕ → ℕ
product_but x f [] = 1
product_but x f (a ∷ points) =
    if nat_eq a x then product_but x f points else byte_product (f a) (product_but x f points)

-- what the value at `x` counts in the value at 0: the product of all a / (a - x) over the other
-- points
unfoldable pub lagrange_weight : List ℕ → ℕ → ℕ
lagrange_weight points x =
    byte_product (product_but x (λ a. a) points) (inverse (product_but x (λ a. bit_xor a x) points))
