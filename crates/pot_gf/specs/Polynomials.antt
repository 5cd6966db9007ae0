-- Polynomials over the field, each the list of its coefficients, that of x^t at place t.
use Rattle.std.specs.Prelude.{◌≡◌, ℕ, ◌+◌, ◌<◌, ◌≤◌, List, [], ◌∷◌, ◌++◌, length, slice_index}
use Rattle.std.specs.Prelude.{nat_eq, bit_xor}
use Rattle.std.specs.List.{IsDistinct}
use Rattle.pot_bytes.specs.Lists.{AreBytes}
use Rattle.pot_bytes.specs.Product.{byte_product}
use Rattle.pot_bytes.specs.Totals.{total}
use Rattle.pot_bytes.specs.Sums.{xor}
use Rattle.pot_bytes.specs.Weighted.{scaled}
use Rattle.pot_gf.specs.Field.{power, inverse}

-- the value at x: the sum of all c_t x^t
unfoldable pub value : List ℕ → ℕ → ℕ
value p x = total (length p) (λ t. byte_product (slice_index p t) (power x t))

-- each coefficient of x^n and above is 0
abbrev pub IsBelowDegree : ℕ → List ℕ → Type 0
IsBelowDegree n p = (t : ℕ) → n ≤ t → slice_index p t ≡ 0

-- p + factor x p
abbrev pub plus_raised : ℕ → List ℕ → List ℕ
plus_raised factor p = xor (p ++ 0 ∷ []) (0 ∷ scaled factor p)

-- 16 coefficients
pub record IsPoly (p : List ℕ) : Type 0 where
  pub whole : length p ≡ 16
  pub bytes : AreBytes p

-- the value at each point is 0
abbrev pub VanishesAt : List ℕ → List ℕ → Type 0
VanishesAt points p = (i : ℕ) → i < length points → value p (slice_index points i) ≡ 0

-- the value at each point is the one at the same place
abbrev pub PassesThrough : List ℕ → List ℕ → List ℕ → Type 0
PassesThrough points values p =
    (i : ℕ) → i < length points → value p (slice_index points i) ≡ slice_index values i

-- the same coefficients, however many zeros are written behind them
abbrev pub IsSame : List ℕ → List ℕ → Type 0
IsSame p q = (t : ℕ) → slice_index p t ≡ slice_index q t

-- each polynomial of degree below the number of points that has these values is this one
abbrev pub IsTheOnlyOne : List ℕ → List ℕ → List ℕ → Type 0
IsTheOnlyOne points values p =
    (q : List ℕ) → AreBytes q → IsBelowDegree (length points) q → PassesThrough points values q
    → IsSame q p

-- `new` is (constant + slope x) times `old`
pub record IsTimesLine (constant slope : ℕ) (old new : List ℕ) : Type 0 where
  pub values : (x : ℕ)
      → value new x ≡ byte_product (bit_xor constant (byte_product slope x)) (value old x)
  pub degree : (n : ℕ) → IsBelowDegree n old → IsBelowDegree (n + 1) new

-- `new` has the value that is wanted at the point, and those of `old` where `node` is 0
pub record Meets (point wanted : ℕ) (node old new : List ℕ) : Type 0 where
  pub here : value new point ≡ wanted
  pub elsewhere : (x : ℕ) → value node x ≡ 0 → value new x ≡ value old x
  pub degree : (n : ℕ) → IsBelowDegree n old → IsBelowDegree n node → IsBelowDegree n new

-- The polynomial that is 1 at 0 and 0 at the points, none of which is 0: the product of all 1 + x /
-- a.
abbrev pub vanishing : List ℕ → List ℕ
vanishing [] = 1 ∷ []
vanishing (a ∷ points) = plus_raised (inverse a) (vanishing points)

-- What holds of polynomials over a field.
pub record PolynomialLaws : Type 0 where
  -- a polynomial of degree below m with m distinct zeros is zero
  pub zero : (points p : List ℕ) → AreBytes points → AreBytes p → IsDistinct nat_eq points
      → IsBelowDegree (length points) p → VanishesAt points p → (t : ℕ) → slice_index p t ≡ 0
  -- hence through m distinct points goes at most one of degree below m
  pub unique : (points values p q : List ℕ) → AreBytes points → AreBytes p → AreBytes q
      → IsDistinct nat_eq points
      → IsBelowDegree (length points) p → IsBelowDegree (length points) q
      → PassesThrough points values p → PassesThrough points values q → IsSame p q
  -- and at least one, whatever the values there are to be
  pub exists : (points values : List ℕ) → AreBytes points → AreBytes values
      → IsDistinct nat_eq points
      → (p : List ℕ) × AreBytes p × IsBelowDegree (length points) p × PassesThrough points values p
  -- and there is one that is 1 at 0 and 0 at the points, of degree at most their number
  pub vanishes : (points : List ℕ) → AreBytes points
      → ((i : ℕ) → i < length points → 0 < slice_index points i)
      → (slice_index (vanishing points) 0 ≡ 1) × VanishesAt points (vanishing points)
      × IsBelowDegree (length points + 1) (vanishing points)
