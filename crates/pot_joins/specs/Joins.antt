-- Values that lie on one polynomial, and what some of them fix.
use Rattle.std.specs.Prelude.{◌≡◌, ◌↔◌, ◌<◌, ◌≤◌, ℕ, List, length, take, slice_index, nat_eq}
use Rattle.std.specs.Prelude.{bit_xor}
use Rattle.std.specs.List.{IsDistinct}
use Rattle.pot_bytes.specs.Lists.{AreBytes}
use Rattle.pot_gf.specs.Polynomials.{value, IsBelowDegree, PassesThrough}

-- the values at the points lie on one polynomial of degree below m, whose constant term is this
-- byte
abbrev pub IsOnOne : ℕ → List ℕ → List ℕ → ℕ → Type 0
IsOnOne m points values byte =
    (p : List ℕ) × AreBytes p × IsBelowDegree m p × PassesThrough points values p
    × (slice_index p 0 ≡ byte)

-- each polynomial of degree below the number of points that goes through the values has this value
-- at y
abbrev pub IsJoinAt : List ℕ → List ℕ → ℕ → ℕ → Type 0
IsJoinAt points values y joined =
    (p : List ℕ) → AreBytes p → IsBelowDegree (length points) p → PassesThrough points values p
    → joined ≡ value p y

-- distinct bytes as points, and a byte for each
pub record AreSamples (points values : List ℕ) : Type 0 where
  pub points_bytes : AreBytes points
  pub values_bytes : AreBytes values
  pub distinct : IsDistinct nat_eq points
  pub paired : length values ≡ length points

-- What the first m of some samples fix.
pub record JoinLaws : Type 0 where
  -- The values lie on one polynomial of degree below m, with this constant term, exactly where it
  -- is what the first m of them give at 0, and each other value is what they give at its point.
  pub closes : (m : ℕ) (points values : List ℕ) (joined : ℕ → ℕ) → AreSamples points values
      → m ≤ length points
      → ((y : ℕ) → IsJoinAt (take m points) (take m values) y (joined y))
      → (byte : ℕ)
      → IsOnOne m points values byte
      ↔ ((byte ≡ joined 0)
      × ((i : ℕ) → m ≤ i → i < length points
      → slice_index values i ≡ joined (slice_index points i)))
  -- A polynomial turned by y has its value at x + y at x. So what is joined at the points + y is
  -- the value at y.
  pub turned : (y : ℕ) (p : List ℕ) → AreBytes p
      → (q : List ℕ) × AreBytes q × ((n : ℕ) → IsBelowDegree n p → IsBelowDegree n q)
      × ((x : ℕ) → value q x ≡ value p (bit_xor x y))
