-- The split by a threshold (Shamir 1979). With m - 1 rows of coefficients, any m shares of a
-- content give it, and whatever fewer of them are, they are shares of any other content too.
use Rattle.std.specs.Prelude.{◌≡◌, ℕ, zero, suc, ◌/◌, ◌<◌, ◌≤◌, List, [], ◌∷◌, ◌++◌, length, map}
use Rattle.std.specs.Prelude.{take, drop, slice_index, nat_eq}
use Rattle.std.specs.List.{range_with_len, IsDistinct}
use Rattle.pot_bytes.specs.Lists.{AreBytes}
use Rattle.pot_bytes.specs.Sums.{xor}
use Rattle.pot_bytes.specs.Weighted.{scaled}
use Rattle.pot_gf.specs.Polynomials.{value, IsBelowDegree, PassesThrough, vanishing}
use Rattle.pot_split.specs.Secrecy.{rows_of, IsRows}

-- the bytes at place k of the rows
abbrev pub column : ℕ → List (List ℕ) → List ℕ
column k rows = map (λ row. slice_index row k) rows

-- The polynomial at place k: its constant term is that byte of the content, and its coefficient of
-- x^t that place of row t of the coefficients, which stand row by row, each as long as the content.
abbrev pub polynomial_at : List ℕ → List ℕ → ℕ → List ℕ
polynomial_at content coefficients k =
    slice_index content k
    ∷ column k (rows_of (length coefficients / length content) (length content) coefficients)

-- the share at the point x: at each place the value there of its polynomial
unfoldable pub share : List ℕ → List ℕ → ℕ → List ℕ
share content coefficients x =
    map (λ k. value (polynomial_at content coefficients k) x) (range_with_len 0 (length content))

-- the shares at the points, row by row
abbrev pub shares_at : List ℕ → List ℕ → List ℕ → List ℕ
shares_at content coefficients [] = []
shares_at content coefficients (x ∷ points) =
    share content coefficients x ++ shares_at content coefficients points

-- What is joined has at each place the value at 0 of the polynomial of degree below the number of
-- points that goes through the shares there. There is exactly one where the points are distinct.
abbrev pub IsJoin : List ℕ → List ℕ → List ℕ → Type 0
IsJoin points shares joined =
    (k : ℕ) → k < length joined → (p : List ℕ) → AreBytes p → IsBelowDegree (length points) p
    → PassesThrough points (column k (rows_of (length points) (length joined) shares)) p
    → slice_index joined k ≡ value p 0

-- `count` rows of coefficients from row t on, to each of which the difference times v's coefficient
-- of x^t is added
abbrev pub changed_rows : List ℕ → List ℕ → ℕ → ℕ → List ℕ → List ℕ
changed_rows difference v t zero rows = []
changed_rows difference v t (suc count) rows =
    xor (take (length difference) rows) (scaled (slice_index v t) difference)
    ++ changed_rows difference v (suc t) count (drop (length difference) rows)

-- The coefficients with which another content has the same shares at the seen points: at each place
-- the difference of the two contents is added, times the polynomial that is 1 at 0 and 0 at the
-- seen points.
abbrev pub explaining : List ℕ → List ℕ → List ℕ → List ℕ → List ℕ
explaining content other seen coefficients =
    changed_rows (xor content other) (vanishing seen) 1 (length coefficients / length content)
    coefficients

-- points other than 0
abbrev pub AreNonzero : List ℕ → Type 0
AreNonzero points = (i : ℕ) → i < length points → 0 < slice_index points i

-- What makes it a sharing of a secret.
pub record ThresholdLaws : Type 0 where
  -- the join of more shares than there are rows of coefficients, at distinct points, is the content
  pub joins : (content coefficients points joined : List ℕ)
      → AreBytes content → AreBytes coefficients → AreBytes points → IsDistinct nat_eq points
      → 0 < length content → IsRows (length content) coefficients
      → length coefficients / length content < length points
      → length joined ≡ length content
      → IsJoin points (shares_at content coefficients points) joined → joined ≡ content
  -- shares at no more points than there are rows of coefficients are those of any other content too
  pub hides : (content other coefficients seen : List ℕ)
      → AreBytes content → AreBytes other → AreBytes coefficients → AreBytes seen → AreNonzero seen
      → 0 < length content → length other ≡ length content → IsRows (length content) coefficients
      → length seen ≤ length coefficients / length content
      → (i : ℕ) → i < length seen
      → share other (explaining content other seen coefficients) (slice_index seen i)
      ≡ share content coefficients (slice_index seen i)
  -- by coefficients that are as many and are bytes, and that give the first ones back with the
  -- contents exchanged: so by a bijection
  pub as_many : (content other seen coefficients : List ℕ) → 0 < length content
      → length other ≡ length content
      → IsRows (length content) coefficients
      → length (explaining content other seen coefficients) ≡ length coefficients
  pub bytes : (content other seen coefficients : List ℕ) → AreBytes coefficients
      → AreBytes (explaining content other seen coefficients)
  pub back : (content other seen coefficients : List ℕ) → 0 < length content
      → length other ≡ length content
      → IsRows (length content) coefficients
      → explaining other content seen (explaining content other seen coefficients) ≡ coefficients
  -- whatever the shares at distinct points, there is a join of them of each length, and no other
  pub exists : (points shares : List ℕ) (size : ℕ) → AreBytes points → AreBytes shares
      → IsDistinct nat_eq points
      → (joined : List ℕ) × (length joined ≡ size) × IsJoin points shares joined
  pub unique : (points shares a b : List ℕ) → AreBytes points → AreBytes shares
      → IsDistinct nat_eq points
      → length a ≡ length b → IsJoin points shares a → IsJoin points shares b → a ≡ b
