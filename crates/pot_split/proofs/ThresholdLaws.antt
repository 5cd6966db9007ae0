-- What makes the split by a threshold a sharing of a secret.
use Rattle.std.proofs.Common.{◌≡◌, ◌<◌, ◌≤◌, ◌⊎◌, inl, inr, ◌+◌, ◌*◌, ◌/◌, ◌++◌, bit_xor, ℕ, zero, suc, List, [], ◌∷◌, length, map, take, drop, get_or, nat_eq, refl, ap, ap₂, sym, ◌∙◌, arith, length-append, lit<}
use Rattle.std.specs.List.{IsDistinct}
use Rattle.std.specs.Int.Bits.{xor_zero_r, xor_self}
use Rattle.std.proofs.lemmas.List.{length-take-le, length-map, ext_get_or, take_all, take-append-le, drop-append-le}
use Rattle.std.proofs.lemmas.Nat.{xor_of_8}
use Rattle.std.proofs.Math.Nat.{mul-div_cancel}
use Rattle.std.proofs.Math.ListN.{drop_of_length-le}
use Rattle.pot_bytes.specs.Lists.{AreBytes}
use Rattle.pot_bytes.proofs.ListLemmas.{AreBytes-drop, AreBytes-take}
use Rattle.pot_bytes.specs.Product.{byte_product}
use Rattle.pot_bytes.specs.Sums.{xor}
use Rattle.pot_bytes.specs.Weighted.{scaled}
use Rattle.pot_bytes.proofs.TotalLemmas.{xor_cancel_left}
use Rattle.pot_bytes.proofs.ProductLemmas.{byte_product-zero_right, byte_product-one_right, byte_product-comm}
use Rattle.pot_bytes.proofs.SumLemmas.{length-xor}
use Rattle.pot_bytes.proofs.WeightedLemmas.{get_or-scaled, get_or-xor}
use Rattle.pot_gf.specs.Polynomials.{value, IsBelowDegree, vanishing}
use Rattle.pot_gf.proofs.Values.{added, get_or-added, value-added, value-scaled, value-same, value-at_zero, get_or-end}
use Rattle.pot_gf.proofs.Vanishing.{vanishing-first, vanishing-degree, vanishing-zeros}
use Rattle.pot_split.specs.Secrecy.{rows_of, IsRows}
use Rattle.pot_split.specs.Threshold.{column, polynomial_at, share, shares_at, IsJoin, changed_rows, explaining, AreNonzero}
use Rattle.pot_split.proofs.ShareLemmas.{length-column, length-share, get_or-share, first_row, other_rows}

-- rows that stand one behind another are found again
pub rows_of-append : (n size : ℕ) (row bytes : List ℕ) → length row ≡ size → rows_of (suc n) size (row ++ bytes) ≡ row ∷ rows_of n size bytes
rows_of-append n size row bytes e =
    ap₂ (λ r b. r ∷ rows_of n size b)
    (take-append-le size row bytes (omega (arith, e)) ∙ take_all size row (omega (arith, e)))
    (drop-append-le size row bytes (omega (arith, e)) ∙ ap (λ r. r ++ bytes) (drop_of_length-le row (omega (arith, e))))

rows-shares_at : (content coefficients points : List ℕ)
    → rows_of (length points) (length content) (shares_at content coefficients points) ≡ map (share content coefficients) points
rows-shares_at content coefficients [] = refl
rows-shares_at content coefficients (x ∷ points) =
    rows_of-append (length points) (length content) (share content coefficients x) (shares_at content coefficients points) (length-share content coefficients x)
    ∙ ap (λ rows. share content coefficients x ∷ rows) (rows-shares_at content coefficients points)

-- at each place the shares are values of one polynomial
column-shares : (content coefficients points : List ℕ) (k i : ℕ) → k < length content → i < length points
    → value (polynomial_at content coefficients k) (get_or points i 0) ≡ get_or (column k (map (share content coefficients) points)) i 0
column-shares content coefficients [] k i lt l = absurd (omega arith)
column-shares content coefficients (x ∷ points) k zero lt l = sym (get_or-share content coefficients x k lt)
column-shares content coefficients (x ∷ points) k (suc i) lt l = column-shares content coefficients points k i lt (omega arith)

pub column_bytes : (k n size : ℕ) (bytes : List ℕ) → AreBytes bytes → AreBytes (column k (rows_of n size bytes))
column_bytes k zero size bytes b t = lit< tt
column_bytes k (suc n) size bytes b zero = AreBytes-take size bytes b k
column_bytes k (suc n) size bytes b (suc t) = column_bytes k n size (drop size bytes) (AreBytes-drop size bytes b) t

pub polynomial_bytes : (content coefficients : List ℕ) (k : ℕ) → AreBytes content → AreBytes coefficients → AreBytes (polynomial_at content coefficients k)
polynomial_bytes content coefficients k b c zero = b k
polynomial_bytes content coefficients k b c (suc t) = column_bytes k (length coefficients / length content) (length content) coefficients c t

pub length-polynomial_at : (content coefficients : List ℕ) (k : ℕ) → length (polynomial_at content coefficients k) ≡ suc (length coefficients / length content)
length-polynomial_at content coefficients k = ap suc (length-column k (length coefficients / length content) (length content) coefficients)

pub joins_law : (content coefficients points joined : List ℕ)
    → AreBytes content → AreBytes coefficients → AreBytes points → IsDistinct nat_eq points
    → 0 < length content → IsRows (length content) coefficients → length coefficients / length content < length points
    → length joined ≡ length content → IsJoin points (shares_at content coefficients points) joined → joined ≡ content
joins_law content coefficients points joined b c p d some rows enough wide j =
    ext_get_or 0 joined content wide (λ k lt.
    j k lt (polynomial_at content coefficients k) (polynomial_bytes content coefficients k b c)
    (λ t le. get_or-end (polynomial_at content coefficients k) t (omega (arith, length-polynomial_at content coefficients k)))
    (λ i l. column-shares content coefficients points k i (omega arith) l
    ∙ ap (λ rows. get_or (column k rows) i 0) (sym (rows-shares_at content coefficients points) ∙ ap (λ s. rows_of (length points) s (shares_at content coefficients points)) (sym wide)))
    ∙ value-at_zero (polynomial_at content coefficients k) (polynomial_bytes content coefficients k b c))

pub one_row_more : (size n : ℕ) → size + n * size ≡ suc n * size
one_row_more size n = grind arith

pub length-changed_row : (difference v rows : List ℕ) (t n : ℕ) → length rows ≡ suc n * length difference
    → length (xor (take (length difference) rows) (scaled (get_or v t 0) difference)) ≡ length difference
length-changed_row difference v rows t n e =
    let row : length (take (length difference) rows) ≡ length difference = length-take-le (length difference) rows (first_row (length difference) n rows e) in
    length-xor (take (length difference) rows) (scaled (get_or v t 0) difference) (row ∙ sym (length-map difference (byte_product (get_or v t 0)))) ∙ row

pub length-changed_rows : (difference v : List ℕ) (t n : ℕ) (rows : List ℕ) → length rows ≡ n * length difference
    → length (changed_rows difference v t n rows) ≡ n * length difference
length-changed_rows difference v t zero rows e = omega arith
length-changed_rows difference v t (suc n) rows e =
    length-append (xor (take (length difference) rows) (scaled (get_or v t 0) difference)) (changed_rows difference v (suc t) n (drop (length difference) rows))
    ∙ ap₂ (λ a b. a + b) (length-changed_row difference v rows t n e)
    (length-changed_rows difference v (suc t) n (drop (length difference) rows) (other_rows (length difference) n rows e))
    ∙ one_row_more (length difference) n

-- each place of row j gets its part of the difference
column-changed : (difference v : List ℕ) (t n : ℕ) (rows : List ℕ) (k j : ℕ) → length rows ≡ n * length difference → j < n
    → get_or (column k (rows_of n (length difference) (changed_rows difference v t n rows))) j 0
    ≡ bit_xor (get_or (column k (rows_of n (length difference) rows)) j 0) (byte_product (get_or v (t + j) 0) (get_or difference k 0))
column-changed difference v t zero rows k j e lt = absurd (omega arith)
column-changed difference v t (suc n) rows k zero e lt =
    ap (λ r. get_or (column k r) 0 0) (rows_of-append n (length difference) (xor (take (length difference) rows) (scaled (get_or v t 0) difference))
    (changed_rows difference v (suc t) n (drop (length difference) rows)) (length-changed_row difference v rows t n e))
    ∙ get_or-xor (take (length difference) rows) (scaled (get_or v t 0) difference) k
    (length-take-le (length difference) rows (first_row (length difference) n rows e) ∙ sym (length-map difference (byte_product (get_or v t 0))))
    ∙ ap (bit_xor (get_or (take (length difference) rows) k 0))
    (get_or-scaled (get_or v t 0) difference k ∙ ap (λ s. byte_product (get_or v s 0) (get_or difference k 0)) (let z : t ≡ t + 0 = omega arith in z))
column-changed difference v t (suc n) rows k (suc j) e lt =
    ap (λ r. get_or (column k r) (suc j) 0) (rows_of-append n (length difference) (xor (take (length difference) rows) (scaled (get_or v t 0) difference))
    (changed_rows difference v (suc t) n (drop (length difference) rows)) (length-changed_row difference v rows t n e))
    ∙ column-changed difference v (suc t) n (drop (length difference) rows) k j (other_rows (length difference) n rows e) (omega arith)
    ∙ ap (λ s. bit_xor (get_or (column k (rows_of n (length difference) (drop (length difference) rows))) j 0) (byte_product (get_or v s 0) (get_or difference k 0)))
    (let z : suc t + j ≡ t + suc j = omega arith in z)

-- the polynomial of the other content is that of the first, and the difference times the one that
-- vanishes
polynomial-changed : (content other coefficients changed v : List ℕ) (k count : ℕ) → AreBytes content → AreBytes other
    → length other ≡ length content → length coefficients ≡ count * length content → 0 < length content
    → get_or v 0 0 ≡ 1 → IsBelowDegree (suc count) v → changed ≡ changed_rows (xor content other) v 1 count coefficients
    → (t : ℕ) → get_or (polynomial_at other changed k) t 0
    ≡ get_or (added (polynomial_at content coefficients k) (scaled (get_or (xor content other) k 0) v)) t 0
polynomial-changed content other coefficients changed v k count b c same rows some one below is t =
    left t ∙ sym (get_or-added (polynomial_at content coefficients k) (scaled (get_or (xor content other) k 0) v) t
    ∙ ap (bit_xor (get_or (polynomial_at content coefficients k) t 0)) (get_or-scaled (get_or (xor content other) k 0) v t))
  where
    size : ℕ
    size = length content

    wide : length (xor content other) ≡ size
    wide = length-xor content other (sym same)

    counted : (n : ℕ) → n ≡ count * size → n / size ≡ count
    counted n e = ap (λ z. z / size) e ∙ mul-div_cancel count some

    whole : length changed ≡ count * size
    whole = ap length is ∙ length-changed_rows (xor content other) v 1 count coefficients (rows ∙ ap (λ z. count * z) (sym wide)) ∙ ap (λ z. count * z) wide

    now : polynomial_at other changed k ≡ get_or other k 0 ∷ column k (rows_of count (length (xor content other)) (changed_rows (xor content other) v 1 count coefficients))
    now = ap (λ z. get_or other k 0 ∷ column k (rows_of (length changed / z) z changed)) same
        ∙ ap (λ z. get_or other k 0 ∷ column k (rows_of z size changed)) (counted (length changed) whole)
        ∙ ap₂ (λ s z. get_or other k 0 ∷ column k (rows_of count s z)) (sym wide) is

    before : get_or content k 0 ∷ column k (rows_of count (length (xor content other)) coefficients) ≡ polynomial_at content coefficients k
    before = ap₂ (λ n s. get_or content k 0 ∷ column k (rows_of n s coefficients)) (sym (counted (length coefficients) rows)) wide

    difference-byte : get_or (xor content other) k 0 < 256
    difference-byte = rw (get_or-xor content other k (sym same)) (xor_of_8 (get_or content k 0) (get_or other k 0) (b k) (c k))

    place : (j : ℕ) → (j < count) ⊎ (count ≤ j)
    place j = grind arith

    left : (t : ℕ) → get_or (polynomial_at other changed k) t 0
        ≡ bit_xor (get_or (polynomial_at content coefficients k) t 0) (byte_product (get_or (xor content other) k 0) (get_or v t 0))
    left zero = sym (ap (λ z. bit_xor (get_or content k 0) (byte_product (get_or (xor content other) k 0) z)) one
        ∙ ap (bit_xor (get_or content k 0)) (byte_product-one_right (get_or (xor content other) k 0) difference-byte ∙ get_or-xor content other k (sym same))
        ∙ xor_cancel_left (get_or content k 0) (get_or other k 0))
    left (suc j) = elim (place j) [
      | inl lt ↦ ap (λ p. get_or p (suc j) 0) now
          ∙ column-changed (xor content other) v 1 count coefficients k j (rows ∙ ap (λ z. count * z) (sym wide)) lt
          ∙ ap₂ bit_xor (ap (λ p. get_or p (suc j) 0) before)
          (byte_product-comm (get_or v (1 + j) 0) (get_or (xor content other) k 0) ∙ ap (λ s. byte_product (get_or (xor content other) k 0) (get_or v s 0)) (let z : 1 + j ≡ suc j = omega arith in z))
      | inr ge ↦ ap (λ p. get_or p (suc j) 0) now
          ∙ get_or-end (column k (rows_of count (length (xor content other)) (changed_rows (xor content other) v 1 count coefficients))) j
          (omega (arith, length-column k count (length (xor content other)) (changed_rows (xor content other) v 1 count coefficients)))
          ∙ sym (ap₂ bit_xor
          (ap (λ p. get_or p (suc j) 0) (sym before) ∙ get_or-end (column k (rows_of count (length (xor content other)) coefficients)) j (omega (arith, length-column k count (length (xor content other)) coefficients)))
          (ap (byte_product (get_or (xor content other) k 0)) (below (suc j) (omega arith)) ∙ byte_product-zero_right (get_or (xor content other) k 0))
          ∙ xor_self 0)
    ]

pub hides_law : (content other coefficients seen : List ℕ)
    → AreBytes content → AreBytes other → AreBytes coefficients → AreBytes seen → AreNonzero seen
    → 0 < length content → length other ≡ length content → IsRows (length content) coefficients
    → length seen ≤ length coefficients / length content
    → (i : ℕ) → i < length seen
    → share other (explaining content other seen coefficients) (get_or seen i 0) ≡ share content coefficients (get_or seen i 0)
hides_law content other coefficients seen b c d s p some same rows few i lt =
    ext_get_or 0 (share other (explaining content other seen coefficients) x) (share content coefficients x)
    (length-share other (explaining content other seen coefficients) x ∙ same ∙ sym (length-share content coefficients x))
    (λ k l.
    get_or-share other (explaining content other seen coefficients) x k (within k l)
    ∙ value-same (polynomial_at other (explaining content other seen coefficients) k) (added (polynomial_at content coefficients k) (scaled (get_or (xor content other) k 0) (vanishing seen))) x
    (polynomial-changed content other coefficients (explaining content other seen coefficients) (vanishing seen) k (length coefficients / length content) b c same rows some
    (vanishing-first seen) (λ t le. vanishing-degree seen t (omega arith)) refl)
    ∙ value-added (polynomial_at content coefficients k) (scaled (get_or (xor content other) k 0) (vanishing seen)) x
    ∙ ap (bit_xor (value (polynomial_at content coefficients k) x))
    (value-scaled (get_or (xor content other) k 0) (vanishing seen) x ∙ ap (byte_product (get_or (xor content other) k 0)) (vanishing-zeros seen s p i lt) ∙ byte_product-zero_right (get_or (xor content other) k 0))
    ∙ xor_zero_r (value (polynomial_at content coefficients k) x)
    ∙ sym (get_or-share content coefficients x k (let q : k < length content = omega (arith, within k l, same) in q)))
  where
    x : ℕ
    x = get_or seen i 0

    within : (k : ℕ) → k < length (share other (explaining content other seen coefficients) x) → k < length other
    within k l = omega (arith, length-share other (explaining content other seen coefficients) x)
