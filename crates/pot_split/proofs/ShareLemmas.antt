-- Shares, place by place.
use Rattle.std.proofs.Common.{◌≡◌, ◌<◌, ◌≤◌, ◌+◌, ◌*◌, ◌/◌, bit_xor, ℕ, zero, suc, List, [], ◌∷◌, length, take, drop, get_or, nat_eq, refl, ap, ap₂, sym, ◌∙◌, subst, arith, length-drop, replicate}
use Rattle.std.specs.List.{IsDistinct}
use Rattle.std.proofs.lemmas.List.{length-take-le, length-replicate, length-map, ext_get_or}
use Rattle.std.proofs.lemmas.List.FromFn.{get_or-map-range_with_len, length-map-range_with_len}
use Rattle.pot_bytes.specs.Lists.{AreBytes}
use Rattle.pot_bytes.specs.Product.{byte_product}
use Rattle.pot_bytes.specs.Totals.{total}
use Rattle.pot_bytes.specs.Sums.{xor}
use Rattle.pot_bytes.specs.Weighted.{scaled, weighted_sum}
use Rattle.pot_bytes.proofs.TotalLemmas.{total_first, total_same}
use Rattle.pot_bytes.proofs.ProductLemmas.{byte_product-xor_right, byte_product-zero_right, byte_product-one_left, byte_product-one_right, byte_product-below}
use Rattle.pot_bytes.proofs.SumLemmas.{length-xor, xor_replicate}
use Rattle.pot_bytes.proofs.WeightedLemmas.{get_or-scaled, get_or-xor}
use Rattle.pot_gf.specs.Field.{power}
use Rattle.pot_gf.specs.Lagrange.{lagrange_weight}
use Rattle.pot_gf.specs.Polynomials.{value, PassesThrough}
use Rattle.pot_gf.proofs.FieldLemmas.{byte_product-assoc}
use Rattle.pot_gf.proofs.Values.{byte_product-swap, value-nil, value-cons, value-below}
use Rattle.pot_gf.proofs.Built.{zeros-below}
use Rattle.pot_gf.proofs.Polys.{get_or-take}
use Rattle.pot_gf.proofs.LagrangeLemmas.{value-lagrange}
use Rattle.pot_split.specs.Secrecy.{rows_of, IsRows}
use Rattle.pot_split.specs.Threshold.{column, polynomial_at, share, IsJoin}

-- the sum of weight times byte
dot : List ℕ → List ℕ → ℕ
dot [] cs = 0
dot (w ∷ ws) [] = 0
dot (w ∷ ws) (c ∷ cs) = bit_xor (byte_product w c) (dot ws cs)

pub first_row : (size n : ℕ) (bytes : List ℕ) → length bytes ≡ suc n * size → size ≤ length bytes
first_row size n bytes e = grind arith

pub other_rows : (size n : ℕ) (bytes : List ℕ) → length bytes ≡ suc n * size → length (drop size bytes) ≡ n * size
other_rows size n bytes e = grind (arith, length-drop)

pub length-weighted_rows : (size n : ℕ) (ws bytes : List ℕ) → length bytes ≡ n * size → length (weighted_sum size ws (rows_of n size bytes)) ≡ size
length-weighted_rows size n [] bytes e = length-replicate {A = ℕ} size 0
length-weighted_rows size zero (w ∷ ws) bytes e = length-replicate {A = ℕ} size 0
length-weighted_rows size (suc n) (w ∷ ws) bytes e =
    let row : length (scaled w (take size bytes)) ≡ size = length-map (take size bytes) (byte_product w) ∙ length-take-le size bytes (first_row size n bytes e) in
    length-xor (scaled w (take size bytes)) (weighted_sum size ws (rows_of n size (drop size bytes)))
    (row ∙ sym (length-weighted_rows size n ws (drop size bytes) (other_rows size n bytes e))) ∙ row

-- each place of a weighted sum of rows is that of its column
get_or-weighted_rows : (size n k : ℕ) (ws bytes : List ℕ) → length bytes ≡ n * size
    → get_or (weighted_sum size ws (rows_of n size bytes)) k 0 ≡ dot ws (column k (rows_of n size bytes))
unfolding dot
get_or-weighted_rows size n k [] bytes e = zeros-below size k
get_or-weighted_rows size zero k (w ∷ ws) bytes e = zeros-below size k
get_or-weighted_rows size (suc n) k (w ∷ ws) bytes e =
    let row : length (scaled w (take size bytes)) ≡ size = length-map (take size bytes) (byte_product w) ∙ length-take-le size bytes (first_row size n bytes e) in
    get_or-xor (scaled w (take size bytes)) (weighted_sum size ws (rows_of n size (drop size bytes))) k
    (row ∙ sym (length-weighted_rows size n ws (drop size bytes) (other_rows size n bytes e)))
    ∙ ap₂ bit_xor (get_or-scaled w (take size bytes) k) (get_or-weighted_rows size n k ws (drop size bytes) (other_rows size n bytes e))

-- with the powers of x as weights, from that of s on, it is the value times x^s
dot-powers : (x s : ℕ) (ws cs : List ℕ) → length ws ≡ length cs → ((t : ℕ) → t < length ws → get_or ws t 0 ≡ power x (t + s))
    → dot ws cs ≡ byte_product (power x s) (value cs x)
unfolding dot power
dot-powers x s [] [] e h = sym (ap (byte_product (power x s)) (value-nil x) ∙ byte_product-zero_right (power x s))
dot-powers x s [] (c ∷ cs) e h = absurd (omega arith)
dot-powers x s (w ∷ ws) [] e h = absurd (omega arith)
dot-powers x s (w ∷ ws) (c ∷ cs) e h =
    ap₂ bit_xor
    (ap (λ z. byte_product z c) (h 0 (omega arith) ∙ ap (power x) (let z : 0 + s ≡ s = omega arith in z))
    ∙ sym (byte_product-one_right (byte_product (power x s) c) (byte_product-below (power x s) c)) ∙ byte_product-assoc (power x s) c 1)
    (dot-powers x (suc s) ws cs (omega arith) (λ t lt. h (suc t) (omega arith) ∙ ap (power x) (let z : suc t + s ≡ t + suc s = omega arith in z))
    ∙ byte_product-assoc x (power x s) (value cs x) ∙ byte_product-swap x (power x s) (value cs x))
    ∙ sym (byte_product-xor_right (power x s) (byte_product c 1) (byte_product x (value cs x)))
    ∙ ap (byte_product (power x s)) (sym (value-cons c cs x))

length-rows_of : (n size : ℕ) (bytes : List ℕ) → length (rows_of n size bytes) ≡ n
length-rows_of zero size bytes = refl
length-rows_of (suc n) size bytes = ap suc (length-rows_of n size (drop size bytes))

pub length-column : (k n size : ℕ) (bytes : List ℕ) → length (column k (rows_of n size bytes)) ≡ n
length-column k n size bytes = length-map (rows_of n size bytes) (λ row. get_or row k 0) ∙ length-rows_of n size bytes

pub length-share : (content coefficients : List ℕ) (x : ℕ) → length (share content coefficients x) ≡ length content
unfolding share
length-share content coefficients x = length-map-range_with_len (λ k. value (polynomial_at content coefficients k) x) 0 (length content)

pub get_or-share : (content coefficients : List ℕ) (x k : ℕ) → k < length content → get_or (share content coefficients x) k 0 ≡ value (polynomial_at content coefficients k) x
unfolding share
get_or-share content coefficients x k lt =
    get_or-map-range_with_len (λ k. value (polynomial_at content coefficients k) x) 0 (length content) k k 0 lt (let e : 0 + k ≡ k = omega arith in e)

-- the content and the rows of coefficients, each times its power of the point
pub share-is : (content coefficients ws : List ℕ) (x : ℕ) → AreBytes content → IsRows (length content) coefficients
    → length ws ≡ length coefficients / length content → ((t : ℕ) → t < length ws → get_or ws t 0 ≡ power x (t + 1))
    → xor content (weighted_sum (length content) ws (rows_of (length coefficients / length content) (length content) coefficients)) ≡ share content coefficients x
unfolding power
share-is content coefficients ws x b rows n h =
    let size : ℕ = length content in
    let count : ℕ = length coefficients / size in
    let wide : length content ≡ length (weighted_sum size ws (rows_of count size coefficients)) = sym (length-weighted_rows size count ws coefficients rows) in
    ext_get_or 0 (xor content (weighted_sum size ws (rows_of count size coefficients))) (share content coefficients x)
    (length-xor content (weighted_sum size ws (rows_of count size coefficients)) wide ∙ sym (length-share content coefficients x))
    (λ k lt.
    get_or-xor content (weighted_sum size ws (rows_of count size coefficients)) k wide
    ∙ ap₂ bit_xor (sym (byte_product-one_right (get_or content k 0) (b k)))
    (get_or-weighted_rows size count k ws coefficients rows
    ∙ dot-powers x 1 ws (column k (rows_of count size coefficients)) (n ∙ sym (length-column k count size coefficients)) h
    ∙ byte_product-assoc x 1 (value (column k (rows_of count size coefficients)) x)
    ∙ ap (byte_product x) (byte_product-one_left (value (column k (rows_of count size coefficients)) x) (value-below (column k (rows_of count size coefficients)) x)))
    ∙ sym (value-cons (get_or content k 0) (column k (rows_of count size coefficients)) x)
    ∙ sym (get_or-share content coefficients x k (let l : k < length content = omega (arith, length-xor content (weighted_sum size ws (rows_of count size coefficients)) wide) in l)))

few_rows : (size n bytes : ℕ) → 0 < size → bytes ≤ n * size → bytes / size ≤ n
few_rows size n bytes some h = grind arith

-- what a share is made of
pub shared : (content coefficients powers start : List ℕ) (x : ℕ) → AreBytes content → 0 < length content → IsRows (length content) coefficients
    → length coefficients ≤ 15 * length content → length powers ≡ 15 → ((t : ℕ) → t < 15 → get_or powers t 0 ≡ power x (t + 1)) → start ≡ content
    → xor start (weighted_sum (length start) (take (length coefficients / length content) powers)
    (rows_of (length (take (length coefficients / length content) powers)) (length start) coefficients))
    ≡ share content coefficients x
shared content coefficients powers start x b some rows few whole h e =
    let count : ℕ = length coefficients / length content in
    let small : count ≤ 15 = few_rows (length content) 15 (length coefficients) some few in
    let n : length (take count powers) ≡ count = length-take-le count powers (omega arith) in
    ap (λ s. xor s (weighted_sum (length s) (take count powers) (rows_of (length (take count powers)) (length s) coefficients))) e
    ∙ ap (λ k. xor content (weighted_sum (length content) (take count powers) (rows_of k (length content) coefficients))) n
    ∙ share-is content coefficients (take count powers) x b rows n (λ t lt. get_or-take count t powers (omega arith) ∙ h t (omega arith))

dot-total : (ws cs : List ℕ) → length ws ≡ length cs → dot ws cs ≡ total (length ws) (λ i. byte_product (get_or ws i 0) (get_or cs i 0))
unfolding dot total
dot-total [] cs e = refl
dot-total (w ∷ ws) [] e = absurd (omega arith)
dot-total (w ∷ ws) (c ∷ cs) e =
    ap (bit_xor (byte_product w c)) (dot-total ws cs (omega arith))
    ∙ sym (total_first (length ws) (λ i. byte_product (get_or (w ∷ ws) i 0) (get_or (c ∷ cs) i 0)))

-- shares times Lagrange's weights are joined
pub join-is : (points ws shares : List ℕ) (size : ℕ) → AreBytes points → IsDistinct nat_eq points → length ws ≡ length points
    → ((i : ℕ) → i < length points → get_or ws i 0 ≡ lagrange_weight points (get_or points i 0)) → length shares ≡ length points * size
    → IsJoin points shares (weighted_sum size ws (rows_of (length points) size shares))
join-is points ws shares size b d n h e k lt p bytes degree through =
    let m : ℕ = length points in
    let wide : length (weighted_sum size ws (rows_of m size shares)) ≡ size = length-weighted_rows size m ws shares e in
    let across : PassesThrough points (column k (rows_of m size shares)) p =
    subst (λ s. PassesThrough points (column k (rows_of m s shares)) p) wide through in
    get_or-weighted_rows size m k ws shares e
    ∙ dot-total ws (column k (rows_of m size shares)) (n ∙ sym (length-column k m size shares))
    ∙ ap (λ j. total j (λ i. byte_product (get_or ws i 0) (get_or (column k (rows_of m size shares)) i 0))) n
    ∙ total_same m _ _ (λ i l. ap₂ byte_product (h i l) (sym (across i l)))
    ∙ sym (value-lagrange points p b bytes d degree)

pub joined : (points weights shares start : List ℕ) → AreBytes points → IsDistinct nat_eq points → length points ≤ 16 → length weights ≡ 16
    → ((i : ℕ) → i < length points → get_or weights i 0 ≡ lagrange_weight points (get_or points i 0))
    → length shares ≡ length points * length start → start ≡ replicate (length start) 0
    → IsJoin points shares (xor start (weighted_sum (length start) (take (length points) weights) (rows_of (length (take (length points) weights)) (length start) shares)))
joined points weights shares start b d few whole h e z =
    let m : ℕ = length points in
    let size : ℕ = length start in
    let n : length (take m weights) ≡ m = length-take-le m weights (omega arith) in
    let sum : List ℕ = weighted_sum size (take m weights) (rows_of m size shares) in
    let wide : length sum ≡ size = length-weighted_rows size m (take m weights) shares e in
    subst (IsJoin points shares)
    (sym (ap (λ j. xor start (weighted_sum size (take m weights) (rows_of j size shares))) n ∙ ap (λ s. xor s sum) z ∙ xor_replicate size sum (omega (arith, wide))))
    (join-is points (take m weights) shares size b d n (λ i l. get_or-take m i weights l ∙ h i l) e)
