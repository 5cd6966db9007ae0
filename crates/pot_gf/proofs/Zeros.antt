-- A polynomial of degree below m with m distinct zeros is zero, by division by x - a for a zero a.
use Rattle.std.proofs.Common.{◌≡◌, ◌≢◌, ℕ, zero, suc, ◌-◌, ◌<◌, ◌≤◌, bit_xor, List, [], ◌∷◌, length, get_or, nat_eq, false, refl, sym, ap, ap₂, ◌∙◌, arith, lit<}
use Rattle.std.specs.List.{IsDistinct, AllByRecursion}
use Rattle.std.specs.Int.Bits.{xor_zero_r, xor_zero_l, xor_self}
use Rattle.std.proofs.lemmas.Nat.{xor_comm, xor_of_8}
use Rattle.std.proofs.lemmas.Bool.Decides.{nat_tests}
use Rattle.std.proofs.lemmas.Map.Keys.{IsDistinct-head, IsDistinct-tail}
use Rattle.pot_bytes.specs.Lists.{AreBytes}
use Rattle.pot_bytes.specs.Product.{byte_product}
use Rattle.pot_bytes.proofs.TotalLemmas.{interchange, from_zero}
use Rattle.pot_bytes.proofs.ProductLemmas.{byte_product-xor_left, byte_product-xor_right, byte_product-zero_right, byte_product-one_right}
use Rattle.pot_gf.specs.Polynomials.{value, IsBelowDegree, VanishesAt, PassesThrough, IsSame}
use Rattle.pot_gf.proofs.FieldLemmas.{byte_product-cancel}
use Rattle.pot_gf.proofs.Values.{byte_product-swap, value-nil, value-cons, value-below, value-zero, added, get_or-added, value-added}

-- division by x - a: the quotient of c + x p is the list of the values at a of p and of what
-- follows it
quotient : ℕ → List ℕ → List ℕ
quotient a [] = []
quotient a (c ∷ p) = value (c ∷ p) a ∷ quotient a p

-- the constant term falls out of a difference
difference : (c : ℕ) (p : List ℕ) (x a : ℕ) → bit_xor (value (c ∷ p) x) (value (c ∷ p) a) ≡ bit_xor (byte_product x (value p x)) (byte_product a (value p a))
difference c p x a =
    ap₂ bit_xor (value-cons c p x) (value-cons c p a)
    ∙ interchange (byte_product c 1) (byte_product x (value p x)) (byte_product c 1) (byte_product a (value p a))
    ∙ ap (λ z. bit_xor z (bit_xor (byte_product x (value p x)) (byte_product a (value p a)))) (xor_self (byte_product c 1))
    ∙ xor_zero_l (bit_xor (byte_product x (value p x)) (byte_product a (value p a)))

crosswise : (p q r : ℕ) → bit_xor (bit_xor p q) (bit_xor r p) ≡ bit_xor r q
crosswise p q r =
    ap (λ z. bit_xor z (bit_xor r p)) (xor_comm p q) ∙ ap (bit_xor (bit_xor q p)) (xor_comm r p)
    ∙ interchange q p p r ∙ ap (λ z. bit_xor z (bit_xor p r)) (xor_comm q p) ∙ interchange p q p r
    ∙ ap (λ z. bit_xor z (bit_xor q r)) (xor_self p) ∙ xor_zero_l (bit_xor q r) ∙ xor_comm q r

divided : (p : List ℕ) (a x : ℕ) → byte_product (bit_xor x a) (value (quotient a p) x) ≡ bit_xor (byte_product x (value p x)) (byte_product a (value p a))
unfolding quotient
divided [] a x =
    ap (byte_product (bit_xor x a)) (value-nil x) ∙ byte_product-zero_right (bit_xor x a)
    ∙ sym (ap₂ bit_xor (ap (byte_product x) (value-nil x) ∙ byte_product-zero_right x) (ap (byte_product a) (value-nil a) ∙ byte_product-zero_right a) ∙ xor_self 0)
divided (c ∷ p) a x =
    ap (byte_product (bit_xor x a)) (value-cons (value (c ∷ p) a) (quotient a p) x
    ∙ ap (λ z. bit_xor z (byte_product x (value (quotient a p) x))) (byte_product-one_right (value (c ∷ p) a) (value-below (c ∷ p) a)))
    ∙ byte_product-xor_right (bit_xor x a) (value (c ∷ p) a) (byte_product x (value (quotient a p) x))
    ∙ ap₂ bit_xor (byte_product-xor_left x a (value (c ∷ p) a))
    (byte_product-swap (bit_xor x a) x (value (quotient a p) x)
    ∙ ap (byte_product x) (divided p a x ∙ sym (difference c p x a))
    ∙ byte_product-xor_right x (value (c ∷ p) x) (value (c ∷ p) a))
    ∙ crosswise (byte_product x (value (c ∷ p) a)) (byte_product a (value (c ∷ p) a)) (byte_product x (value (c ∷ p) x))

quotient-bytes : (a : ℕ) (p : List ℕ) → AreBytes (quotient a p)
unfolding quotient
quotient-bytes a [] t = lit< tt
quotient-bytes a (c ∷ p) zero = value-below (c ∷ p) a
quotient-bytes a (c ∷ p) (suc t) = quotient-bytes a p t

quotient-below : (a : ℕ) (p : List ℕ) (n t : ℕ) → IsBelowDegree n p → n ≤ t → get_or (quotient a p) t 0 ≡ 0
unfolding quotient
quotient-below a [] n t h le = refl
quotient-below a (c ∷ p) n zero h le = value-zero (c ∷ p) a (λ t l. h t (omega arith))
quotient-below a (c ∷ p) n (suc t) h le = quotient-below a p (n - 1) t (λ k l. h (suc k) (omega arith)) (omega arith)

-- where all values of what follows are 0, so are the coefficients
quotient-zero : (a : ℕ) (p : List ℕ) → AreBytes p → ((t : ℕ) → get_or (quotient a p) t 0 ≡ 0) → (t : ℕ) → get_or p t 0 ≡ 0
unfolding quotient
quotient-zero a [] b h t = refl
quotient-zero a (c ∷ p) b h zero =
    sym (byte_product-one_right c (b 0)) ∙ sym (xor_zero_r (byte_product c 1))
    ∙ ap (bit_xor (byte_product c 1)) (sym (ap (byte_product a) (value-zero p a (λ t _. quotient-zero a p (λ k. b (suc k)) (λ k. h (suc k)) t)) ∙ byte_product-zero_right a))
    ∙ sym (value-cons c p a) ∙ h 0
quotient-zero a (c ∷ p) b h (suc t) = quotient-zero a p (λ k. b (suc k)) (λ k. h (suc k)) t

-- a point is none of those behind it
pub apart : (a : ℕ) (rest : List ℕ) (i : ℕ) → AllByRecursion (λ y. nat_eq a y ≡ false) rest → i < length rest → a ≢ get_or rest i 0
apart a [] i h lt = absurd (omega arith)
apart a (b ∷ rest) zero h lt = differ a b h.0
  where
    differ : (a b : ℕ) → nat_eq a b ≡ false → a ≢ b
    differ a b h = grind (arith, nat_tests)
apart a (b ∷ rest) (suc i) h lt = apart a rest i h.1 (omega arith)

-- the quotient vanishes at the other zeros
at_others : (a c : ℕ) (rest p : List ℕ) → AreBytes (a ∷ rest) → IsDistinct nat_eq (a ∷ rest) → VanishesAt (a ∷ rest) (c ∷ p) → VanishesAt rest (quotient a p)
at_others a c rest p b d z i lt =
    let ne : a ≢ get_or rest i 0 = apart a rest i (IsDistinct-head nat_eq a rest d) lt in
    byte_product-cancel (bit_xor (get_or rest i 0) a) (value (quotient a p) (get_or rest i 0))
    (positive (get_or rest i 0) a ne) (xor_of_8 (get_or rest i 0) a (b (suc i)) (b 0)) (value-below (quotient a p) (get_or rest i 0))
    (divided p a (get_or rest i 0) ∙ sym (difference c p (get_or rest i 0) a) ∙ ap₂ bit_xor (z (suc i) (omega arith)) (z 0 (omega arith)) ∙ xor_self 0)
  where
    some : (n : ℕ) → n ≢ 0 → 0 < n
    some n h = grind arith

    positive : (b a : ℕ) → a ≢ b → 0 < bit_xor b a
    positive b a ne = some (bit_xor b a) (λ e. ne (sym (from_zero b a e)))

-- a constant with a zero is 0
constant_zero : (c a : ℕ) (p : List ℕ) → c < 256 → ((t : ℕ) → get_or p t 0 ≡ 0) → value (c ∷ p) a ≡ 0 → (t : ℕ) → get_or (c ∷ p) t 0 ≡ 0
constant_zero c a p lt behind z zero =
    sym (byte_product-one_right c lt) ∙ sym (xor_zero_r (byte_product c 1))
    ∙ ap (bit_xor (byte_product c 1)) (sym (ap (byte_product a) (value-zero p a (λ t _. behind t)) ∙ byte_product-zero_right a))
    ∙ sym (value-cons c p a) ∙ z
constant_zero c a p lt behind z (suc t) = behind t

pub zero_law : (points p : List ℕ) → AreBytes points → AreBytes p → IsDistinct nat_eq points
    → IsBelowDegree (length points) p → VanishesAt points p → (t : ℕ) → get_or p t 0 ≡ 0
zero_law [] p bp b d h z = λ t. h t (omega arith)
zero_law (a ∷ rest) [] bp b d h z = λ t. refl
zero_law (a ∷ rest) (c ∷ p) bp b d h z =
    constant_zero c a p (b 0)
    (quotient-zero a p (λ k. b (suc k))
    (zero_law rest (quotient a p) (λ k. bp (suc k)) (quotient-bytes a p) (IsDistinct-tail nat_eq a rest d)
    (λ t l. quotient-below a p (length rest) t (λ k m. h (suc k) (omega arith)) l)
    (at_others a c rest p bp d z)))
    (z 0 (omega arith))

pub unique_law : (points values p q : List ℕ) → AreBytes points → AreBytes p → AreBytes q → IsDistinct nat_eq points
    → IsBelowDegree (length points) p → IsBelowDegree (length points) q
    → PassesThrough points values p → PassesThrough points values q → IsSame p q
unique_law points values p q bp b c d hp hq zp zq t =
    from_zero (get_or p t 0) (get_or q t 0)
    (sym (get_or-added p q t)
    ∙ zero_law points (added p q) bp (λ k. rw get_or-added (xor_of_8 (get_or p k 0) (get_or q k 0) (b k) (c k))) d
    (λ k l. get_or-added p q k ∙ ap₂ bit_xor (hp k l) (hq k l) ∙ xor_self 0)
    (λ i l. value-added p q (get_or points i 0) ∙ ap₂ bit_xor (zp i l) (zq i l) ∙ xor_self (get_or values i 0)) t)
