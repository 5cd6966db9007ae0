-- The polynomial that is 1 at 0 and 0 at the points.
use Rattle.std.proofs.Common.{◌≡◌, ℕ, zero, suc, ◌+◌, ◌<◌, bit_xor, List, [], ◌∷◌, ◌++◌, length, get_or, nat_eq, false, replicate, refl, sym, ap, ap₂, subst, ◌∙◌, arith, lit<, length-append}
use Rattle.std.specs.List.{AllByRecursion, IsDistinct}
use Rattle.std.proofs.lemmas.Bool.Decides.{nat_tests}
use Rattle.std.proofs.lemmas.Map.Keys.{IsDistinct-cons}
use Rattle.std.proofs.lemmas.List.{length-map}
use Rattle.pot_bytes.specs.Lists.{AreBytes}
use Rattle.pot_bytes.proofs.ListLemmas.{AreBytes-append, AreBytes-cons, AreBytes-xor}
use Rattle.pot_bytes.specs.Product.{byte_product}
use Rattle.pot_bytes.specs.Weighted.{scaled}
use Rattle.pot_bytes.proofs.SumLemmas.{length-xor}
use Rattle.pot_bytes.proofs.ProductLemmas.{byte_product-below, byte_product-xor_left, byte_product-zero_left, byte_product-zero_right, byte_product-one_left, byte_product-comm}
use Rattle.pot_bytes.proofs.WeightedLemmas.{get_or-scaled, get_or-xor}
use Rattle.pot_gf.specs.Field.{inverse}
use Rattle.pot_gf.specs.Polynomials.{value, IsBelowDegree, VanishesAt, PassesThrough, IsSame, plus_raised, vanishing, PolynomialLaws}
use Rattle.pot_gf.proofs.FieldLemmas.{byte_product-assoc, byte_product-inverse}
use Rattle.pot_gf.proofs.Values.{byte_product-swap, value-cons, value-xor, value-scaled, value-below, value-same, value-at_zero, get_or-end}
use Rattle.pot_gf.proofs.Zeros.{zero_law, unique_law}
use Rattle.pot_gf.proofs.Built.{zeros-below}
use Rattle.pot_gf.proofs.LagrangeLemmas.{exists_law}

-- a zero behind the coefficients changes nothing
behind : (p : List ℕ) → IsSame (p ++ 0 ∷ []) p
behind [] zero = refl
behind [] (suc t) = refl
behind (c ∷ p) zero = refl
behind (c ∷ p) (suc t) = behind p t

value-plus_raised : (factor : ℕ) (p : List ℕ) (x : ℕ) → value (plus_raised factor p) x ≡ byte_product (bit_xor 1 (byte_product factor x)) (value p x)
value-plus_raised factor p x =
    value-xor (p ++ 0 ∷ []) (0 ∷ scaled factor p) x (length-append p (0 ∷ []) ∙ (let e : length p + 1 ≡ suc (length p) = omega arith in e) ∙ ap suc (sym (length-map p (byte_product factor))))
    ∙ ap₂ bit_xor (value-same (p ++ 0 ∷ []) p x (behind p) ∙ sym (byte_product-one_left (value p x) (value-below p x)))
    (value-cons 0 (scaled factor p) x ∙ ap₂ bit_xor (byte_product-zero_left 1) (ap (byte_product x) (value-scaled factor p x))
    ∙ byte_product-swap x factor (value p x) ∙ sym (byte_product-assoc factor x (value p x)))
    ∙ sym (byte_product-xor_left 1 (byte_product factor x) (value p x))

-- both summands are one longer than the polynomial
as_long : (factor : ℕ) (p : List ℕ) → length (p ++ 0 ∷ []) ≡ length (0 ∷ scaled factor p)
as_long factor p =
    length-append p (0 ∷ []) ∙ (let e : length p + 1 ≡ suc (length p) = omega arith in e) ∙ ap suc (sym (length-map p (byte_product factor)))

pub length-vanishing : (points : List ℕ) → length (vanishing points) ≡ suc (length points)
length-vanishing [] = refl
length-vanishing (a ∷ points) =
    length-xor (vanishing points ++ 0 ∷ []) (0 ∷ scaled (inverse a) (vanishing points)) (as_long (inverse a) (vanishing points))
    ∙ length-append (vanishing points) (0 ∷ []) ∙ (let e : length (vanishing points) + 1 ≡ suc (length (vanishing points)) = omega arith in e)
    ∙ ap suc (length-vanishing points)

pub vanishing-first : (points : List ℕ) → get_or (vanishing points) 0 0 ≡ 1
vanishing-first [] = refl
vanishing-first (a ∷ points) =
    get_or-xor (vanishing points ++ 0 ∷ []) (0 ∷ scaled (inverse a) (vanishing points)) 0 (as_long (inverse a) (vanishing points))
    ∙ ap (λ z. bit_xor z 0) (behind (vanishing points) 0 ∙ vanishing-first points)

pub vanishing-degree : (points : List ℕ) → IsBelowDegree (length points + 1) (vanishing points)
vanishing-degree points t le = get_or-end (vanishing points) t (omega (arith, length-vanishing points))

pub vanishing-zeros : (points : List ℕ) → AreBytes points → ((i : ℕ) → i < length points → 0 < get_or points i 0) → VanishesAt points (vanishing points)
vanishing-zeros [] b h i lt = absurd (omega arith)
vanishing-zeros (a ∷ points) b h zero lt =
    value-plus_raised (inverse a) (vanishing points) a
    ∙ ap (λ z. byte_product (bit_xor 1 z) (value (vanishing points) a)) (byte_product-comm (inverse a) a ∙ byte_product-inverse a (h 0 (omega arith)) (b 0))
    ∙ byte_product-zero_left (value (vanishing points) a)
vanishing-zeros (a ∷ points) b h (suc i) lt =
    value-plus_raised (inverse a) (vanishing points) (get_or points i 0)
    ∙ ap (byte_product (bit_xor 1 (byte_product (inverse a) (get_or points i 0)))) (vanishing-zeros points (λ k. b (suc k)) (λ k l. h (suc k) (omega arith)) i (omega arith))
    ∙ byte_product-zero_right (bit_xor 1 (byte_product (inverse a) (get_or points i 0)))

pub scaled-bytes : (w : ℕ) (xs : List ℕ) → AreBytes (scaled w xs)
scaled-bytes w xs k = subst (λ (z : ℕ). z < 256) (sym (get_or-scaled w xs k)) (byte_product-below w (get_or xs k 0))

vanishing-bytes : (points : List ℕ) → AreBytes (vanishing points)
vanishing-bytes [] = AreBytes-cons 1 [] (lit< tt) (λ k. lit< tt)
vanishing-bytes (a ∷ points) =
    AreBytes-xor (vanishing points ++ 0 ∷ []) (0 ∷ scaled (inverse a) (vanishing points))
    (AreBytes-append (vanishing points) (0 ∷ []) (vanishing-bytes points) (AreBytes-cons 0 [] (lit< tt) (λ k. lit< tt)))
    (AreBytes-cons 0 (scaled (inverse a) (vanishing points)) (lit< tt) (scaled-bytes (inverse a) (vanishing points)))

-- 1 at 0 and 0 at the points, place by place
through_zero : (points p : List ℕ) → value p 0 ≡ 1 → VanishesAt points p
    → PassesThrough (0 ∷ points) (1 ∷ replicate (length points) 0) p
through_zero points p one zeros zero lt = one
through_zero points p one zeros (suc i) lt = zeros i (omega arith) ∙ sym (zeros-below (length points) i)

is_not_zero : (a : ℕ) → 0 < a → nat_eq 0 a ≡ false
is_not_zero a h = grind (arith, nat_tests)

none_is_zero : (points : List ℕ) → ((i : ℕ) → i < length points → 0 < get_or points i 0) → AllByRecursion (λ a. nat_eq 0 a ≡ false) points
none_is_zero [] h = tt
none_is_zero (a ∷ points) h = (is_not_zero a (h 0 (omega arith)), none_is_zero points (λ i lt. h (suc i) (omega arith)))

-- at distinct points no other polynomial of this degree is 1 at 0 and 0 at them
pub only_vanishing : (points p : List ℕ) → AreBytes points → AreBytes p → IsDistinct nat_eq points
    → ((i : ℕ) → i < length points → 0 < get_or points i 0)
    → value p 0 ≡ 1 → VanishesAt points p → IsBelowDegree (length points + 1) p → IsSame p (vanishing points)
only_vanishing points p bp b d some one zeros below =
    let e : length points + 1 ≡ length (0 ∷ points) = omega arith in
    unique_law (0 ∷ points) (1 ∷ replicate (length points) 0) p (vanishing points)
    (AreBytes-cons 0 points (lit< tt) bp) b (vanishing-bytes points)
    (IsDistinct-cons nat_eq 0 points (none_is_zero points some) d)
    (subst (λ (n : ℕ). IsBelowDegree n p) e below)
    (subst (λ (n : ℕ). IsBelowDegree n (vanishing points)) e (vanishing-degree points))
    (through_zero points p one zeros)
    (through_zero points (vanishing points) (value-at_zero (vanishing points) (vanishing-bytes points) ∙ vanishing-first points)
    (vanishing-zeros points bp some))

pub polynomial_laws : PolynomialLaws
polynomial_laws = record {
  zero = zero_law;
  unique = unique_law;
  exists = exists_law;
  vanishes = λ points b h. (vanishing-first points, vanishing-zeros points b h, vanishing-degree points);
}
