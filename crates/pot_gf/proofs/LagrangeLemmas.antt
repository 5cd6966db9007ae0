-- The value at 0 of a polynomial of degree below m, from its values at m points.
use Rattle.std.proofs.Common.{drop, drop-cons, map, ◌≡◌, ◌≢◌, ◌⊎◌, inl, inr, ℕ, zero, suc, ◌<◌, ◌≤◌, bit_xor, List, [], ◌∷◌, length, get_or, Bool, nat_eq, refl, sym, ap, ap₂, ◌∙◌, arith, lit<, subst, pos_of_ne-zero}
use Rattle.std.specs.Prelude.{if◌then◌else◌}
use Rattle.std.specs.List.{IsDistinct}
use Rattle.std.proofs.Math.ListN.{drop_of_length-le}
use Rattle.std.proofs.lemmas.List.{get_or-map}
use Rattle.std.specs.Int.Bits.{xor_self, xor_zero_l, xor_zero_r}
use Rattle.std.proofs.lemmas.Nat.{xor_of_8}
use Rattle.std.proofs.lemmas.Bool.Decides.{eqb_tells}
use Rattle.pot_bytes.specs.Lists.{AreBytes}
use Rattle.pot_bytes.specs.Product.{byte_product}
use Rattle.pot_bytes.specs.Totals.{total}
use Rattle.pot_bytes.specs.Weighted.{scaled}
use Rattle.pot_bytes.proofs.TotalLemmas.{from_zero, total_one, total_same}
use Rattle.pot_bytes.proofs.ProductLemmas.{byte_product-xor_left, byte_product-zero_left, byte_product-zero_right, byte_product-one_left, byte_product-one_right, byte_product-comm, byte_product-below}
use Rattle.pot_bytes.proofs.WeightedLemmas.{get_or-scaled}
use Rattle.pot_gf.specs.Field.{inverse}
use Rattle.pot_gf.specs.Lagrange.{product_but, lagrange_weight}
use Rattle.pot_gf.specs.Polynomials.{value, IsBelowDegree, PassesThrough}
use Rattle.pot_gf.proofs.FieldLemmas.{byte_product-assoc, byte_product-cancel, byte_product-inverse}
use Rattle.pot_gf.proofs.Values.{added, get_or-added, value-added, value-nil, value-cons, value-scaled, value-below, value-same}
use Rattle.pot_gf.proofs.Built.{distinct_apart}
use Rattle.pot_gf.proofs.Zeros.{unique_law}

-- the point itself is left out, and each other one is a factor
pub product_but-itself : (x a : ℕ) (f : ℕ → ℕ) (points : List ℕ) → a ≡ x → product_but x f (a ∷ points) ≡ product_but x f points
product_but-itself x a f points e = elim (eqb_tells a x) [
  | inl is ↦ ap (λ (b : Bool). if b then product_but x f points else byte_product (f a) (product_but x f points)) is.0
  | inr ne ↦ absurd (ne.1 e)
]

pub product_but-other : (x a : ℕ) (f : ℕ → ℕ) (points : List ℕ) → a ≢ x → product_but x f (a ∷ points) ≡ byte_product (f a) (product_but x f points)
product_but-other x a f points ne = elim (eqb_tells a x) [
  | inl is ↦ absurd (ne is.1)
  | inr is ↦ ap (λ (b : Bool). if b then product_but x f points else byte_product (f a) (product_but x f points)) is.0
]

pub product_but-below : (x : ℕ) (f : ℕ → ℕ) (points : List ℕ) → product_but x f points < 256
product_but-below x f [] = lit< tt
product_but-below x f (a ∷ points) = elim (eqb_tells a x) [
  | inl is ↦ subst (λ z. z < 256) (sym (product_but-itself x a f points is.1)) (product_but-below x f points)
  | inr is ↦ subst (λ z. z < 256) (sym (product_but-other x a f points is.1)) (byte_product-below (f a) (product_but x f points))
]

pub product_but-same : (x : ℕ) (f g : ℕ → ℕ) (points : List ℕ) → ((a : ℕ) → f a ≡ g a) → product_but x f points ≡ product_but x g points
product_but-same x f g [] h = refl
product_but-same x f g (a ∷ points) h = elim (eqb_tells a x) [
  | inl is ↦ product_but-itself x a f points is.1 ∙ product_but-same x f g points h ∙ sym (product_but-itself x a g points is.1)
  | inr is ↦ product_but-other x a f points is.1 ∙ ap₂ byte_product (h a) (product_but-same x f g points h) ∙ sym (product_but-other x a g points is.1)
]

-- the differences from the other points are not 0, nor is their product
pub differences_some : (x : ℕ) (points : List ℕ) → x < 256 → AreBytes points → 0 < product_but x (λ a. bit_xor a x) points
differences_some x [] lt b = lit< tt
differences_some x (a ∷ points) lt b = elim (eqb_tells a x) [
  | inl is ↦ subst (λ z. 0 < z) (sym (product_but-itself x a (λ a. bit_xor a x) points is.1)) (differences_some x points lt (λ k. b (suc k)))
  | inr is ↦ subst (λ z. 0 < z) (sym (product_but-other x a (λ a. bit_xor a x) points is.1))
      (nonzero (bit_xor a x) (product_but x (λ a. bit_xor a x) points) (pos_of_ne-zero (λ e. is.1 (from_zero a x e))) (xor_of_8 a x (b 0) lt)
      (product_but-below x (λ a. bit_xor a x) points) (differences_some x points lt (λ k. b (suc k))))
]
  where
    nonzero : (u v : ℕ) → 0 < u → u < 256 → v < 256 → 0 < v → 0 < byte_product u v
    nonzero u v pu hu hv pv = pos_of_ne-zero (λ e. let z : v ≡ 0 = byte_product-cancel u v pu hu hv e in omega arith)

-- a factor that is 0
product_zero : (x b j : ℕ) (points : List ℕ) → j < length points → get_or points j 0 ≡ b → b ≢ x → product_but x (λ a. bit_xor a b) points ≡ 0
product_zero x b j [] lt e ne = absurd (omega arith)
product_zero x b zero (a ∷ points) lt e ne =
    product_but-other x a (λ a. bit_xor a b) points (λ is. ne (sym e ∙ is))
    ∙ ap (λ z. byte_product (bit_xor z b) (product_but x (λ a. bit_xor a b) points)) e
    ∙ ap (λ z. byte_product z (product_but x (λ a. bit_xor a b) points)) (xor_self b) ∙ byte_product-zero_left (product_but x (λ a. bit_xor a b) points)
product_zero x b (suc j) (a ∷ points) lt e ne = elim (eqb_tells a x) [
  | inl is ↦ product_but-itself x a (λ a. bit_xor a b) points is.1 ∙ product_zero x b j points (omega arith) e ne
  | inr is ↦ product_but-other x a (λ a. bit_xor a b) points is.1
      ∙ ap (byte_product (bit_xor a b)) (product_zero x b j points (omega arith) e ne) ∙ byte_product-zero_right (bit_xor a b)
]

-- (a + x) times a polynomial
pub rooted : ℕ → List ℕ → List ℕ
rooted a p = added (scaled a p) (0 ∷ p)

pub value-rooted : (a : ℕ) (p : List ℕ) (y : ℕ) → value (rooted a p) y ≡ byte_product (bit_xor a y) (value p y)
unfolding rooted
value-rooted a p y =
    value-added (scaled a p) (0 ∷ p) y
    ∙ ap₂ bit_xor (value-scaled a p y) (value-cons 0 p y ∙ ap (λ z. bit_xor z (byte_product y (value p y))) (byte_product-zero_left 1) ∙ xor_zero_l (byte_product y (value p y)))
    ∙ sym (byte_product-xor_left a y (value p y))

pub get_or-rooted : (a : ℕ) (p : List ℕ) (t : ℕ) → get_or (rooted a p) t 0 ≡ bit_xor (byte_product a (get_or p t 0)) (get_or (0 ∷ p) t 0)
unfolding rooted
get_or-rooted a p t = get_or-added (scaled a p) (0 ∷ p) t ∙ ap (λ z. bit_xor z (get_or (0 ∷ p) t 0)) (get_or-scaled a p t)

pub rooted-degree : (a : ℕ) (p : List ℕ) (n : ℕ) → IsBelowDegree n p → IsBelowDegree (suc n) (rooted a p)
rooted-degree a p n h zero le = absurd (omega arith)
rooted-degree a p n h (suc t) le =
    get_or-rooted a p (suc t) ∙ ap₂ bit_xor (ap (byte_product a) (h (suc t) (omega arith)) ∙ byte_product-zero_right a) (h t (omega arith)) ∙ xor_self 0

pub rooted-bytes : (a : ℕ) (p : List ℕ) → AreBytes p → AreBytes (rooted a p)
rooted-bytes a p h t = rw get_or-rooted (xor_of_8 (byte_product a (get_or p t 0)) (get_or (0 ∷ p) t 0) (byte_product-below a (get_or p t 0)) (shifted t))
  where
    shifted : (t : ℕ) → get_or (0 ∷ p) t 0 < 256
    shifted zero = lit< tt
    shifted (suc t) = h t

-- the product of (a + y) over the points other than x, as a polynomial in y
node : ℕ → List ℕ → List ℕ
node x [] = 1 ∷ []
node x (a ∷ points) = if nat_eq a x then node x points else rooted a (node x points)

node-itself : (x a : ℕ) (points : List ℕ) → a ≡ x → node x (a ∷ points) ≡ node x points
unfolding node
node-itself x a points e = elim (eqb_tells a x) [
  | inl is ↦ ap (λ (b : Bool). if b then node x points else rooted a (node x points)) is.0
  | inr ne ↦ absurd (ne.1 e)
]

node-other : (x a : ℕ) (points : List ℕ) → a ≢ x → node x (a ∷ points) ≡ rooted a (node x points)
unfolding node
node-other x a points ne = elim (eqb_tells a x) [
  | inl is ↦ absurd (ne is.1)
  | inr is ↦ ap (λ (b : Bool). if b then node x points else rooted a (node x points)) is.0
]

value-node : (x : ℕ) (points : List ℕ) (y : ℕ) → value (node x points) y ≡ product_but x (λ a. bit_xor a y) points
unfolding node
value-node x [] y =
    value-cons 1 [] y ∙ ap₂ bit_xor (byte_product-one_right 1 (lit< tt)) (ap (byte_product y) (value-nil y) ∙ byte_product-zero_right y) ∙ xor_zero_r 1
value-node x (a ∷ points) y = elim (eqb_tells a x) [
  | inl is ↦ ap (λ p. value p y) (node-itself x a points is.1) ∙ value-node x points y ∙ sym (product_but-itself x a (λ a. bit_xor a y) points is.1)
  | inr is ↦ ap (λ p. value p y) (node-other x a points is.1) ∙ value-rooted a (node x points) y
      ∙ ap (byte_product (bit_xor a y)) (value-node x points y) ∙ sym (product_but-other x a (λ a. bit_xor a y) points is.1)
]

node-degree : (x : ℕ) (points : List ℕ) → IsBelowDegree (suc (length points)) (node x points)
unfolding node
node-degree x [] zero le = absurd (omega arith)
node-degree x [] (suc t) le = refl
node-degree x (a ∷ points) t le = elim (eqb_tells a x) [
  | inl is ↦ ap (λ p. get_or p t 0) (node-itself x a points is.1) ∙ node-degree x points t (omega arith)
  | inr is ↦ ap (λ p. get_or p t 0) (node-other x a points is.1) ∙ rooted-degree a (node x points) (suc (length points)) (node-degree x points) t le
]

-- of one degree less where the point is one of them
node-degree_at : (x j : ℕ) (points : List ℕ) → j < length points → get_or points j 0 ≡ x → IsBelowDegree (length points) (node x points)
node-degree_at x j [] lt e t le = absurd (omega arith)
node-degree_at x zero (a ∷ points) lt e t le =
    ap (λ p. get_or p t 0) (node-itself x a points e) ∙ node-degree x points t le
node-degree_at x (suc j) (a ∷ points) lt e t le = elim (eqb_tells a x) [
  | inl is ↦ ap (λ p. get_or p t 0) (node-itself x a points is.1) ∙ node-degree x points t le
  | inr is ↦ ap (λ p. get_or p t 0) (node-other x a points is.1) ∙ rooted-degree a (node x points) (length points) (node-degree_at x j points (omega arith) e) t le
]

node-bytes : (x : ℕ) (points : List ℕ) → AreBytes (node x points)
unfolding node
node-bytes x [] zero = lit< tt
node-bytes x [] (suc t) = lit< tt
node-bytes x (a ∷ points) t = elim (eqb_tells a x) [
  | inl is ↦ subst (λ p. get_or p t 0 < 256) (sym (node-itself x a points is.1)) (node-bytes x points t)
  | inr is ↦ subst (λ p. get_or p t 0 < 256) (sym (node-other x a points is.1)) (rooted-bytes a (node x points) (node-bytes x points) t)
]

-- the factors of the first `i` points are gathered
pub record IsGathering (points : List ℕ) (x i above below : ℕ) : Type 0 where
  pub numerator : byte_product above (product_but x (λ a. a) (drop i points)) ≡ product_but x (λ a. a) points
  pub denominator : byte_product below (product_but x (λ a. bit_xor a x) (drop i points)) ≡ product_but x (λ a. bit_xor a x) points
  pub above_fits : above < 256
  pub below_fits : below < 256

pub gathering_begins : (points : List ℕ) (x : ℕ) → IsGathering points x 0 1 1
gathering_begins points x = record {
  numerator = byte_product-one_left (product_but x (λ a. a) points) (product_but-below x (λ a. a) points);
  denominator = byte_product-one_left (product_but x (λ a. bit_xor a x) points) (product_but-below x (λ a. bit_xor a x) points);
  above_fits = lit< tt;
  below_fits = lit< tt;
}

gathered : (x : ℕ) (f : ℕ → ℕ) (points : List ℕ) (i sofar : ℕ) → i < length points → get_or points i 0 ≢ x
    → byte_product sofar (product_but x f (drop i points)) ≡ product_but x f points
    → byte_product (byte_product sofar (f (get_or points i 0))) (product_but x f (drop (suc i) points)) ≡ product_but x f points
gathered x f points i sofar lt ne h =
    byte_product-assoc sofar (f (get_or points i 0)) (product_but x f (drop (suc i) points))
    ∙ ap (byte_product sofar) (sym (product_but-other x (get_or points i 0) f (drop (suc i) points) ne) ∙ ap (product_but x f) (sym (drop-cons points i 0 lt))) ∙ h

passed_over : (x : ℕ) (f : ℕ → ℕ) (points : List ℕ) (i sofar : ℕ) → i < length points → get_or points i 0 ≡ x
    → byte_product sofar (product_but x f (drop i points)) ≡ product_but x f points
    → byte_product sofar (product_but x f (drop (suc i) points)) ≡ product_but x f points
passed_over x f points i sofar lt e h =
    ap (byte_product sofar) (sym (product_but-itself x (get_or points i 0) f (drop (suc i) points) e) ∙ ap (product_but x f) (sym (drop-cons points i 0 lt))) ∙ h

pub gathering_other : (points : List ℕ) (x i above below : ℕ) → i < length points → get_or points i 0 ≢ x → IsGathering points x i above below
    → IsGathering points x (suc i) (byte_product above (get_or points i 0)) (byte_product below (bit_xor (get_or points i 0) x))
gathering_other points x i above below lt ne g = record {
  numerator = gathered x (λ a. a) points i above lt ne g.numerator;
  denominator = gathered x (λ a. bit_xor a x) points i below lt ne g.denominator;
  above_fits = byte_product-below above (get_or points i 0);
  below_fits = byte_product-below below (bit_xor (get_or points i 0) x);
}

pub gathering_itself : (points : List ℕ) (x i above below : ℕ) → i < length points → get_or points i 0 ≡ x → IsGathering points x i above below
    → IsGathering points x (suc i) above below
gathering_itself points x i above below lt e g = record {
  numerator = passed_over x (λ a. a) points i above lt e g.numerator;
  denominator = passed_over x (λ a. bit_xor a x) points i below lt e g.denominator;
  above_fits = g.above_fits;
  below_fits = g.below_fits;
}

all_gathered : (x : ℕ) (f : ℕ → ℕ) (points : List ℕ) (i sofar : ℕ) → length points ≤ i → sofar < 256
    → byte_product sofar (product_but x f (drop i points)) ≡ product_but x f points → sofar ≡ product_but x f points
all_gathered x f points i sofar le lt h =
    sym (byte_product-one_right sofar lt) ∙ ap (λ ps. byte_product sofar (product_but x f ps)) (sym (drop_of_length-le points le)) ∙ h

pub gathering_ends : (points : List ℕ) (x i above below : ℕ) → length points ≤ i → IsGathering points x i above below
    → (above ≡ product_but x (λ a. a) points) × (below ≡ product_but x (λ a. bit_xor a x) points)
gathering_ends points x i above below le g =
    (all_gathered x (λ a. a) points i above le g.above_fits g.numerator, all_gathered x (λ a. bit_xor a x) points i below le g.below_fits g.denominator)

-- the sum of the first `n` multiples that have these values at the points
combined : List ℕ → List ℕ → ℕ → List ℕ
combined points ys zero = []
combined points ys (suc n) =
    added (combined points ys n) (scaled (byte_product (get_or ys n 0) (inverse (product_but (get_or points n 0) (λ a. bit_xor a (get_or points n 0)) points))) (node (get_or points n 0) points))

-- its value is the sum of theirs
part : List ℕ → List ℕ → ℕ → ℕ → ℕ
part points ys y i =
    byte_product (byte_product (get_or ys i 0) (inverse (product_but (get_or points i 0) (λ a. bit_xor a (get_or points i 0)) points)))
    (product_but (get_or points i 0) (λ a. bit_xor a y) points)

value-combined : (points ys : List ℕ) (n y : ℕ) → value (combined points ys n) y ≡ total n (part points ys y)
unfolding combined part total
value-combined points ys zero y = value-nil y
value-combined points ys (suc n) y =
    value-added (combined points ys n) (scaled (byte_product (get_or ys n 0) (inverse (product_but (get_or points n 0) (λ a. bit_xor a (get_or points n 0)) points))) (node (get_or points n 0) points)) y
    ∙ ap₂ bit_xor (value-combined points ys n y)
    (value-scaled (byte_product (get_or ys n 0) (inverse (product_but (get_or points n 0) (λ a. bit_xor a (get_or points n 0)) points))) (node (get_or points n 0) points) y
    ∙ ap (byte_product (byte_product (get_or ys n 0) (inverse (product_but (get_or points n 0) (λ a. bit_xor a (get_or points n 0)) points)))) (value-node (get_or points n 0) points y))

combined-degree : (points ys : List ℕ) (n : ℕ) → n ≤ length points → IsBelowDegree (length points) (combined points ys n)
unfolding combined
combined-degree points ys zero le t l = refl
combined-degree points ys (suc n) le t l =
    get_or-added (combined points ys n) (scaled (byte_product (get_or ys n 0) (inverse (product_but (get_or points n 0) (λ a. bit_xor a (get_or points n 0)) points))) (node (get_or points n 0) points)) t
    ∙ ap₂ bit_xor (combined-degree points ys n (omega arith) t l)
    (get_or-scaled (byte_product (get_or ys n 0) (inverse (product_but (get_or points n 0) (λ a. bit_xor a (get_or points n 0)) points))) (node (get_or points n 0) points) t
    ∙ ap (byte_product (byte_product (get_or ys n 0) (inverse (product_but (get_or points n 0) (λ a. bit_xor a (get_or points n 0)) points)))) (node-degree_at (get_or points n 0) n points (omega arith) refl t l)
    ∙ byte_product-zero_right (byte_product (get_or ys n 0) (inverse (product_but (get_or points n 0) (λ a. bit_xor a (get_or points n 0)) points))))
    ∙ xor_self 0

combined-bytes : (points ys : List ℕ) (n : ℕ) → AreBytes (combined points ys n)
unfolding combined
combined-bytes points ys zero t = lit< tt
combined-bytes points ys (suc n) t =
    let factor : ℕ = byte_product (get_or ys n 0) (inverse (product_but (get_or points n 0) (λ a. bit_xor a (get_or points n 0)) points)) in
    rw (get_or-added (combined points ys n) (scaled factor (node (get_or points n 0) points)) t, get_or-scaled factor (node (get_or points n 0) points) t)
    (xor_of_8 (get_or (combined points ys n) t 0) (byte_product factor (get_or (node (get_or points n 0) points) t 0))
    (combined-bytes points ys n t) (byte_product-below factor (get_or (node (get_or points n 0) points) t 0)))

-- at a point only its own part counts, and that is the value there
combined_at : (points ys : List ℕ) (j : ℕ) → AreBytes points → AreBytes ys → IsDistinct nat_eq points → j < length points
    → value (combined points ys (length points)) (get_or points j 0) ≡ get_or ys j 0
unfolding part
combined_at points ys j b c d lt =
    value-combined points ys (length points) (get_or points j 0)
    ∙ total_one (length points) (part points ys (get_or points j 0)) j lt
    (λ k l ne. ap (byte_product (byte_product (get_or ys k 0) (inverse (product_but (get_or points k 0) (λ a. bit_xor a (get_or points k 0)) points))))
    (product_zero (get_or points k 0) (get_or points j 0) j points lt refl (differ k l ne))
    ∙ byte_product-zero_right (byte_product (get_or ys k 0) (inverse (product_but (get_or points k 0) (λ a. bit_xor a (get_or points k 0)) points))))
    ∙ byte_product-assoc (get_or ys j 0) (inverse (product_but (get_or points j 0) (λ a. bit_xor a (get_or points j 0)) points)) (product_but (get_or points j 0) (λ a. bit_xor a (get_or points j 0)) points)
    ∙ ap (byte_product (get_or ys j 0))
    (byte_product-comm (inverse (product_but (get_or points j 0) (λ a. bit_xor a (get_or points j 0)) points)) (product_but (get_or points j 0) (λ a. bit_xor a (get_or points j 0)) points)
    ∙ byte_product-inverse (product_but (get_or points j 0) (λ a. bit_xor a (get_or points j 0)) points) (differences_some (get_or points j 0) points (b j) b) (product_but-below (get_or points j 0) (λ a. bit_xor a (get_or points j 0)) points))
    ∙ byte_product-one_right (get_or ys j 0) (c j)
  where
    either : (k j : ℕ) → k ≢ j → (k < j) ⊎ (j < k)
    either k j ne = grind arith

    differ : (k : ℕ) → k < length points → k ≢ j → get_or points j 0 ≢ get_or points k 0
    differ k l ne e = elim (either k j ne) [
      | inl less ↦ distinct_apart points k j d less lt (sym e)
      | inr more ↦ distinct_apart points j k d more l e
    ]

-- Lagrange's form: the value at 0 of a polynomial of degree below m is the sum of weight times
-- value over m points
pub value-lagrange : (points p : List ℕ) → AreBytes points → AreBytes p → IsDistinct nat_eq points → IsBelowDegree (length points) p
    → value p 0 ≡ total (length points) (λ i. byte_product (lagrange_weight points (get_or points i 0)) (value p (get_or points i 0)))
unfolding part lagrange_weight
value-lagrange points p b c d h =
    value-same p (combined points (map (value p) points) (length points)) 0
    (unique_law points (map (value p) points) p (combined points (map (value p) points) (length points)) b c
    (combined-bytes points (map (value p) points) (length points)) d h
    (combined-degree points (map (value p) points) (length points) (omega arith))
    (λ i l. sym (get_or-map (value p) points i 0 0 l))
    (λ i l. combined_at points (map (value p) points) i b (mapped-bytes points) d l))
    ∙ value-combined points (map (value p) points) (length points) 0
    ∙ total_same (length points) _ _ (λ i l.
    ap₂ (λ y n. byte_product (byte_product y (inverse (product_but (get_or points i 0) (λ a. bit_xor a (get_or points i 0)) points))) n)
    (get_or-map (value p) points i 0 0 l) (product_but-same (get_or points i 0) (λ a. bit_xor a 0) (λ a. a) points xor_zero_r)
    ∙ byte_product-comm (byte_product (value p (get_or points i 0)) (inverse (product_but (get_or points i 0) (λ a. bit_xor a (get_or points i 0)) points))) (product_but (get_or points i 0) (λ a. a) points)
    ∙ ap (byte_product (product_but (get_or points i 0) (λ a. a) points)) (byte_product-comm (value p (get_or points i 0)) (inverse (product_but (get_or points i 0) (λ a. bit_xor a (get_or points i 0)) points)))
    ∙ sym (byte_product-assoc (product_but (get_or points i 0) (λ a. a) points) (inverse (product_but (get_or points i 0) (λ a. bit_xor a (get_or points i 0)) points)) (value p (get_or points i 0))))
  where
    mapped-bytes : (points : List ℕ) → AreBytes (map (value p) points)
    mapped-bytes [] k = lit< tt
    mapped-bytes (a ∷ points) zero = value-below p a
    mapped-bytes (a ∷ points) (suc k) = mapped-bytes points k

-- through distinct points goes a polynomial of degree below their number
pub exists_law : (points ys : List ℕ) → AreBytes points → AreBytes ys → IsDistinct nat_eq points
    → (p : List ℕ) × AreBytes p × IsBelowDegree (length points) p × PassesThrough points ys p
exists_law points ys b c d = (
  combined points ys (length points),
  combined-bytes points ys (length points),
  combined-degree points ys (length points) (omega arith),
  λ j lt. combined_at points ys j b c d lt,
)
