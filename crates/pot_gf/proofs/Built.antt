-- How `vanish` and `interpolate` build their polynomials, point by point.
use Rattle.std.proofs.Common.{◌≡◌, ◌≢◌, inl, inr, ℕ, zero, suc, ◌-◌, ◌<◌, ◌≤◌, bit_xor, List, [], ◌∷◌, length, get_or, replicate, nat_eq, refl, sym, ap, ap₂, ◌∙◌, arith, lit<, subst, pos_of_ne-zero}
use Rattle.std.specs.List.{IsDistinct}
use Rattle.std.specs.Int.Bits.{xor_self, xor_zero_r}
use Rattle.std.proofs.lemmas.Nat.{xor_of_8}
use Rattle.std.proofs.lemmas.Map.Keys.{IsDistinct-head, IsDistinct-tail}
use Rattle.pot_bytes.specs.Lists.{AreBytes}
use Rattle.pot_bytes.specs.Product.{byte_product}
use Rattle.pot_bytes.proofs.TotalLemmas.{from_zero}
use Rattle.pot_bytes.proofs.ProductLemmas.{byte_product-zero_left, byte_product-zero_right, byte_product-one_left, byte_product-one_right, byte_product-comm}
use Rattle.pot_bytes.proofs.Basis.{last_or}
use Rattle.pot_gf.specs.Polynomials.{value, IsBelowDegree, IsTimesLine, Meets}
use Rattle.pot_gf.proofs.FieldLemmas.{byte_product-cancel}
use Rattle.pot_gf.proofs.Values.{value-cons, value-zero, value-below}
use Rattle.pot_gf.proofs.Zeros.{apart}

pub zeros-below : (n t : ℕ) → get_or {A = ℕ} (replicate n 0) t 0 ≡ 0
zeros-below zero t = refl
zeros-below (suc n) zero = refl
zeros-below (suc n) (suc t) = zeros-below n t

pub value-constant : (c n x : ℕ) → c < 256 → value (c ∷ replicate n 0) x ≡ c
value-constant c n x lt =
    value-cons c (replicate n 0) x
    ∙ ap₂ bit_xor (byte_product-one_right c lt) (ap (byte_product x) (value-zero (replicate n 0) x (λ t _. zeros-below n t)) ∙ byte_product-zero_right x)
    ∙ xor_zero_r c

pub below-constant : (c n : ℕ) → IsBelowDegree 1 (c ∷ replicate n 0)
below-constant c n zero le = absurd (omega arith)
below-constant c n (suc t) le = zeros-below n t

-- 1 at 0, and 0 at the first `n` points
pub record IsVanishing (points : List ℕ) (n : ℕ) (p : List ℕ) : Type 0 where
  pub one : value p 0 ≡ 1
  pub zeros : (j : ℕ) → j < n → value p (get_or points j 0) ≡ 0
  pub degree : IsBelowDegree (suc n) p

pub vanishing_none : (points : List ℕ) → IsVanishing points 0 (1 ∷ replicate 15 0)
vanishing_none points = record {
  one = value-constant 1 15 0 (lit< tt);
  zeros = λ j lt. absurd (omega arith);
  degree = below-constant 1 15;
}

pub vanishing_more : (points : List ℕ) (n slope : ℕ) (p q : List ℕ) → IsVanishing points n p → byte_product (get_or points n 0) slope ≡ 1
    → IsTimesLine 1 slope p q → IsVanishing points (suc n) q
vanishing_more points n slope p q v inverse l = record {
  one = l.values 0 ∙ ap₂ byte_product (ap (bit_xor 1) (byte_product-zero_right slope)) v.one ∙ byte_product-one_left 1 (lit< tt);
  zeros = λ j lt. elim (last_or j n lt) [
    | inl e ↦ l.values (get_or points j 0)
        ∙ ap (λ z. byte_product (bit_xor 1 z) (value p (get_or points j 0))) (ap (λ k. byte_product slope (get_or points k 0)) e ∙ byte_product-comm slope (get_or points n 0) ∙ inverse)
        ∙ byte_product-zero_left (value p (get_or points j 0))
    | inr m ↦ l.values (get_or points j 0)
        ∙ ap (byte_product (bit_xor 1 (byte_product slope (get_or points j 0)))) (v.zeros j m) ∙ byte_product-zero_right (bit_xor 1 (byte_product slope (get_or points j 0)))
  ];
  degree = λ t le. l.degree (suc n) v.degree t (omega arith);
}

-- 0 at the first `n` points, and at no other byte
pub record IsNode (points : List ℕ) (n : ℕ) (node : List ℕ) : Type 0 where
  pub zeros : (j : ℕ) → j < n → value node (get_or points j 0) ≡ 0
  pub others : (x : ℕ) → x < 256 → ((j : ℕ) → j < n → get_or points j 0 ≢ x) → 0 < value node x
  pub degree : IsBelowDegree (suc n) node

pub node_none : (points : List ℕ) → IsNode points 0 (1 ∷ replicate 15 0)
node_none points = record {
  zeros = λ j lt. absurd (omega arith);
  others = λ x lt h. let e : value (1 ∷ replicate 15 0) x ≡ 1 = value-constant 1 15 x (lit< tt) in omega arith;
  degree = below-constant 1 15;
}

pub node_more : (points : List ℕ) (n : ℕ) (node next : List ℕ) → AreBytes points → IsNode points n node → IsTimesLine (get_or points n 0) 1 node next → IsNode points (suc n) next
node_more points n node next b v l = record {
  zeros = λ j lt. elim (last_or j n lt) [
    | inl e ↦ l.values (get_or points j 0)
        ∙ ap (λ z. byte_product (bit_xor (get_or points n 0) z) (value node (get_or points j 0))) (byte_product-one_left (get_or points j 0) (b j) ∙ ap (λ k. get_or points k 0) e)
        ∙ ap (λ z. byte_product z (value node (get_or points j 0))) (xor_self (get_or points n 0)) ∙ byte_product-zero_left (value node (get_or points j 0))
    | inr m ↦ l.values (get_or points j 0)
        ∙ ap (byte_product (bit_xor (get_or points n 0) (byte_product 1 (get_or points j 0)))) (v.zeros j m)
        ∙ byte_product-zero_right (bit_xor (get_or points n 0) (byte_product 1 (get_or points j 0)))
  ];
  others = λ x lt h. pos_of_ne-zero (λ z.
      let before : 0 < value node x = v.others x lt (λ j m. h j (omega arith)) in
      let factor : bit_xor (get_or points n 0) x < 256 = xor_of_8 (get_or points n 0) x (b n) lt in
      let none : value node x ≡ 0 = byte_product-cancel (bit_xor (get_or points n 0) x) (value node x)
      (pos_of_ne-zero (λ e. h n (omega arith) (from_zero (get_or points n 0) x e))) factor (value-below node x)
      (ap (λ z. byte_product (bit_xor (get_or points n 0) z) (value node x)) (sym (byte_product-one_left x lt)) ∙ sym (l.values x) ∙ z) in
      omega arith);
  degree = λ t le. l.degree (suc n) v.degree t (omega arith);
}

pub node_at : (points : List ℕ) (i : ℕ) (node next : List ℕ) → 1 ≤ i → AreBytes points → IsNode points (i - 1) node
    → IsTimesLine (get_or points (i - 1) 0) 1 node next → IsNode points i next
node_at points i node next le b v l =
    subst (λ k. IsNode points k next) (let e : suc (i - 1) ≡ i = omega arith in e) (node_more points (i - 1) node next b v l)

-- the values at the first `n` points
pub record IsThrough (points values : List ℕ) (n : ℕ) (p : List ℕ) : Type 0 where
  pub at : (j : ℕ) → j < n → value p (get_or points j 0) ≡ get_or values j 0
  pub degree : IsBelowDegree n p

pub through_first : (points values : List ℕ) → AreBytes values → IsThrough points values 1 (get_or values 0 0 ∷ replicate 15 0)
through_first points values b = record {
  at = λ j lt. value-constant (get_or values 0 0) 15 (get_or points j 0) (b 0) ∙ ap (λ k. get_or values k 0) (let e : 0 ≡ j = omega arith in e);
  degree = below-constant (get_or values 0 0) 15;
}

pub through_more : (points values : List ℕ) (n : ℕ) (p q node : List ℕ) → IsThrough points values n p → IsNode points n node
    → Meets (get_or points n 0) (get_or values n 0) node p q → IsThrough points values (suc n) q
through_more points values n p q node v w m = record {
  at = λ j lt. elim (last_or j n lt) [
    | inl e ↦ ap (λ k. value q (get_or points k 0)) e ∙ m.here ∙ ap (λ k. get_or values k 0) (sym e)
    | inr l ↦ m.elsewhere (get_or points j 0) (w.zeros j l) ∙ v.at j l
  ];
  degree = m.degree (suc n) (λ t le. v.degree t (omega arith)) w.degree;
}

-- points that are distinct differ
pub distinct_apart : (points : List ℕ) (i j : ℕ) → IsDistinct nat_eq points → i < j → j < length points → get_or points i 0 ≢ get_or points j 0
distinct_apart [] i j d lt le = absurd (omega arith)
distinct_apart (a ∷ rest) i zero d lt le = absurd (omega arith)
distinct_apart (a ∷ rest) zero (suc j) d lt le = apart a rest j (IsDistinct-head nat_eq a rest d) (omega arith)
distinct_apart (a ∷ rest) (suc i) (suc j) d lt le = distinct_apart rest i j (IsDistinct-tail nat_eq a rest d) (omega arith) (omega arith)
