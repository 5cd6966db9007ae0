-- Lists of 16 coefficients.
use Rattle.std.proofs.Common.{◌≡◌, ◌⊎◌, inl, inr, ℕ, zero, suc, ◌+◌, ◌<◌, ◌≤◌, bit_xor, List, [], ◌∷◌, length, get_or, take, replicate, refl, sym, ap, ap₂, ◌∙◌, arith, lit<}
use Rattle.std.proofs.lemmas.List.{length-map, length-take-le}
use Rattle.std.proofs.lemmas.Nat.{xor_of_8}
use Rattle.pot_bytes.specs.Product.{byte_product}
use Rattle.pot_bytes.specs.Sums.{xor}
use Rattle.pot_bytes.specs.Weighted.{scaled}
use Rattle.pot_bytes.proofs.SumLemmas.{length-xor}
use Rattle.pot_bytes.proofs.ProductLemmas.{byte_product-below}
use Rattle.pot_bytes.proofs.WeightedLemmas.{get_or-scaled, get_or-xor}
use Rattle.std.specs.Int.Bits.{xor_zero_l, xor_zero_r, xor_self}
use Rattle.std.proofs.lemmas.Nat.{xor_comm}
use Rattle.pot_bytes.proofs.ListLemmas.{AreBytes-take}
use Rattle.pot_bytes.proofs.TotalLemmas.{xor_cancel_left}
use Rattle.pot_bytes.proofs.SumLemmas.{xor_replicate}
use Rattle.pot_bytes.proofs.ProductLemmas.{byte_product-xor_left, byte_product-comm, byte_product-zero_left, byte_product-zero_right, byte_product-one_right}
use Rattle.pot_gf.specs.Polynomials.{value, IsPoly, IsBelowDegree, IsSame, IsTimesLine, Meets}
use Rattle.pot_gf.proofs.FieldLemmas.{byte_product-assoc}
use Rattle.pot_gf.proofs.Values.{value-cons, value-same, value-xor, value-scaled, get_or-end}

pub IsPoly-added : (factor : ℕ) (p q : List ℕ) → IsPoly p → IsPoly q → IsPoly (xor p (scaled factor q))
IsPoly-added factor p q hp hq =
    let e : length (scaled factor q) ≡ length q = length-map q (byte_product factor) in
    let same : length p ≡ length (scaled factor q) = omega (arith, hp.whole, hq.whole) in
    record {
      whole = length-xor p (scaled factor q) same ∙ hp.whole;
      bytes = λ k. rw (get_or-xor p (scaled factor q) k same, get_or-scaled factor q k) (xor_of_8 (get_or p k 0) (byte_product factor (get_or q k 0)) (hp.bytes k) (byte_product-below factor (get_or q k 0)));
    }

pub get_or-take : (n t : ℕ) (p : List ℕ) → t < n → get_or (take n p) t 0 ≡ get_or p t 0
get_or-take zero t p h = absurd (omega arith)
get_or-take (suc n) t [] h = refl
get_or-take (suc n) zero (c ∷ p) h = refl
get_or-take (suc n) (suc t) (c ∷ p) h = get_or-take n t p (omega arith)

get_or-take_end : (n t : ℕ) (p : List ℕ) → n ≤ t → get_or (take n p) t 0 ≡ 0
get_or-take_end zero t p h = refl
get_or-take_end (suc n) t [] h = refl
get_or-take_end (suc n) zero (c ∷ p) h = absurd (omega arith)
get_or-take_end (suc n) (suc t) (c ∷ p) h = get_or-take_end n t p (omega arith)

pub IsPoly-raised : (p : List ℕ) → IsPoly p → IsPoly (0 ∷ take 15 p)
IsPoly-raised p h = record {
  whole = ap suc (length-take-le 15 p (omega (arith, h.whole)));
  bytes = λ k. each k;
}
  where
    each : (k : ℕ) → get_or (0 ∷ take 15 p) k 0 < 256
    each zero = lit< tt
    each (suc k) = AreBytes-take 15 p h.bytes k

-- a list of 16 and a multiple of another: coefficients and values
get_or-plus : (factor : ℕ) (p q : List ℕ) (t : ℕ) → length p ≡ length q → get_or (xor p (scaled factor q)) t 0 ≡ bit_xor (get_or p t 0) (byte_product factor (get_or q t 0))
get_or-plus factor p q t e =
    get_or-xor p (scaled factor q) t (e ∙ sym (length-map q (byte_product factor))) ∙ ap (bit_xor (get_or p t 0)) (get_or-scaled factor q t)

value-plus : (factor : ℕ) (p q : List ℕ) (x : ℕ) → length p ≡ length q → value (xor p (scaled factor q)) x ≡ bit_xor (value p x) (byte_product factor (value q x))
value-plus factor p q x e =
    value-xor p (scaled factor q) x (e ∙ sym (length-map q (byte_product factor))) ∙ ap (bit_xor (value p x)) (value-scaled factor q x)

-- the first 15 of 16 coefficients are all where the last is 0
take-same : (p : List ℕ) → length p ≡ 16 → get_or p 15 0 ≡ 0 → IsSame (take 15 p) p
take-same p e z t = elim (place t) [
  | inl lt ↦ get_or-take 15 t p lt
  | inr (inl is) ↦ get_or-take_end 15 t p (omega arith) ∙ sym (ap (λ k. get_or p k 0) is ∙ z)
  | inr (inr gt) ↦ get_or-take_end 15 t p (omega arith) ∙ sym (get_or-end p t (omega arith))
]
  where
    place : (t : ℕ) → (t < 15) ⊎ ((t ≡ 15) ⊎ (15 < t))
    place t = grind arith

value-raised : (p : List ℕ) (x : ℕ) → length p ≡ 16 → get_or p 15 0 ≡ 0 → value (0 ∷ take 15 p) x ≡ byte_product x (value p x)
value-raised p x e z =
    value-cons 0 (take 15 p) x
    ∙ ap₂ bit_xor (byte_product-zero_left 1) (ap (byte_product x) (value-same (take 15 p) p x (take-same p e z)))
    ∙ xor_zero_l (byte_product x (value p x))

below-raised : (p : List ℕ) (n t : ℕ) → IsBelowDegree n p → n + 1 ≤ t → get_or (0 ∷ take 15 p) t 0 ≡ 0
below-raised p n zero h le = refl
below-raised p n (suc t) h le = elim (place t) [
  | inl lt ↦ get_or-take 15 t p lt ∙ h t (omega arith)
  | inr ge ↦ get_or-take_end 15 t p ge
]
  where
    place : (t : ℕ) → (t < 15) ⊎ (15 ≤ t)
    place t = grind arith

pub line : (constant slope : ℕ) (p : List ℕ) → IsPoly p → get_or p 15 0 ≡ 0
    → IsTimesLine constant slope p (xor (xor (replicate 16 0) (scaled constant p)) (scaled slope (0 ∷ take 15 p)))
line constant slope p h z =
    let scaled_length : length (scaled constant p) ≡ 16 = length-map p (byte_product constant) ∙ h.whole in
    let first : xor (replicate 16 0) (scaled constant p) ≡ scaled constant p = xor_replicate 16 (scaled constant p) (omega arith) in
    let lengths : length (scaled constant p) ≡ length (0 ∷ take 15 p) = scaled_length ∙ sym (IsPoly-raised p h).whole in
    record {
      values = λ x. ap (λ q. value (xor q (scaled slope (0 ∷ take 15 p))) x) first
          ∙ value-plus slope (scaled constant p) (0 ∷ take 15 p) x lengths
          ∙ ap₂ bit_xor (value-scaled constant p x) (ap (byte_product slope) (value-raised p x h.whole z) ∙ sym (byte_product-assoc slope x (value p x)))
          ∙ sym (byte_product-xor_left constant (byte_product slope x) (value p x));
      degree = λ n b t le. ap (λ q. get_or (xor q (scaled slope (0 ∷ take 15 p))) t 0) first
          ∙ get_or-plus slope (scaled constant p) (0 ∷ take 15 p) t lengths
          ∙ ap₂ bit_xor (get_or-scaled constant p t ∙ ap (byte_product constant) (b t (omega arith)) ∙ byte_product-zero_right constant)
          (ap (byte_product slope) (below-raised p n t b le) ∙ byte_product-zero_right slope)
          ∙ xor_self 0;
    }

pub meeting : (point wanted factor inverse : ℕ) (node p : List ℕ) → IsPoly node → IsPoly p → wanted < 256
    → byte_product (value node point) inverse ≡ 1 → value p point < 256 → factor ≡ byte_product (bit_xor wanted (value p point)) inverse
    → Meets point wanted node p (xor p (scaled factor node))
meeting point wanted factor inverse node p hn hp hw one lt f =
    let lengths : length p ≡ length node = hp.whole ∙ sym hn.whole in
    let missing : bit_xor wanted (value p point) < 256 = xor_of_8 wanted (value p point) hw lt in
    record {
      here = value-plus factor p node point lengths
          ∙ ap (bit_xor (value p point))
          (ap (λ z. byte_product z (value node point)) f ∙ byte_product-assoc (bit_xor wanted (value p point)) inverse (value node point)
          ∙ ap (byte_product (bit_xor wanted (value p point))) (byte_product-comm inverse (value node point) ∙ one)
          ∙ byte_product-one_right (bit_xor wanted (value p point)) missing ∙ xor_comm wanted (value p point))
          ∙ xor_cancel_left (value p point) wanted;
      elsewhere = λ x z. value-plus factor p node x lengths
          ∙ ap (bit_xor (value p x)) (ap (byte_product factor) z ∙ byte_product-zero_right factor) ∙ xor_zero_r (value p x);
      degree = λ n b d t le. get_or-plus factor p node t lengths
          ∙ ap₂ bit_xor (b t le) (ap (byte_product factor) (d t le) ∙ byte_product-zero_right factor) ∙ xor_self 0;
    }
