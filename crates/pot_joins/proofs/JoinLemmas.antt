-- What m samples fix, and polynomials turned by a point.
use Rattle.std.proofs.Common.{◌≡◌, ◌≢◌, ◌↔◌, inl, inr, ℕ, zero, suc, ◌<◌, ◌≤◌, bit_xor, List, [], ◌∷◌, length, take, get_or, nat_eq, refl, sym, ap, ap₂, ◌∙◌, subst, arith, lit<}
use Rattle.std.specs.List.{IsDistinct}
use Rattle.std.specs.Int.Bits.{xor_zero_r, xor_self}
use Rattle.std.proofs.lemmas.Nat.{xor_comm, xor_of_8}
use Rattle.std.proofs.lemmas.Bool.{cases_lt, ne_eqb}
use Rattle.std.proofs.lemmas.Map.Keys.{IsDistinct-from_apart}
use Rattle.std.proofs.lemmas.List.{length-take-le, get_or-take}
use Rattle.pot_bytes.specs.Product.{byte_product}
use Rattle.pot_bytes.proofs.ProductLemmas.{byte_product-zero_right}
use Rattle.pot_bytes.specs.Lists.{AreBytes}
use Rattle.pot_bytes.proofs.ListLemmas.{AreBytes-take}
use Rattle.pot_gf.specs.Polynomials.{value, IsBelowDegree, PassesThrough}
use Rattle.pot_gf.proofs.Values.{value-nil, value-cons, value-added, value-at_zero, added, get_or-added}
use Rattle.pot_gf.proofs.Built.{distinct_apart}
use Rattle.pot_joins.specs.Joins.{IsOnOne, IsJoinAt, AreSamples, JoinLaws}
use Rattle.pot_gf.proofs.LagrangeLemmas.{exists_law, rooted, value-rooted, get_or-rooted, rooted-degree, rooted-bytes}

pub through : (points values : List ℕ) → AreSamples points values
    → (p : List ℕ) × AreBytes p × IsBelowDegree (length points) p × PassesThrough points values p
through points values s = exists_law points values s.points_bytes s.values_bytes s.distinct

get_or-default : (xs : List ℕ) (i d e : ℕ) → i < length xs → get_or xs i d ≡ get_or xs i e
get_or-default [] i d e h = absurd (omega arith)
get_or-default (x ∷ xs) zero d e h = refl
get_or-default (x ∷ xs) (suc i) d e h = get_or-default xs i d e (omega arith)

length-take-lt : (m : ℕ) (xs : List ℕ) → length (take m xs) ≤ m
length-take-lt zero xs = omega arith
length-take-lt (suc m) [] = omega arith
length-take-lt (suc m) (x ∷ xs) = let h = length-take-lt m xs in omega arith

length-take-within : (m : ℕ) (xs : List ℕ) → length (take m xs) ≤ length xs
length-take-within zero xs = omega arith
length-take-within (suc m) [] = omega arith
length-take-within (suc m) (x ∷ xs) = let h = length-take-within m xs in omega arith

differ : (points : List ℕ) (i j e : ℕ) → IsDistinct nat_eq points → i < j → j < length points → get_or points i e ≢ get_or points j e
differ points i j e d less within same =
    distinct_apart points i j d less within
    (get_or-default points i 0 e (omega arith) ∙ (same ∙ get_or-default points j e 0 within))

distinct_front : (m : ℕ) (points : List ℕ) → IsDistinct nat_eq points → IsDistinct nat_eq (take m points)
distinct_front m points d =
    IsDistinct-from_apart nat_eq (take m points) (λ i j e less within.
    let at_i = get_or-take m points i e (omega (arith, less, within, length-take-lt m points)) in
    let at_j = get_or-take m points j e (omega (arith, within, length-take-lt m points)) in
    ne_eqb (get_or (take m points) i e) (get_or (take m points) j e)
    (λ same. differ points i j e d less (omega (arith, within, length-take-within m points)) (sym at_i ∙ (same ∙ at_j))))

pub closes : (m : ℕ) (points values : List ℕ) (joined : ℕ → ℕ) → AreSamples points values → m ≤ length points
    → ((y : ℕ) → IsJoinAt (take m points) (take m values) y (joined y))
    → (byte : ℕ)
    → IsOnOne m points values byte
    ↔ ((byte ≡ joined 0) × ((i : ℕ) → m ≤ i → i < length points → get_or values i 0 ≡ joined (get_or points i 0)))
closes m points values joined s few join byte = (to, from)
  where
    count : length (take m points) ≡ m
    count = length-take-le m points few

    front : (p : List ℕ) → PassesThrough points values p → PassesThrough (take m points) (take m values) p
    front p h i lt =
        let inside : i < m = omega (arith, lt, count) in
        ap (value p) (get_or-take m points i 0 inside) ∙ h i (omega (arith, inside)) ∙ sym (get_or-take m values i 0 inside)

    to : IsOnOne m points values byte → (byte ≡ joined 0) × ((i : ℕ) → m ≤ i → i < length points → get_or values i 0 ≡ joined (get_or points i 0))
    to (p, b, d, h, first) =
        let below : IsBelowDegree (length (take m points)) p = subst (λ n. IsBelowDegree n p) (sym count) d in (
          sym first ∙ (sym (value-at_zero p b) ∙ sym (join 0 p b below (front p h))),
          λ i le lt. sym (h i lt) ∙ sym (join (get_or points i 0) p b below (front p h)),
        )

    from : (byte ≡ joined 0) × ((i : ℕ) → m ≤ i → i < length points → get_or values i 0 ≡ joined (get_or points i 0)) → IsOnOne m points values byte
    from (first, rest) =
        let r = through (take m points) (take m values)
        (record {
          points_bytes = AreBytes-take m points s.points_bytes;
          values_bytes = AreBytes-take m values s.values_bytes;
          distinct = distinct_front m points s.distinct;
          paired = length-take-le m values (omega (arith, s.paired)) ∙ sym count;
        }) in
        let p = r.0 in (
          p,
          r.1,
          subst (λ n. IsBelowDegree n p) count r.2,
          λ i lt. elim (cases_lt i m) [
            | inl inside ↦
                ap (value p) (sym (get_or-take m points i 0 inside)) ∙ r.3 i (omega (arith, count, inside)) ∙ get_or-take m values i 0 inside
            | inr behind ↦ sym (join (get_or points i 0) p r.1 r.2 r.3) ∙ sym (rest i behind lt)
          ],
          sym (value-at_zero p r.1) ∙ sym (join 0 p r.1 r.2 r.3) ∙ sym first,
        )

-- p at x + y, as a polynomial in x: c + (x + y) p' turns to c + (y + x) times p' turned
turned_by : ℕ → List ℕ → List ℕ
turned_by y [] = []
turned_by y (c ∷ p) = added (c ∷ []) (rooted y (turned_by y p))

value-turned : (y : ℕ) (p : List ℕ) (x : ℕ) → AreBytes p → value (turned_by y p) x ≡ value p (bit_xor x y)
unfolding turned_by
value-turned y [] x b = value-nil x ∙ sym (value-nil (bit_xor x y))
value-turned y (c ∷ p) x b =
    value-added (c ∷ []) (rooted y (turned_by y p)) x
    ∙ ap₂ bit_xor
    (value-cons c [] x ∙ ap (bit_xor (byte_product c 1)) (ap (byte_product x) (value-nil x) ∙ byte_product-zero_right x) ∙ xor_zero_r (byte_product c 1))
    (value-rooted y (turned_by y p) x ∙ ap₂ byte_product (xor_comm y x) (value-turned y p x (λ k. b (suc k))))
    ∙ sym (value-cons c p (bit_xor x y))

turned-bytes : (y : ℕ) (p : List ℕ) → AreBytes p → AreBytes (turned_by y p)
unfolding turned_by
turned-bytes y [] b t = lit< tt
turned-bytes y (c ∷ p) b t =
    rw get_or-added (xor_of_8 (get_or (c ∷ []) t 0) (get_or (rooted y (turned_by y p)) t 0) (one t)
    (rooted-bytes y (turned_by y p) (turned-bytes y p (λ k. b (suc k))) t))
  where
    one : (t : ℕ) → get_or (c ∷ []) t 0 < 256
    one zero = b 0
    one (suc t) = lit< tt

turned-degree : (y : ℕ) (p : List ℕ) (n : ℕ) → IsBelowDegree n p → IsBelowDegree n (turned_by y p)
unfolding turned_by
turned-degree y [] n d t le = refl
turned-degree y (c ∷ p) zero d t le =
    let none : IsBelowDegree 0 (turned_by y p) = turned-degree y p 0 (λ k l. d (suc k) (omega arith)) in
    get_or-added (c ∷ []) (rooted y (turned_by y p)) t
    ∙ ap₂ bit_xor (first t)
    (get_or-rooted y (turned_by y p) t
    ∙ ap₂ bit_xor (ap (byte_product y) (none t le) ∙ byte_product-zero_right y) (shifted t none) ∙ xor_self 0)
    ∙ xor_self 0
  where
    first : (t : ℕ) → get_or (c ∷ []) t 0 ≡ 0
    first zero = d 0 (omega arith)
    first (suc t) = refl

    shifted : (t : ℕ) → IsBelowDegree 0 (turned_by y p) → get_or (0 ∷ turned_by y p) t 0 ≡ 0
    shifted zero none = refl
    shifted (suc t) none = none t (omega arith)
turned-degree y (c ∷ p) (suc n) d zero le = absurd (omega arith)
turned-degree y (c ∷ p) (suc n) d (suc t) le =
    get_or-added (c ∷ []) (rooted y (turned_by y p)) (suc t)
    ∙ ap (bit_xor 0) (rooted-degree y (turned_by y p) n (turned-degree y p n (λ k l. d (suc k) (omega arith))) (suc t) le)
    ∙ xor_self 0

pub join_laws : JoinLaws
join_laws = record {
  closes = closes;
  turned = λ y p b. (turned_by y p, turned-bytes y p b, turned-degree y p, λ x. value-turned y p x b);
}
