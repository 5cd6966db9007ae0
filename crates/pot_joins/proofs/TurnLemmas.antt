-- What shares fix at a point is what they mean at the points turned by it.
use Rattle.std.proofs.Common.{◌≡◌, ◌≢◌, ℕ, zero, suc, ◌<◌, bit_xor, List, [], ◌∷◌, length, map, get_or, nat_eq, refl, sym, ap, ◌∙◌, subst, arith, pos_of_ne-zero}
use Rattle.std.specs.List.{IsDistinct}
use Rattle.std.specs.Int.Bits.{xor_zero_l}
use Rattle.std.proofs.lemmas.Bool.{ne_eqb}
use Rattle.std.proofs.lemmas.List.{length-map}
use Rattle.std.proofs.lemmas.Map.Keys.{IsDistinct-from_apart}
use Rattle.pot_bytes.proofs.TotalLemmas.{from_zero, xor_cancel}
use Rattle.pot_joins.specs.Joins.{IsJoinAt}
use Rattle.pot_joins.proofs.JoinLemmas.{join_laws}
use Rattle.pot_bytes.specs.Lists.{AreBytes}
use Rattle.pot_gf.specs.Polynomials.{value, IsBelowDegree, PassesThrough}
use Rattle.pot_gf.proofs.Built.{distinct_apart}

abbrev pub turned_points : ℕ → List ℕ → List ℕ
turned_points at points = map (λ x. bit_xor x at) points

at_turned : (at : ℕ) (points : List ℕ) (i d e : ℕ) → i < length points → get_or (turned_points at points) i d ≡ bit_xor (get_or points i e) at
at_turned at [] i d e h = absurd (omega arith)
at_turned at (x ∷ points) zero d e h = refl
at_turned at (x ∷ points) (suc i) d e h = at_turned at points i d e (omega arith)

pub turned_distinct : (at : ℕ) (points : List ℕ) → IsDistinct nat_eq points → IsDistinct nat_eq (turned_points at points)
turned_distinct at points distinct =
    IsDistinct-from_apart nat_eq (turned_points at points) (λ i j d less within.
    let inside : j < length points = omega (arith, within, length-map points (λ x. bit_xor x at)) in
    let at_i = at_turned at points i d 0 (omega (arith, less, inside)) in
    let at_j = at_turned at points j d 0 inside in
    ne_eqb (get_or (turned_points at points) i d) (get_or (turned_points at points) j d)
    (λ same.
    distinct_apart points i j distinct less inside
    (sym (xor_cancel (get_or points i 0) at) ∙ (ap (λ z. bit_xor z at) (sym at_i ∙ (same ∙ at_j)) ∙ xor_cancel (get_or points j 0) at))))

pub turned_not_zero : (at : ℕ) (points : List ℕ) → ((i : ℕ) → i < length points → get_or points i 0 ≢ at)
    → (k d : ℕ) → k < length (turned_points at points) → 0 < get_or (turned_points at points) k d
turned_not_zero at points apart k d within =
    let inside : k < length points = omega (arith, within, length-map points (λ x. bit_xor x at)) in
    pos_of_ne-zero (λ none. apart k inside (from_zero (get_or points k 0) at (sym (at_turned at points k d 0 inside) ∙ none)))

-- what is joined at the turned points is the value at the point
pub joined_at : (at : ℕ) (points values : List ℕ) (joined : ℕ)
    → ((q : List ℕ) → AreBytes q → IsBelowDegree (length (turned_points at points)) q → PassesThrough (turned_points at points) values q → joined ≡ value q 0)
    → IsJoinAt points values at joined
joined_at at points values joined join p b d through =
    let t = join_laws.turned at p b in
    let long : length (turned_points at points) ≡ length points = length-map points (λ x. bit_xor x at) in
    join t.0 t.1 (subst (λ n. IsBelowDegree n t.0) (sym long) (t.2 (length points) d))
    (λ i lt.
    let inside : i < length points = omega (arith, lt, long) in
    t.3 (get_or (turned_points at points) i 0)
    ∙ (ap (λ z. value p (bit_xor z at)) (at_turned at points i 0 0 inside) ∙ (ap (value p) (xor_cancel (get_or points i 0) at) ∙ through i inside)))
    ∙ (t.3 0 ∙ ap (value p) (xor_zero_l at))
