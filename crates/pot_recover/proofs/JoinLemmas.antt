-- What the shares of a chain mean.
use Rattle.std.proofs.Common.{◌≡◌, inl, inr, ℕ, suc, ◌+◌, ◌*◌, ◌<◌, ◌≤◌, List, [], ◌∷◌, map, length, take, drop, get_or, nat_eq, subst, zero-mul, refl, sym, ap, ap₂, ◌∙◌, arith, length-append}
use Rattle.std.specs.List.{flat_map, range_with_len, All, IsDistinct}
use Rattle.pot_split.specs.Secrecy.{rows_of}
use Rattle.pot_split.specs.Threshold.{column, IsJoin}
use Rattle.std.proofs.lemmas.List.{length-take-le, length-drop, get_or-take, get_or-drop}
use Rattle.std.proofs.lemmas.List.FromFn.{length-range_with_len, get_or-range_with_len, take-map-range_with_len}
use Rattle.pot_bytes.specs.Lists.{AreBytes}
use Rattle.pot_recover.specs.Points.{ArePoints}
use Rattle.pot_recover.specs.HeldShards.{share_of, piece_of, bytes_held, AreWhole}
use Rattle.pot_joins.specs.Joins.{IsJoinAt}
use Rattle.pot_gf.specs.Polynomials.{PassesThrough}
use Rattle.pot_split.proofs.ThresholdLaws.{rows_of-append}
use Rattle.pot_recover.proofs.RingLemmas.{range-bytes, range-distinct}
use Rattle.pot_recover.specs.declared.held.Held.{Held}

length-piece : (start size : ℕ) (h : Held) → length (share_of h) ≡ 992 → start + size ≤ 992 → length (piece_of start size h) ≡ size
length-piece start size h whole within =
    length-take-le size (drop start h.share.now) (let d = length-drop start h.share.now in omega (arith, d, whole, within))

pub length-pieces : (start size : ℕ) (chain : List Held) → AreWhole chain → start + size ≤ 992 → length (flat_map (piece_of start size) chain) ≡ length chain * size
length-pieces start size [] w within = omega (arith, zero-mul size)
length-pieces start size (h ∷ chain) w within =
    length-append (piece_of start size h) (flat_map (piece_of start size) chain)
    ∙ ap₂ (λ a b. a + b) (length-piece start size h (w h (inl refl)) within) (length-pieces start size chain (λ g i. w g (inr i)) within)
    ∙ more (length chain) size
  where
    more : (n k : ℕ) → k + n * k ≡ suc n * k
    more n k = grind arith

pub bytes_in_pieces : (start size k : ℕ) (chain : List Held) → AreWhole chain → start + size ≤ 992 → k < size
    → column k (rows_of (length chain) size (flat_map (piece_of start size) chain)) ≡ bytes_held (start + k) chain
bytes_in_pieces start size k [] w within less = refl
bytes_in_pieces start size k (h ∷ chain) w within less =
    ap (column k) (rows_of-append (length chain) size (piece_of start size h) (flat_map (piece_of start size) chain) (length-piece start size h (w h (inl refl)) within))
    ∙ ap₂ (λ a l. a ∷ l) (get_or-take size (drop start h.share.now) k 0 less ∙ get_or-drop start h.share.now k 0)
    (bytes_in_pieces start size k chain (λ g i. w g (inr i)) within less)

-- the points of a chain are bytes, distinct and not zero
pub points_distinct : (points : List ℕ) (n : ℕ) → points ≡ range_with_len 1 n → IsDistinct nat_eq points
points_distinct points n e = subst (IsDistinct nat_eq) (sym e) (range-distinct 1 n)

pub points_not_zero : (points : List ℕ) (n : ℕ) → points ≡ range_with_len 1 n → All (λ x. 0 < x) points
points_not_zero points n e k d within =
    let inside : k < n = omega (arith, within, ap length e, length-range_with_len 1 n) in
    omega (arith, ap (λ l. get_or l k d) e, get_or-range_with_len 1 n k d inside)

-- the points from 1 on may be joined at
pub first_points_are : (points : List ℕ) (n : ℕ) → points ≡ range_with_len 1 n → n ≤ 16 → ArePoints points
first_points_are points n e few = record {
  bytes = subst AreBytes (sym e) (range-bytes 1 n (omega (arith, few)));
  distinct = points_distinct points n e;
  not_zero = points_not_zero points n e;
}

-- the front of the points
pub points_front : (points : List ℕ) (n : ℕ) → points ≡ range_with_len 1 16 → n ≤ 16 → take n points ≡ range_with_len 1 n
points_front points n e few = ap (take n) (e ∙ sym (map_itself (range_with_len 1 16))) ∙ (take-map-range_with_len (λ x. x) 1 16 n few ∙ map_itself (range_with_len 1 n))
  where
    map_itself : (xs : List ℕ) → map (λ x. x) xs ≡ xs
    map_itself [] = refl
    map_itself (x ∷ xs) = ap (λ l. x ∷ l) (map_itself xs)

-- what the first k places of shares mean
pub joined_at : (points values rows out : List ℕ) (n size k : ℕ) → length points ≡ n → length out ≡ size → IsJoin points rows out → k < size
    → column k (rows_of n size rows) ≡ values → IsJoinAt points values 0 (get_or out k 0)
joined_at points values rows out n size k few wide join less same p b d through =
    join k (omega (arith, less, wide)) p b d
    (subst (λ v. PassesThrough points v p) (sym (ap (λ i. column k (rows_of i (length out) rows)) few ∙ (ap (λ i. column k (rows_of n i rows)) wide ∙ same))) through)
