use Rattle.std.proofs.Common.{◌≡◌, ◌<◌, ◌++◌, ◌∙◌, ℕ, List, length, map, take, bit_xor, nat_eq, get_or, arith, ap, sym, subst}
use Rattle.std.specs.List.{IsDistinct}
use Rattle.std.proofs.lemmas.List.{length-map, take_all, take-append-le}
use Rattle.pot_bytes.specs.Lists.{AreBytes}
use Rattle.pot_gf.specs.Polynomials.{value, IsBelowDegree, PassesThrough}
use Rattle.pot_split.specs.Secrecy.{rows_of}
use Rattle.pot_split.specs.Threshold.{column, IsJoin}
use Rattle.pot_joins.proofs.TurnLemmas.{turned_points, turned_distinct, turned_not_zero, joined_at}
use Rattle.pot_joins.proofs.share.share_at.Goals as goal

-- the front of an array into which a list was written
front : (n : ℕ) (xs ys : List ℕ) → length xs ≡ n → take n (xs ++ ys) ≡ xs
front n xs ys e = take-append-le n xs ys (omega (arith, e)) ∙ take_all n xs (omega (arith, e))

turned : (points out ys : List ℕ) (at : ℕ) → out ≡ map (λ x. bit_xor x at) points → take (length points) (out ++ ys) ≡ turned_points at points
turned points out ys at e = front (length points) out ys (ap length e ∙ length-map points (λ x. bit_xor x at)) ∙ e

pub share_join-requires-clause-distinct : goal.share_join-requires-clause-distinct
share_join-requires-clause-distinct c =
    subst (IsDistinct nat_eq) (sym (turned c.args.points.now c.turn.new.out _ c.args.at c.turn.ensures)) (turned_distinct c.args.at c.args.points.now c.requires.distinct)

pub share_join-requires-clause-not_zero : goal.share_join-requires-clause-not_zero
share_join-requires-clause-not_zero c =
    subst (λ (l : List ℕ). (k : ℕ) → (d : ℕ) → k < length l → 0 < get_or l k d) (sym (turned c.args.points.now c.turn.new.out _ c.args.at c.turn.ensures))
    (turned_not_zero c.args.at c.args.points.now c.requires.apart)

pub returns : goal.returns
returns c = λ k within.
    let points = c.args.points.now in
    let joined = c.share_join.new.out in
    let at = c.args.at in
    let is = subst (λ (l : List ℕ). IsJoin l c.args.shares.now joined) (turned points c.turn.new.out _ at c.turn.ensures) c.share_join.ensures in
    let long : length (turned_points at points) ≡ length points = length-map points (λ x. bit_xor x at) in
    joined_at at points (column k (rows_of (length points) (length joined) c.args.shares.now)) (get_or joined k 0)
    (subst (λ (n : ℕ). (q : List ℕ) → AreBytes q → IsBelowDegree (length (turned_points at points)) q
    → PassesThrough (turned_points at points) (column k (rows_of n (length joined) c.args.shares.now)) q
    → get_or joined k 0 ≡ value q 0) long (is k within))
