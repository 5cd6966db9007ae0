-- Whatever the shares, there is one join of them.
use Rattle.std.proofs.Common.{◌≡◌, ℕ, List, length, map, nat_eq, sym, subst, ◌∙◌, arith}
use Rattle.std.specs.List.{IsDistinct, range_with_len}
use Rattle.std.proofs.lemmas.List.{ext_get_or}
use Rattle.std.proofs.lemmas.List.FromFn.{length-map-range_with_len, get_or-map-range_with_len}
use Rattle.pot_bytes.specs.Lists.{AreBytes}
use Rattle.pot_gf.specs.Polynomials.{value, IsBelowDegree, PassesThrough}
use Rattle.pot_gf.proofs.LagrangeLemmas.{exists_law}
use Rattle.pot_gf.proofs.Values.{value-same}
use Rattle.pot_gf.proofs.Zeros.{unique_law}
use Rattle.pot_split.specs.Secrecy.{rows_of}
use Rattle.pot_split.specs.Threshold.{column, IsJoin}
use Rattle.pot_split.proofs.ThresholdLaws.{column_bytes}

pub unique_join : (points shares a b : List ℕ) → AreBytes points → AreBytes shares → IsDistinct nat_eq points
    → length a ≡ length b → IsJoin points shares a → IsJoin points shares b → a ≡ b
unique_join points shares a b bp bs d same ja jb =
    ext_get_or 0 a b same (λ k inside.
    let ys = column k (rows_of (length points) (length a) shares) in
    let p = exists_law points ys bp (column_bytes k (length points) (length a) shares bs) d in
    let q : PassesThrough points (column k (rows_of (length points) (length b) shares)) p.0 =
    subst (λ (n : ℕ). PassesThrough points (column k (rows_of (length points) n shares)) p.0) same p.3 in
    ja k inside p.0 p.1 p.2 p.3 ∙ sym (jb k (omega (arith, same)) p.0 p.1 p.2 q))

pub some_join : (points shares : List ℕ) (size : ℕ) → AreBytes points → AreBytes shares → IsDistinct nat_eq points
    → (joined : List ℕ) × (length joined ≡ size) × IsJoin points shares joined
some_join points shares size bp bs d =
    let through : (k : ℕ) → (p : List ℕ) × AreBytes p × IsBelowDegree (length points) p × PassesThrough points (column k (rows_of (length points) size shares)) p =
    λ k. exists_law points (column k (rows_of (length points) size shares)) bp (column_bytes k (length points) size shares bs) d in
    let f : ℕ → ℕ = λ k. value (through k).0 0 in
    let joined = map f (range_with_len 0 size) in
    let long : length joined ≡ size = length-map-range_with_len f 0 size in (
      joined,
      long,
      λ k inside p bytes below passes.
          let q = through k in
          let here : PassesThrough points (column k (rows_of (length points) size shares)) p =
          subst (λ (n : ℕ). PassesThrough points (column k (rows_of (length points) n shares)) p) long passes in
          get_or-map-range_with_len f 0 size k k 0 (omega (arith, long)) (omega arith)
          ∙ value-same q.0 p 0 (unique_law points (column k (rows_of (length points) size shares)) q.0 p bp q.1 bytes d q.2 below q.3 here),
    )
