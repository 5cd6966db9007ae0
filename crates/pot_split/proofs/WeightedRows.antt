-- Rows that are added one after another, each times its weight.
use Rattle.std.proofs.Common.{◌≡◌, ◌<◌, ◌≤◌, ◌+◌, ◌*◌, ◌-◌, ℕ, suc, List, ◌∷◌, length, take, drop, get_or, refl, ap, ap₂, sym, ◌∙◌, subst, arith, length-drop, replicate, drop-cons}
use Rattle.std.proofs.Math.ListN.{drop_of_length-le}
use Rattle.std.proofs.lemmas.List.{length-take-le, length-map}
use Rattle.pot_bytes.specs.Product.{byte_product}
use Rattle.pot_bytes.specs.Sums.{xor}
use Rattle.pot_bytes.specs.Weighted.{scaled, weighted_sum}
use Rattle.pot_bytes.proofs.SumLemmas.{xor_assoc, xor_comm, xor_replicate, length-xor}
use Rattle.pot_split.specs.Secrecy.{rows_of}

-- `done` of the rows are in place
pub record IsAdding (size done : ℕ) (weights start rows into rest : List ℕ) : Type 0 where
  pub wide : length into ≡ size
  pub left : length rest ≡ (length weights - done) * size
  pub sum : xor into (weighted_sum size (drop done weights) (rows_of (length weights - done) size rest))
      ≡ xor start (weighted_sum size weights (rows_of (length weights) size rows))

pub adding_begins : (size : ℕ) (weights start rows : List ℕ) → length start ≡ size → length rows ≡ length weights * size
    → IsAdding size 0 weights start rows start rows
adding_begins size weights start rows w l =
    let e : length weights - 0 ≡ length weights = omega arith in
    record { wide = w; left = rw e l; sum = rw e refl }

pub adding_fits : (size done : ℕ) (weights start rows into rest : List ℕ) → IsAdding size done weights start rows into rest
    → done < length weights → size ≤ length rest
adding_fits size done weights start rows into rest u h =
    let e : length weights - done ≡ suc (length weights - suc done) = omega arith in
    let l : length rest ≡ suc (length weights - suc done) * size = subst (λ n. length rest ≡ n * size) e u.left in
    grind arith

pub adding_goes_on : (size done : ℕ) (weights start rows into rest : List ℕ) → IsAdding size done weights start rows into rest
    → done < length weights → IsAdding size (done + 1) weights start rows (xor into (scaled (get_or weights done 0) (take size rest))) (drop size rest)
adding_goes_on size done weights start rows into rest u h =
    let e : length weights - done ≡ suc (length weights - (done + 1)) = omega arith in
    let l : length rest ≡ suc (length weights - (done + 1)) * size = subst (λ n. length rest ≡ n * size) e u.left in
    let f : size ≤ length rest = adding_fits size done weights start rows into rest u h in
    let row : length (scaled (get_or weights done 0) (take size rest)) ≡ size = length-map (take size rest) (byte_product (get_or weights done 0)) ∙ length-take-le size rest f in
    let d : drop done weights ≡ get_or weights done 0 ∷ drop (done + 1) weights = drop-cons weights done 0 h ∙ ap (λ k. get_or weights done 0 ∷ drop k weights) (let k : suc done ≡ done + 1 = omega arith in k) in
    record {
      wide = length-xor into (scaled (get_or weights done 0) (take size rest)) (u.wide ∙ sym row) ∙ u.wide;
      left = grind (arith, length-drop);
      sum =
          xor_assoc into (scaled (get_or weights done 0) (take size rest)) (weighted_sum size (drop (done + 1) weights) (rows_of (length weights - (done + 1)) size (drop size rest)))
          ∙ ap (xor into) (ap₂ (λ ws n. weighted_sum size ws (rows_of n size rest)) (sym d) (sym e))
          ∙ u.sum;
    }

pub adding_ends : (size done : ℕ) (weights start rows into rest : List ℕ) → IsAdding size done weights start rows into rest
    → length weights ≤ done → into ≡ xor start (weighted_sum size weights (rows_of (length weights) size rows))
adding_ends size done weights start rows into rest u h =
    sym (xor_comm into (replicate size 0) ∙ xor_replicate size into (omega (arith, u.wide)))
    ∙ ap (λ ws. xor into (weighted_sum size ws (rows_of (length weights - done) size rest))) (sym (drop_of_length-le weights h))
    ∙ u.sum
