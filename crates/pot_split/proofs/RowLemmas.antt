-- Rows that are XORed one after another.
use Rattle.std.proofs.Common.{◌≡◌, ◌<◌, ◌≤◌, ◌+◌, ◌*◌, ◌-◌, ◌/◌, ◌++◌, ℕ, zero, suc, List, [], ◌∷◌, length, take, drop, refl, ap, sym, ◌∙◌, subst, arith, length-append, length-drop, replicate}
use Rattle.std.proofs.lemmas.List.{length-take-le, length-replicate, take_all, take-append-le, drop-append-le}
use Rattle.std.proofs.Math.Nat.{mul-div_cancel}
use Rattle.pot_bytes.specs.Sums.{xor, sum_of}
use Rattle.pot_bytes.proofs.SumLemmas.{xor_assoc, xor_comm, xor_self, xor_replicate, length-xor}
use Rattle.pot_split.specs.Secrecy.{rows_of, IsRows, meaning, secrecy}

-- `done` of `count` rows are in place
pub record IsUnderWay (size count done : ℕ) (start rows into rest : List ℕ) : Type 0 where
  pub wide : length into ≡ size
  pub left : length rest ≡ (count - done) * size
  pub sum : xor into (sum_of size (rows_of (count - done) size rest)) ≡ xor start (sum_of size (rows_of count size rows))

pub begins : (size count : ℕ) (start rows : List ℕ) → length start ≡ size → length rows ≡ count * size
    → IsUnderWay size count 0 start rows start rows
begins size count start rows w l =
    let e : count - 0 ≡ count = omega arith in
    record { wide = w; left = rw e l; sum = rw e refl }

pub next_fits : (size count done : ℕ) (start rows into rest : List ℕ) → IsUnderWay size count done start rows into rest
    → done < count → size ≤ length rest
next_fits size count done start rows into rest u h =
    let e : count - done ≡ suc (count - suc done) = omega arith in
    let l : length rest ≡ suc (count - suc done) * size = subst (λ n. length rest ≡ n * size) e u.left in
    grind arith

pub goes_on : (size count done : ℕ) (start rows into rest : List ℕ) → IsUnderWay size count done start rows into rest
    → done < count → IsUnderWay size count (done + 1) start rows (xor into (take size rest)) (drop size rest)
goes_on size count done start rows into rest u h =
    let e : count - done ≡ suc (count - (done + 1)) = omega arith in
    let l : length rest ≡ suc (count - (done + 1)) * size = subst (λ n. length rest ≡ n * size) e u.left in
    let f : size ≤ length rest = next_fits size count done start rows into rest u h in
    record {
      wide = length-xor into (take size rest) (u.wide ∙ sym (length-take-le size rest f)) ∙ u.wide;
      left = grind (arith, length-drop);
      sum =
          xor_assoc into (take size rest) (sum_of size (rows_of (count - (done + 1)) size (drop size rest)))
          ∙ subst (λ n. xor into (sum_of size (rows_of n size rest)) ≡ xor start (sum_of size (rows_of count size rows))) e u.sum;
    }

pub ends : (size count done : ℕ) (start rows into rest : List ℕ) → IsUnderWay size count done start rows into rest
    → count ≤ done → into ≡ xor start (sum_of size (rows_of count size rows))
ends size count done start rows into rest u h =
    let e : count - done ≡ 0 = omega arith in
    sym (xor_comm into (replicate size 0) ∙ xor_replicate size into (omega (arith, u.wide)))
    ∙ subst (λ n. xor into (sum_of size (rows_of n size rest)) ≡ xor start (sum_of size (rows_of count size rows))) e u.sum

-- a sum of whole rows is a row
pub length-sum-rows : (count size : ℕ) (bytes : List ℕ) → length bytes ≡ count * size → length (sum_of size (rows_of count size bytes)) ≡ size
length-sum-rows zero size bytes e = length-replicate {A = ℕ} size 0
length-sum-rows (suc count) size bytes e =
    let first : length (take size bytes) ≡ size = length-take-le size bytes (grind arith) in
    let rest : length (sum_of size (rows_of count size (drop size bytes))) ≡ size =
    length-sum-rows count size (drop size bytes) (grind (arith, length-drop)) in
    length-xor (take size bytes) (sum_of size (rows_of count size (drop size bytes))) (first ∙ sym rest) ∙ first

-- one row more behind whole rows is one summand more
sum-rows-append : (count size : ℕ) (bytes last : List ℕ) → length bytes ≡ count * size → length last ≡ size
    → sum_of size (rows_of (suc count) size (bytes ++ last)) ≡ xor (sum_of size (rows_of count size bytes)) last
sum-rows-append zero size [] last e l =
    ap (λ z. xor z (replicate size 0)) (take_all size last (omega (arith, l))) ∙ xor_comm last (replicate size 0)
sum-rows-append zero size (b ∷ bytes) last e l = absurd (grind arith)
sum-rows-append (suc count) size bytes last e l =
    let fits : size ≤ length bytes = grind arith in
    rw (take-append-le size bytes last fits, drop-append-le size bytes last fits)
    (ap (λ z. xor (take size bytes) z) (sum-rows-append count size (drop size bytes) last (grind (arith, length-drop)) l)
    ∙ sym (xor_assoc (take size bytes) (sum_of size (rows_of count size (drop size bytes))) last))

-- whatever the pads, all fragments give the object
pub meaning-secrecy : (object pads : List ℕ) → 0 < length object → IsRows (length object) pads
    → meaning (length object) (secrecy object pads) ≡ object
meaning-secrecy object pads some rows =
    let size : ℕ = length object in
    let count : ℕ = length pads / size in
    let pad : List ℕ = sum_of size (rows_of count size pads) in
    let wide : length pad ≡ size = length-sum-rows count size pads rows in
    let last : length (xor object pad) ≡ size = length-xor object pad (sym wide) in
    let whole : length (pads ++ xor object pad) ≡ suc count * size = grind (arith, length-append) in
    let counted : length (pads ++ xor object pad) / size ≡ suc count = ap (λ n. n / size) whole ∙ mul-div_cancel (suc count) some in
    ap (λ n. sum_of size (rows_of n size (pads ++ xor object pad))) counted
    ∙ sum-rows-append count size pads (xor object pad) rows last
    ∙ xor_comm pad (xor object pad) ∙ xor_assoc object pad pad
    ∙ ap (λ z. xor object z) (xor_self pad) ∙ xor_comm object (replicate (length pad) 0)
    ∙ xor_replicate (length pad) object (omega (arith, wide))

-- one row alone means itself
pub meaning-one : (size : ℕ) (row : List ℕ) → 0 < size → length row ≡ size → meaning size row ≡ row
meaning-one size row some wide =
    let counted : length row / size ≡ 1 = ap (λ n. n / size) (wide ∙ omega arith) ∙ mul-div_cancel 1 some in
    ap (λ n. sum_of size (rows_of n size row)) counted
    ∙ ap (λ r. xor r (replicate size 0)) (take_all size row (omega (arith, wide)))
    ∙ xor_comm row (replicate size 0) ∙ xor_replicate size row (omega (arith, wide))
