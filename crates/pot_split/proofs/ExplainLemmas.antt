-- The coefficients that explain another content: as many, bytes, and back again.
use Rattle.std.proofs.Common.{◌≡◌, ◌<◌, ◌*◌, ◌/◌, ◌++◌, ℕ, zero, suc, List, [], ◌∷◌, length, take, drop, replicate, get_or, refl, ap, ap₂, sym, ◌∙◌, arith, lit<}
use Rattle.std.proofs.lemmas.List.{length-map, length-take-le, take_at, drop_at, take-append-drop}
use Rattle.pot_bytes.specs.Lists.{AreBytes}
use Rattle.pot_bytes.specs.Product.{byte_product}
use Rattle.pot_bytes.specs.Sums.{xor}
use Rattle.pot_bytes.specs.Weighted.{scaled}
use Rattle.pot_bytes.proofs.ListLemmas.{AreBytes-append, AreBytes-drop, AreBytes-take, AreBytes-xor}
use Rattle.pot_bytes.proofs.SumLemmas.{length-xor, xor_assoc, xor_comm, xor_self, xor_zeros}
use Rattle.pot_gf.specs.Polynomials.{vanishing}
use Rattle.pot_gf.proofs.Vanishing.{scaled-bytes}
use Rattle.pot_split.specs.Secrecy.{IsRows}
use Rattle.pot_split.specs.Threshold.{changed_rows, explaining}
use Rattle.pot_split.proofs.ThresholdLaws.{length-changed_row, length-changed_rows}
use Rattle.pot_split.proofs.ShareLemmas.{first_row, other_rows}

-- what is added twice is gone
pub xor_undone : (a s : List ℕ) → length a ≡ length s → xor (xor a s) s ≡ a
xor_undone a s e =
    xor_assoc a s s ∙ ap (xor a) (xor_self s ∙ ap (λ (n : ℕ). replicate n 0) (sym e))
    ∙ xor_comm a (replicate (length a) 0) ∙ xor_zeros a

rows_twice : (d v : List ℕ) (t n : ℕ) (rows : List ℕ) → length rows ≡ n * length d
    → changed_rows d v t n (changed_rows d v t n rows) ≡ rows
rows_twice d v t zero [] e = refl
rows_twice d v t zero (x ∷ rows) e = absurd (omega arith)
rows_twice d v t (suc n) rows e =
    let s = scaled (get_or v t 0) d in
    let row = xor (take (length d) rows) s in
    let rest = changed_rows d v (suc t) n (drop (length d) rows) in
    let long : length row ≡ length d = length-changed_row d v rows t n e in
    let front : length (take (length d) rows) ≡ length s =
    length-take-le (length d) rows (first_row (length d) n rows e) ∙ sym (length-map d (byte_product (get_or v t 0))) in
    ap₂ (λ (a b : List ℕ). xor a s ++ changed_rows d v (suc t) n b) (take_at row rest (length d) long) (drop_at row rest (length d) long)
    ∙ ap₂ (λ (a b : List ℕ). a ++ b) (xor_undone (take (length d) rows) s front)
    (rows_twice d v (suc t) n (drop (length d) rows) (other_rows (length d) n rows e))
    ∙ take-append-drop (length d) rows

pub as_many_law : (content other seen coefficients : List ℕ) → 0 < length content → length other ≡ length content
    → IsRows (length content) coefficients → length (explaining content other seen coefficients) ≡ length coefficients
as_many_law content other seen coefficients some same rows =
    let wide : length (xor content other) ≡ length content = length-xor content other (sym same) in
    let count = length coefficients / length content in
    let here : length coefficients ≡ count * length (xor content other) = rows ∙ ap (λ (z : ℕ). count * z) (sym wide) in
    length-changed_rows (xor content other) (vanishing seen) 1 count coefficients here ∙ sym here

pub back_law : (content other seen coefficients : List ℕ) → 0 < length content → length other ≡ length content
    → IsRows (length content) coefficients
    → explaining other content seen (explaining content other seen coefficients) ≡ coefficients
back_law content other seen coefficients some same rows =
    let d = xor content other in
    let v = vanishing seen in
    let wide : length d ≡ length content = length-xor content other (sym same) in
    let count = length coefficients / length content in
    let here : length coefficients ≡ count * length d = rows ∙ ap (λ (z : ℕ). count * z) (sym wide) in
    let changed = changed_rows d v 1 count coefficients in
    let again : length changed / length other ≡ count =
    ap₂ (λ (a b : ℕ). a / b) (as_many_law content other seen coefficients some same rows) same in
    ap₂ (λ (a : List ℕ) (n : ℕ). changed_rows a v 1 n changed) (xor_comm other content) again
    ∙ rows_twice d v 1 count coefficients here

rows-bytes : (d v : List ℕ) (t n : ℕ) (rows : List ℕ) → AreBytes rows → AreBytes (changed_rows d v t n rows)
rows-bytes d v t zero rows b = λ k. lit< tt
rows-bytes d v t (suc n) rows b =
    AreBytes-append (xor (take (length d) rows) (scaled (get_or v t 0) d)) (changed_rows d v (suc t) n (drop (length d) rows))
    (AreBytes-xor (take (length d) rows) (scaled (get_or v t 0) d) (AreBytes-take (length d) rows b) (scaled-bytes (get_or v t 0) d))
    (rows-bytes d v (suc t) n (drop (length d) rows) (AreBytes-drop (length d) rows b))

pub bytes_law : (content other seen coefficients : List ℕ) → AreBytes coefficients → AreBytes (explaining content other seen coefficients)
bytes_law content other seen coefficients b =
    rows-bytes (xor content other) (vanishing seen) 1 (length coefficients / length content) coefficients b
