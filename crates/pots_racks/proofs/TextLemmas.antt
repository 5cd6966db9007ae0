-- The text of a vault: one line more, and how long it is.
use Rattle.std.proofs.Common.{◌≡◌, ◌≢◌, add-one, subst, ◌+◌, ◌*◌, ℕ, zero, suc, List, [], ◌++◌, length, refl, ap, ◌∙◌, sym, arith, length-append}
use Rattle.pots_racks.specs.Racks.{head, tail, line, lines, vault_text}

pub lines_none : lines 0 ≡ []
unfolding lines
lines_none = refl

pub lines_more : (n : ℕ) → lines (suc n) ≡ lines n ++ line (suc n)
unfolding lines
lines_more n = refl

long_lines : (n : ℕ) → length (lines n) ≡ 9 * n
long_lines zero = ap (λ (l : List ℕ). length l) lines_none
long_lines (suc n) =
    omega (arith, ap (λ (l : List ℕ). length l) (lines_more n), length-append (lines n) (line (suc n)), long_lines n)

pub text_is : (n : ℕ) → vault_text n ≡ (head ++ lines n) ++ tail
unfolding vault_text
text_is n = refl

pub long_text : (n : ℕ) → length (vault_text n) ≡ 22 + 9 * n
long_text n =
    omega (arith, ap (λ (l : List ℕ). length l) (text_is n), length-append (head ++ lines n) tail, length-append head (lines n), long_lines n)

pub one_count : (m n : ℕ) → vault_text m ≡ vault_text n → m ≡ n
one_count m n e = omega (arith, ap (λ (l : List ℕ). length l) e, long_text m, long_text n)

pub lines_next : (n : ℕ) → lines (n + 1) ≡ lines n ++ line (n + 1)
lines_next n = subst (λ (k : ℕ). lines k ≡ lines n ++ line k) (sym (add-one n)) (lines_more n)

-- a text of the length of another vault's is not that of a vault whose text it is not
pub none_other : (text wanted : List ℕ) (count n : ℕ) → wanted ≡ vault_text count → length text ≡ 22 + 9 * count → (wanted ≡ text → ⊥) → text ≢ vault_text n
none_other text wanted count n is long other e =
    let same : n ≡ count = omega (arith, ap (λ (l : List ℕ). length l) e, long_text n, long) in
    other (is ∙ ap vault_text (sym same) ∙ sym e)
