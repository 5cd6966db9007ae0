-- The names of parts.
use Rattle.std.proofs.Common.{◌≡◌, ◌≢◌, ◌≤◌, ◌<◌, ◌+◌, ◌/◌, ◌%◌, ℕ, List, [], ◌∷◌, ◌++◌, length, take, refl, sym, ap, subst, ◌∙◌, arith, length-append}
use Rattle.std.specs.Prelude.{All, IsTrue, IsSome, MatchOption, Option, Some, None, ◌↔◌}
use Rattle.std.proofs.lemmas.Bool.Decides.{nat_tests}
use Rattle.std.proofs.lemmas.List.Elements.{All-nil, All-cons, All-append}
use Rattle.pot_bytes.specs.Names.{IsName, is_name_byte}
use Rattle.pot_client.specs.Parts.{digit, four_digits, suffix}
use Rattle.pot_client.proofs.SequenceLemmas.{same_fronts}

-- four digits tell the number
same_digits : (m n : ℕ) → m ≤ 9999 → n ≤ 9999 → m / 1000 % 10 ≡ n / 1000 % 10 → m / 100 % 10 ≡ n / 100 % 10 → m / 10 % 10 ≡ n / 10 % 10 → m % 10 ≡ n % 10 → m ≡ n
same_digits m n p q a b c d = omega (arith, a, b, c, d)

six_bytes : (a b c d a' b' c' d' : ℕ) → 46 ∷ 112 ∷ a ∷ b ∷ c ∷ d ∷ [] ≡ 46 ∷ 112 ∷ a' ∷ b' ∷ c' ∷ d' ∷ [] → (a ≡ a') × (b ≡ b') × (c ≡ c') × (d ≡ d')
six_bytes a b c d a' b' c' d' e = (cc, cc, cc, cc)

same_suffix : (m n : ℕ) → m ≤ 9999 → n ≤ 9999 → suffix m ≡ suffix n → m ≡ n
same_suffix m n p q e =
    let digits = six_bytes (digit (m / 1000)) (digit (m / 100)) (digit (m / 10)) (digit m) (digit (n / 1000)) (digit (n / 100)) (digit (n / 10)) (digit n) e in
    same_digits m n p q (omega (arith, digits.0)) (omega (arith, digits.1)) (omega (arith, digits.2)) (omega (arith, digits.3))

pub same_part : (a b : List ℕ) (m n : ℕ) → m ≤ 9999 → n ≤ 9999 → a ++ suffix m ≡ b ++ suffix n → (a ≡ b) × (m ≡ n)
same_part a b m n p q e =
    let long : length a ≡ length b = omega (arith, ap (λ (l : List ℕ). length l) e, length-append a (suffix m), length-append b (suffix n)) in
    let parts = same_fronts a b (suffix m) (suffix n) long e in
    (parts.0, same_suffix m n p q parts.1)

pub never_own : (a : List ℕ) (n : ℕ) → a ++ suffix n ≢ a
never_own a n e = omega (arith, ap (λ (l : List ℕ). length l) e, length-append a (suffix n))

-- a suffix stands in a name
digit_of_name : (n : ℕ) → IsTrue (is_name_byte (digit n))
digit_of_name n = grind (arith, nat_tests)

-- one byte more in front of a name's
longer : (b : ℕ) (bs : List ℕ) → IsTrue (is_name_byte b) → All (λ b. IsTrue (is_name_byte b)) bs → All (λ b. IsTrue (is_name_byte b)) (b ∷ bs)
longer b bs p q = All-cons (λ b. IsTrue (is_name_byte b)) b bs p q

digits_of_name : (n : ℕ) → All (λ b. IsTrue (is_name_byte b)) (four_digits n)
digits_of_name n =
    longer (digit (n / 1000)) (digit (n / 100) ∷ digit (n / 10) ∷ digit n ∷ []) (digit_of_name (n / 1000))
    (longer (digit (n / 100)) (digit (n / 10) ∷ digit n ∷ []) (digit_of_name (n / 100))
    (longer (digit (n / 10)) (digit n ∷ []) (digit_of_name (n / 10)) (longer (digit n) [] (digit_of_name n) (All-nil (λ b. IsTrue (is_name_byte b))))))

suffix_of_name : (n : ℕ) → All (λ b. IsTrue (is_name_byte b)) (suffix n)
suffix_of_name n = longer 46 (112 ∷ four_digits n) refl (longer 112 (four_digits n) refl (digits_of_name n))

part_is_name : (name : List ℕ) (n : ℕ) → IsName name → length name ≤ 58 → IsName (name ++ suffix n)
part_is_name name n is fits = record {
  some = omega (arith, is.some, length-append name (suffix n));
  few = omega (arith, fits, length-append name (suffix n));
  each = All-append (λ b. IsTrue (is_name_byte b)) name (suffix n) is.each (suffix_of_name n);
}

-- a part has a name exactly where its file's is short
fits : (r : Option (List ℕ)) (name : List ℕ) (number : ℕ) → IsName name → number ≤ 9999
    → MatchOption r (IsName (name ++ suffix number) → ⊥) (λ n. (n ≡ name ++ suffix number) × IsName (name ++ suffix number))
    → IsSome r ↔ ((number ≤ 9999) × (length name ≤ 58))
fits None name number is small read = (λ h. absurd (cc), λ h. absurd (read (part_is_name name number is h.1)))
fits (Some n) name number is small read = (λ h. (small, omega (arith, read.1.few, length-append name (suffix number))), λ h. refl)

pub part_fits : (r : Option (List ℕ)) (name back kept : List ℕ) (count number : ℕ) → IsName name → number ≤ 9999
    → count ≡ length name → back ≡ suffix number → take (length name + length back) kept ≡ name ++ back
    → MatchOption r (IsName (take (count + 6) kept) → ⊥) (λ n. (n ≡ take (count + 6) kept) × IsName (take (count + 6) kept))
    → IsSome r ↔ ((number ≤ 9999) × (length name ≤ 58))
part_fits r name back kept count number is small counted suffixed front read =
    let long : length name + length back ≡ count + 6 = omega (arith, counted, ap (λ (l : List ℕ). length l) suffixed) in
    let text : take (count + 6) kept ≡ name ++ suffix number = ap (λ n. take n kept) (sym long) ∙ front ∙ ap (λ (l : List ℕ). name ++ l) suffixed in
    fits r name number is small (subst (λ (t : List ℕ). MatchOption r (IsName t → ⊥) (λ n. (n ≡ t) × IsName t)) text read)

-- the last two digits are those of the rest by 100
pub low_digits : (n : ℕ) → (n % 100 < 100) × (digit (n / 10) ≡ digit (n % 100 / 10)) × (digit n ≡ digit (n % 100))
low_digits n = (omega arith, omega arith, omega arith)
