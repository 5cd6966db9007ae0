-- The names of the files are names.
use Rattle.std.proofs.Common.{◌≡◌, ℕ, ◌+◌, ◌<◌, ◌≤◌, List, [], ◌∷◌, ◌++◌, length, take, zero, suc, refl, ap, ◌∙◌, arith}
use Rattle.std.specs.Prelude.{All, IsTrue, decimal}
use Rattle.std.specs.Int.{IsInRange}
use Rattle.std.specs.Str.Parse.{AllDigits}
use Rattle.std.proofs.lemmas.Bool.Decides.{nat_tests}
use Rattle.std.proofs.Math.Seq.{take-append_seam}
use Rattle.std.proofs.lemmas.Fmt.{decimal_nonempty, length-decimal-le, digits_decimal}
use Rattle.std.proofs.lemmas.Str.Parse.{digit_from_value}
use Rattle.pot_bytes.specs.Names.{IsName, is_name_byte}
use Rattle.pot_script.proofs.Decimal.{numerals}
use Rattle.pot_generator.specs.Generated.{files, name_of}

is_digit_of_name : (c : ℕ) → IsInRange 48 57 c → IsTrue (is_name_byte c)
is_digit_of_name c range = grind (arith, nat_tests)

digits_of_names : (ds : List ℕ) → AllDigits 10 ds → All (λ b. IsTrue (is_name_byte b)) ds
digits_of_names [] are k d lt = absurd (omega arith)
digits_of_names (c ∷ cs) are zero d lt = is_digit_of_name c (digit_from_value c are.0)
digits_of_names (c ∷ cs) are (suc k) d lt = digits_of_names cs are.1 k d (omega arith)

after_letter : (ds : List ℕ) → All (λ b. IsTrue (is_name_byte b)) ds → All (λ b. IsTrue (is_name_byte b)) (102 ∷ ds)
after_letter ds are zero d lt = refl
after_letter ds are (suc k) d lt = are k d (omega arith)

-- the digits behind the letter are the name
pub letter_and_digits : (text ds back : List ℕ) → text ≡ 102 ∷ (ds ++ back) → take (length ds + 1) text ≡ 102 ∷ ds
letter_and_digits text ds back whole =
    let one_more : length ds + 1 ≡ length (102 ∷ ds) = omega arith in
    ap (take (length ds + 1)) whole ∙ ap (λ (n : ℕ). take n (102 ∷ (ds ++ back))) one_more ∙ take-append_seam (102 ∷ ds) back

-- the digits of a file's number are one or two
pub few_digits : (place : ℕ) → place < files → (0 < length (decimal place)) × (length (decimal place) ≤ 2)
few_digits place lt = (decimal_nonempty place (omega arith), length-decimal-le 2 place (omega arith) (omega arith) (omega arith))

pub name_is : (place : ℕ) → place < files → IsName (name_of place)
name_is place lt = record {
  some = omega (arith, few.1);
  few = omega (arith, few.1);
  each = after_letter (decimal place) (digits_of_names (decimal place) (digits_decimal numerals place (omega arith)));
}
  where
    few : (0 < length (decimal place)) × (length (decimal place) ≤ 2)
    few = few_digits place lt
