-- Numbers as decimal digits, and the options that have them.
use Rattle.std.proofs.Common.{◌≡◌, ◌∙◌, ◌≤◌, ◌<◌, ◌^◌, inl, inr, ℕ, List, [], ◌∷◌, refl, sym, ap, Option, Some, None, decimal, arith}
use Rattle.std.proofs.lemmas.Fmt.{decimal_injective}
use Rattle.std.specs.Prelude.{unwrap_or}
use Rattle.pot_options.specs.Options.{Text}
use Rattle.pot_words.specs.Answers.{IsOnly}
use Rattle.pot_words.specs.Tasks.{SpellGenerate}
use Rattle.pot_words.specs.Values.{HasNumber, HasNumberOr}

abbrev pub first_of : List Text → Text
first_of [] = []
first_of (word ∷ words) = word

-- one option has one text
pub one_text : (o : Option Text) (a b : Text) → o ≡ Some a → o ≡ Some b → a ≡ b
one_text o a b is also = ap (λ (p : Option Text). unwrap_or p a) (sym is ∙ also)

module _ (value : Text → Option Text) (name : Text) (least most : ℕ) (small : most < 2 ^ 64) where
  pub one_number : (n k : ℕ) → HasNumber value name least most n → HasNumber value name least most k → n ≡ k
  one_number n k has also = decimal_injective n k (omega (arith, has.1)) (omega (arith, also.1)) (one_text (value name) (decimal n) (decimal k) has.2 also.2)

  pub is_number : (text : Text) (n : ℕ) → value name ≡ Some text → text ≡ decimal n → least ≤ n → n ≤ most → IsOnly (HasNumber value name least most) (Some n)
  is_number text n is written above below =
      let has : HasNumber value name least most n = (above, below, is ∙ ap (λ (t : Text). Some t) written) in
      (has, λ k also. one_number k n also has)

  -- the number that is written is too small
  pub below_least : (text : Text) (n : ℕ) → value name ≡ Some text → text ≡ decimal n → n ≤ most → n < least → IsOnly (HasNumber value name least most) None
  below_least text n is written below short k has =
      let same = decimal_injective n k (omega arith) (omega (arith, has.1)) (sym written ∙ one_text (value name) text (decimal k) is has.2) in
      omega (arith, has.0, same)

  -- an option that may be left out
  pub given_or : (other : ℕ) (text : Text) (r : Option ℕ) → value name ≡ Some text → IsOnly (HasNumber value name least most) r → IsOnly (HasNumberOr value name least most other) r
  given_or other text None is none = λ n h. elim h [
    | inl left_out ↦ let bad : Some text ≡ None = sym is ∙ left_out.0 in absurd (cc)
    | inr has ↦ none n has
  ]
  given_or other text (Some k) is only = (
    inr only.0,
    λ n h. elim h [
      | inl left_out ↦ let bad : Some text ≡ None = sym is ∙ left_out.0 in absurd (cc)
      | inr has ↦ only.1 n has
    ],
  )

  pub left_out_or : (other : ℕ) → value name ≡ None → IsOnly (HasNumberOr value name least most other) (Some other)
  left_out_or other is = (
    inl (is, refl),
    λ n h. elim h [
      | inl left_out ↦ left_out.1
      | inr has ↦ let bad : None ≡ Some (decimal n) = sym is ∙ has.2 in absurd (cc)
    ],
  )

-- the number of a word that is a number by itself
pub word_is : (word : Text) (n : ℕ) → word ≡ decimal n → 1 ≤ n → n ≤ 1000000 → IsOnly (SpellGenerate (word ∷ [])) (Some n)
word_is word n is above below = (
  (above, below, ap (λ (w : Text). w ∷ []) is),
  λ k spelled. decimal_injective k n (omega (arith, spelled.1)) (omega arith) (sym (ap first_of spelled.2) ∙ is),
)

pub word_of_zero : (word : Text) → word ≡ decimal 0 → IsOnly (SpellGenerate (word ∷ [])) None
word_of_zero word is k spelled =
    let same = decimal_injective k 0 (omega (arith, spelled.1)) (omega arith) (sym (ap first_of spelled.2) ∙ is) in
    omega (arith, spelled.0, same)
