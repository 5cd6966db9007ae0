-- A text cut at its first `=`.
use Rattle.std.proofs.Common.{◌≡◌, ◌≢◌, ◌∙◌, ◌+◌, ◌<◌, ℕ, zero, suc, Bool, cond, true, false, not, refl, sym, ap, ap₂, List, [], ◌∷◌, ◌++◌, take, drop, length, get_or, Option, Some, None, true≢false, ◌||◌, ◌==◌, arith}
use Rattle.std.proofs.lemmas.Bool.Decides.{nat_tests}
use Rattle.std.specs.List.{before_first, after_first, position_or_len}
use Rattle.clap.specs.Lexer.{name_and_value, has_byte}
use Rattle.clap.proofs.CutLemmas.{Lacks}
use Rattle.clap.proofs.LexerLemmas.{name_and_value-at, name_and_value-without}

abbrev place : List ℕ → ℕ
place xs = position_or_len (λ x. x == 61) xs

lacks : (xs : List ℕ) → has_byte 61 xs ≡ false → Lacks 61 xs
lacks [] none i lt = absurd (omega arith)
lacks (x ∷ xs) none i lt = go (x == 61) refl none (lacks xs) i lt
  where
    go : (b : Bool) → (x == 61) ≡ b → (b || has_byte 61 xs) ≡ false → (has_byte 61 xs ≡ false → Lacks 61 xs) → (i : ℕ) → i < length (x ∷ xs) → get_or (x ∷ xs) i 0 ≢ 61
    go true e is h i lt = absurd (true≢false is)
    go false e is h zero lt = grind (arith, nat_tests)
    go false e is h (suc i) lt = h is i (omega arith)

-- the name and the value of a text that has no `=`, and of one that has
pub no_value : (text : List ℕ) → has_byte 61 text ≡ false → name_and_value text ≡ (text, None)
no_value text none = name_and_value-without text (lacks text none)

pub with_value : (name value : List ℕ) → has_byte 61 name ≡ false → name_and_value (name ++ 61 ∷ value) ≡ (name, Some value)
with_value name value none = name_and_value-at name value (lacks name none)

cut : (xs : List ℕ) → has_byte 61 xs ≡ true → xs ≡ before_first (λ x. x == 61) xs ++ 61 ∷ after_first (λ x. x == 61) xs
cut [] has = absurd (true≢false (sym has))
cut (x ∷ xs) has = go (x == 61) refl has (cut xs)
  where
    go : (b : Bool) → (x == 61) ≡ b → (b || has_byte 61 xs) ≡ true → (has_byte 61 xs ≡ true → xs ≡ take (place xs) xs ++ 61 ∷ drop (place xs + 1) xs)
        → x ∷ xs ≡ take (cond (not b) (1 + place xs) 0) (x ∷ xs) ++ 61 ∷ drop (cond (not b) (1 + place xs) 0 + 1) (x ∷ xs)
    go true e is h =
        let first : x ≡ 61 = grind (arith, nat_tests) in
        ap (λ c. c ∷ xs) first
    go false e is h =
        let one : suc (place xs) ≡ 1 + place xs = omega arith in
        let two : suc (place xs + 1) ≡ 1 + place xs + 1 = omega arith in
        ap (λ t. x ∷ t) (h is) ∙ ap₂ (λ a b. take a (x ∷ xs) ++ 61 ∷ drop b (x ∷ xs)) one two

-- what the name and the value make up
abbrev pub Makes : List ℕ → List ℕ × Option (List ℕ) → Type 0
Makes text (name, None) = text ≡ name
Makes text (name, Some value) = text ≡ name ++ 61 ∷ value

pub made : (text : List ℕ) → Makes text (name_and_value text)
made text = go (has_byte 61 text) refl
  where
    go : (b : Bool) → has_byte 61 text ≡ b → Makes text (name_and_value text)
    go true e = let parts = cut text e in rw e parts
    go false e = let same : name_and_value text ≡ (text, None) = no_value text e in rw same refl
