-- The loops of the reader.
use Rattle.std.proofs.Common.{◌≡◌, ◌∙◌, ◌+◌, ◌<◌, ◌≤◌, ℕ, suc, true, false, sym, ap, ap₂, List, [], ◌∷◌, ◌++◌, map, take, drop, length, get_or, bytes_eq, ◌||◌, arith, drop-cons, drop_of_length-le, take_all}
use Rattle.std.proofs.lemmas.List.{map-append, map_more}
use Rattle.std.specs.Borrow.{Bor}
use Rattle.clap.specs.Words.{App, Rule, Text, with_rule}
use Rattle.pot_options.specs.Options.{has_delimiter}
use Rattle.pot_options.specs.Apps.{options_app, option_rule}

options_more : (names : List Text) (n : Text) → with_rule (options_app names) (option_rule n) ≡ options_app (names ++ n ∷ [])
options_more names n = ap (λ (rs : List Rule). record (options_app []) { top = record (options_app []).top { rules = rs } }) (sym (map-append option_rule names (n ∷ [])))

pub command_more : (xs : List (Bor Text)) (i : ℕ) (d : Bor Text) (was now : App) (r : Rule) → i < length xs → was ≡ options_app (map (λ s. s.now) (take i xs))
    → r ≡ option_rule (get_or xs i d).now → now ≡ with_rule was r → now ≡ options_app (map (λ s. s.now) (take (i + 1) xs))
command_more xs i d was now r lt is rule_is more =
    more ∙ ap₂ with_rule is rule_is ∙ options_more _ _ ∙ ap options_app (sym (map_more (λ (s : Bor Text). s.now) xs i d lt))

pub command_done : (xs : List (Bor Text)) (i : ℕ) (now : App) → length xs ≤ i → now ≡ options_app (map (λ s. s.now) (take i xs)) → now ≡ options_app (map (λ s. s.now) xs)
command_done xs i now past is = is ∙ ap (λ (ys : List (Bor Text)). options_app (map (λ s. s.now) ys)) (take_all i xs past)

module _ {X : Type 0} (text : X → Text) where
  head_of : (xs : List X) (i : ℕ) (x : X) → i < length xs → x ≡ get_or xs i x → has_delimiter (map text (drop i xs)) ≡ (bytes_eq (text x) (45 ∷ 45 ∷ []) || has_delimiter (map text (drop (suc i) xs)))
  head_of xs i x lt is = ap (λ (ys : List X). has_delimiter (map text ys)) (drop-cons xs i x lt) ∙ ap (λ (y : X). bytes_eq (text y) (45 ∷ 45 ∷ []) || has_delimiter (map text (drop (suc i) xs))) (sym is)

  pub delimiter_more : (xs : List X) (i : ℕ) (x : X) → i < length xs → x ≡ get_or xs i x → bytes_eq (text x) (45 ∷ 45 ∷ []) ≡ false
      → has_delimiter (map text (drop i xs)) ≡ has_delimiter (map text xs) → has_delimiter (map text (drop (i + 1) xs)) ≡ has_delimiter (map text xs)
  delimiter_more xs i x lt is miss same =
      let on : i + 1 ≡ suc i = omega arith in
      ap (λ k. has_delimiter (map text (drop k xs))) on ∙ sym (head_of xs i x lt is ∙ ap (λ b. b || has_delimiter (map text (drop (suc i) xs))) miss) ∙ same

  pub bare_here : (xs : List X) (i : ℕ) (x : X) → i < length xs → x ≡ get_or xs i x → bytes_eq (text x) (45 ∷ 45 ∷ []) ≡ true
      → has_delimiter (map text (drop i xs)) ≡ has_delimiter (map text xs) → true ≡ has_delimiter (map text xs)
  bare_here xs i x lt is hit same = sym (head_of xs i x lt is ∙ ap (λ b. b || has_delimiter (map text (drop (suc i) xs))) hit) ∙ same

  pub bare_nowhere : (xs : List X) (i : ℕ) → length xs ≤ i → has_delimiter (map text (drop i xs)) ≡ has_delimiter (map text xs) → false ≡ has_delimiter (map text xs)
  bare_nowhere xs i past same = sym (ap (λ (ys : List X). has_delimiter (map text ys)) (drop_of_length-le xs past)) ∙ same
