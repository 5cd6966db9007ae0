-- A list made of numbers from 0 on, one element more at a time.
use Rattle.std.proofs.Common.{◌≡◌, ℕ, ◌+◌, List, [], ◌∷◌, ◌++◌, sym, ap, ◌∙◌, arith}
use Rattle.std.specs.Prelude.{map}
use Rattle.std.specs.List.{range_with_len}
use Rattle.std.proofs.lemmas.List.{append_assoc}
use Rattle.std.proofs.lemmas.List.FromFn.{map-range_with_len_more}

pub pushed : {X : Type 0} (f : ℕ → X) (old was now : List X) (n : ℕ) (x : X) → was ≡ old ++ map f (range_with_len 0 n) → now ≡ was ++ x ∷ [] → x ≡ f n
    → now ≡ old ++ map f (range_with_len 0 (n + 1))
pushed {X} f old was now n x made push is =
    push ∙ ap (λ (l : List X). l ++ x ∷ []) made ∙ append_assoc old (map f (range_with_len 0 n)) (x ∷ [])
    ∙ ap (λ (l : List X). old ++ l) (ap (λ (y : X). map f (range_with_len 0 n) ++ y ∷ []) is ∙ sym (map-range_with_len_more f 0 n n (omega arith)))
