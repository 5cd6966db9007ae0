-- Texts that are read one after another.
use Rattle.std.proofs.Common.{◌≡◌, ◌++◌, ◌∙◌, ◌∷◌, [], ℕ, List, ap, sym}
use Rattle.std.specs.Prelude.{flat_map}
use Rattle.std.proofs.lemmas.List.{append_assoc, flat_map_more}

-- one text more was read
pub read_more : {X : Type 0} (f : X → List ℕ) (begin : List ℕ) (xs : List X) (x : X) (whole left text others : List ℕ)
    → whole ≡ (begin ++ flat_map f xs) ++ left → left ≡ text ++ others → text ≡ f x → whole ≡ (begin ++ flat_map f (xs ++ x ∷ [])) ++ others
read_more f begin xs x whole left text others e g h =
    e ∙ ap (λ (l : List ℕ). (begin ++ flat_map f xs) ++ l) (g ∙ ap (λ (l : List ℕ). l ++ others) h)
    ∙ sym (append_assoc (begin ++ flat_map f xs) (f x) others) ∙ ap (λ (l : List ℕ). l ++ others) (flat_map_more f begin xs x)
