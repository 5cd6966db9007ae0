use Rattle.std.proofs.Common.{◌∷◌, List, ℕ, decimal, refl, sym, ap, ◌∙◌}
use Rattle.pot_client.proofs.FieldLemmas.{same_sized}
use Rattle.pot_client.proofs.fields.read_sized.Goals as goal

pub returns : goal.returns
returns c =
    let whole = c.in_ok-name.ensures.1 ∙ ap (λ (words : List (List ℕ)). c.in_ok-name.name ∷ words) (c.in_ok-number.ensures.1 ∙ ap (λ (words : List (List ℕ)). decimal c.in_ok-number.number ∷ words) (c.in_ok-end.ensures.0 refl)) in
    ((c.in_ok-name.ensures.0, c.in_ok-number.ensures.0, whole), λ s h. same_sized s.0 c.in_ok-name.name s.1 c.in_ok-number.number h.1 c.in_ok-number.ensures.0 (sym h.2 ∙ whole))
