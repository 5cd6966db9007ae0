use Rattle.std.proofs.Common.{◌∷◌, List, ℕ, decimal, refl, sym, ap, ◌∙◌}
use Rattle.pot_client.proofs.FieldLemmas.{same_two}
use Rattle.pot_client.proofs.fields.read_two.Goals as goal

pub returns : goal.returns
returns c =
    let whole = c.in_ok-first.ensures.1 ∙ ap (λ (words : List (List ℕ)). decimal c.in_ok-first.field-0 ∷ words) (c.in_ok-second.ensures.1 ∙ ap (λ (words : List (List ℕ)). decimal c.in_ok-second.field-0 ∷ words) (c.in_ok-end.ensures.0 refl)) in
    ((c.in_ok-first.ensures.0, c.in_ok-second.ensures.0, whole), λ s h. same_two s.0 c.in_ok-first.field-0 s.1 c.in_ok-second.field-0 h.0 c.in_ok-first.ensures.0 h.1 c.in_ok-second.ensures.0 (sym h.2 ∙ whole))
