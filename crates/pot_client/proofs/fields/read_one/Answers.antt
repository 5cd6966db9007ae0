use Rattle.std.proofs.Common.{◌∷◌, List, ℕ, decimal, refl, sym, ap, ◌∙◌, arith}
use Rattle.pot_client.proofs.FieldLemmas.{same_number}
use Rattle.pot_client.proofs.fields.read_one.Goals as goal

pub returns : goal.returns
returns c =
    let whole = c.in_ok-number.ensures.1 ∙ ap (λ (words : List (List ℕ)). decimal c.in_ok-number.number ∷ words) (c.in_ok-end.ensures.0 refl) in
    ((c.in_ok-number.ensures.0, whole), λ s h. same_number s c.in_ok-number.number (omega (arith, h.0, c.ranges.most.fits)) (omega (arith, c.in_ok-number.ensures.0, c.ranges.most.fits)) (sym h.1 ∙ whole))
