use Rattle.std.proofs.Common.{[], ◌∷◌, List, ℕ, decimal, refl, sym, ap, ◌∙◌, arith}
use Rattle.pot_client.proofs.FieldLemmas.{same_three, second_of, third_of}
use Rattle.pot_client.proofs.fields.read_three.Goals as goal

pub returns-in_err-second : goal.returns-in_err-second
returns-in_err-second c = rw c.from_residual-in_err-second.ensures (λ s h. c.in_err-second.ensures s.1 (decimal s.2 ∷ []) h.1 (second_of _ _ _ _ (sym c.in_ok-first.ensures.1 ∙ h.3)))

pub returns-in_err-third : goal.returns-in_err-third
returns-in_err-third c = rw c.from_residual-in_err-third.ensures (λ s h. c.in_err-third.ensures s.2 [] h.2 (third_of _ _ _ _ _ _ (c.in_ok-first.ensures.1 ∙ ap (λ (words : List (List ℕ)). decimal c.in_ok-first.first ∷ words) c.in_ok-second.ensures.1) h.3))

pub returns : goal.returns
returns c =
    let whole = c.in_ok-first.ensures.1 ∙ ap (λ (words : List (List ℕ)). decimal c.in_ok-first.first ∷ words) (c.in_ok-second.ensures.1
    ∙ ap (λ (words : List (List ℕ)). decimal c.in_ok-second.second ∷ words) (c.in_ok-third.ensures.1 ∙ ap (λ (words : List (List ℕ)). decimal c.in_ok-third.third ∷ words) (c.in_ok-end.ensures.0 refl))) in (
      (c.in_ok-first.ensures.0, c.in_ok-second.ensures.0, c.in_ok-third.ensures.0, whole),
      λ s h.
          same_three s.0 c.in_ok-first.first s.1 c.in_ok-second.second s.2 c.in_ok-third.third (omega (arith, h.0, c.ranges.most.fits)) (omega (arith, c.in_ok-first.ensures.0, c.ranges.most.fits))
          h.1 c.in_ok-second.ensures.0 h.2 c.in_ok-third.ensures.0 (sym h.3 ∙ whole),
    )
