use Rattle.std.proofs.Common.{ap, ◌∙◌, arith, ℕ, List, Ok, refl}
use Rattle.pot_image.proofs.Steps.{exits, fails_at, kept, refused, short}
use Rattle.pot_image.proofs.columns.skip_zero.Goals as goal

pub returns-in_err-number : goal.returns-in_err-number
returns-in_err-number c = exits _ _ _ _ c.from_residual.ensures.1 (short _ _ _ _ _ c.in_err-number.ensures (λ n h. refl))

pub returns-then-number-ne0 : goal.returns-then-number-ne0
returns-then-number-ne0 c = fails_at _ _ _ c.at.ensures (refused _ _ _ _ _ _ c.in_ok-number.ensures (grind arith))

pub returns : goal.returns
returns c = kept _ _ _ _ _ _ c.in_ok-number.ensures (grind arith) ∙ ap (λ (n : ℕ). Ok (pair n c.in_ok-number.rest.now)) c.if-number-ne0.false
  where
    pair : ℕ → List ℕ → ℕ × List ℕ
    pair n rest = (n, rest)
