use Rattle.std.proofs.Common.{arith, refl}
use Rattle.pot_image.proofs.Steps.{exits, fails_at, kept, refused, short}
use Rattle.pot_image.proofs.columns.read_at_most.Goals as goal

pub returns-in_err-number : goal.returns-in_err-number
returns-in_err-number c = exits _ _ _ _ c.from_residual.ensures.1 (short _ _ _ _ _ c.in_err-number.ensures (λ n h. refl))

pub returns-then-number-most : goal.returns-then-number-most
returns-then-number-most c = fails_at _ _ _ c.at.ensures (refused _ _ _ _ _ _ c.in_ok-number.ensures (grind arith))

pub returns : goal.returns
returns c = kept _ _ _ _ _ _ c.in_ok-number.ensures (grind arith)
