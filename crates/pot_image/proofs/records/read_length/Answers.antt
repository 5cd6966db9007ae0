use Rattle.std.proofs.Common.{arith, ◌≡◌, ◌<◌, ℕ, false, refl}
use Rattle.pot_image.proofs.Steps.{exits, fails_at, kept, refused, short}
use Rattle.std.proofs.Common.{nat_le}
use Rattle.std.proofs.lemmas.Bool.{le-leb}
use Rattle.std.proofs.lemmas.Bool.Decides.{nat_tests}
use Rattle.pot_image.proofs.records.read_length.Goals as goal

pub returns-in_err-number : goal.returns-in_err-number
returns-in_err-number c = exits _ _ _ _ c.from_residual.ensures.1 (short _ _ _ _ _ c.in_err-number.ensures (λ n h. refl))

pub returns-then-number-gt-LONGEST : goal.returns-then-number-gt-LONGEST
returns-then-number-gt-LONGEST c = fails_at _ _ _ c.at.ensures (refused _ _ _ _ _ _ c.in_ok-number.ensures (above _ _ c.if-number-gt-LONGEST.true))
  where
    above : (a b : ℕ) → b < a → nat_le a b ≡ false
    above a b l = grind (arith, nat_tests)

pub returns : goal.returns
returns c = kept _ _ _ _ _ _ c.in_ok-number.ensures (le-leb _ _ c.if-number-gt-LONGEST.false)
