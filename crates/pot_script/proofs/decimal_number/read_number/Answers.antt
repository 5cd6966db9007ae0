use Rattle.std.proofs.Common.{arith, inl, inr}
use Rattle.std.proofs.lemmas.Grind.{common_steps}
use Rattle.pot_script.proofs.Decimal.{lead_not_decimal, lead_of_one, number_read}
use Rattle.pot_script.proofs.decimal_number.read_number.Goals as goal

pub returns-then-is_empty : goal.returns-then-is_empty
returns-then-is_empty c = λ n small. lead_not_decimal c.args.digits.now n (omega arith) (inl (grind (arith, common_steps)))

pub returns-then-has_leading_zero : goal.returns-then-has_leading_zero
returns-then-has_leading_zero c = λ n small. lead_not_decimal c.args.digits.now n (omega arith) (inr (c.has_leading_zero.ensures.0 c.if-has_leading_zero.true))

pub returns : goal.returns
returns c = number_read c.value_of_digits.result c.args.digits.now c.args.most c.ranges.most.fits (grind (arith, common_steps)) (lead_of_one c.args.digits.now c.has_leading_zero.result c.if-has_leading_zero.false c.has_leading_zero.ensures (grind (arith, common_steps))) c.value_of_digits.ensures
