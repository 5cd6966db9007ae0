use Rattle.std.proofs.Common.{◌≡◌, ◌+◌, take, get_or, arith}
use Rattle.std.proofs.lemmas.List.{take_all}
use Rattle.std.proofs.lemmas.Str.Parse.{digit_at, digits_value-take-le}
use Rattle.std.specs.Int.{IsInRange}
use Rattle.pot_script.proofs.Decimal.{value_with_digit, digits_with_digit}
use Rattle.pot_script.proofs.decimal_number.value_of_digits.Goals as goal

pub returns-then-not-is_ascii_digit : goal.returns-then-not-is_ascii_digit
returns-then-not-is_ascii_digit c = λ numeral.
    let range = digit_at c.args.digits.now c.loop-digit.digit-index numeral.0 c.loop-digit-test.true in
    omega (arith, rw c.if-not-is_ascii_digit.true at c.is_ascii_digit.ensures.cases, range)

pub returns-then-value-from : goal.returns-then-value-from
returns-then-value-from c = λ numeral.
    let range = digit_at c.args.digits.now c.loop-digit.digit-index numeral.0 c.loop-digit-test.true in
    omega (arith, value_with_digit c.args.digits.now c.loop-digit.digit-index c.loop-digit.value c.loop-digit-test.true range c.loop-digit.invariant.is_value, digits_value-take-le 10 c.args.digits.now (c.loop-digit.digit-index + 1), numeral.1)

pub loop-digit-preserved : goal.loop-digit-preserved
loop-digit-preserved c =
    let range : IsInRange 48 57 (get_or c.args.digits.now c.loop-digit.digit-index 0) = rw c.if-not-is_ascii_digit.false at c.is_ascii_digit.ensures.cases in
    record {
      are_digits = digits_with_digit c.args.digits.now c.loop-digit.digit-index c.loop-digit-test.true range c.loop-digit.invariant.are_digits;
      is_value = omega (arith, value_with_digit c.args.digits.now c.loop-digit.digit-index c.loop-digit.value c.loop-digit-test.true range c.loop-digit.invariant.is_value);
      small = omega arith;
    }

pub returns : goal.returns
returns c =
    let all : take c.loop-digit.digit-index c.args.digits.now ≡ c.args.digits.now = take_all _ _ (omega arith) in
    ((rw all at c.loop-digit.invariant.are_digits, omega (arith, rw all at c.loop-digit.invariant.is_value)), rw all at c.loop-digit.invariant.is_value)
