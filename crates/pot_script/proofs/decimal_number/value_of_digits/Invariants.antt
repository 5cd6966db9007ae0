use Rattle.std.proofs.Common.{◌≡◌, ◌≤◌, take}
use Rattle.std.specs.Str.Parse.{AllDigits, digits_value}
use Rattle.pot_script.proofs.decimal_number.value_of_digits.Given as goal

-- what was read so far are digits, with this value
abbrev pub invariant-loop-digit : goal.invariant-loop-digit
invariant-loop-digit l = record {
  are_digits : AllDigits 10 (take l.digit-index l.digits);
  is_value : l.value ≡ digits_value 10 (take l.digit-index l.digits);
  small : l.value ≤ l.most;
}
