-- The values of options. `value` gives the text of an option by its name.
use Rattle.std.specs.Prelude.{◌≡◌, ◌≤◌, ◌⊎◌, ℕ, Bool, true, false, List, Option, Some, None, Ok}
use Rattle.std.specs.Prelude.{codes, decimal}
use Rattle.hex.specs.Hex.{decode_sized}
use Rattle.pot_options.specs.Options.{Text}

-- The option has the number, which lies between the bounds. A number is decimal digits without a
-- sign and without a leading zero, but for `0` itself.
abbrev pub HasNumber : (Text → Option Text) → Text → ℕ → ℕ → ℕ → Type 0
HasNumber value name least most n = (least ≤ n) × (n ≤ most) × (value name ≡ Some (decimal n))

-- the same of an option that may be left out, and then stands for another number
abbrev pub HasNumberOr : (Text → Option Text) → Text → ℕ → ℕ → ℕ → ℕ → Type 0
HasNumberOr value name least most other n =
    ((value name ≡ None) × (n ≡ other)) ⊎ HasNumber value name least most n

-- the option has the seed as 64 hexadecimal digits, in either case, or is left out
abbrev pub HasSeed : (Text → Option Text) → Text → Option (List ℕ) → Type 0
HasSeed value name None = value name ≡ None
HasSeed value name (Some seed) =
    (text : Text) × (value name ≡ Some text) × (decode_sized text 32 ≡ Ok seed)

-- the option is `yes`, or it is `no` or left out
abbrev pub HasYes : (Text → Option Text) → Text → Bool → Type 0
HasYes value name true = value name ≡ Some (codes "yes")
HasYes value name false = (value name ≡ None) ⊎ (value name ≡ Some (codes "no"))
