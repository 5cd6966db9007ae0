-- The numbers of racks, and the text of the file that names them.
use Rattle.std.specs.Prelude.{◌≡◌, ◌≢◌, ◌+◌, ◌*◌, ◌/◌, ◌%◌, ◌≤◌, ◌++◌, ◌∷◌, [], ℕ, zero, suc, List}
use Rattle.std.specs.Prelude.{Option, MatchOption}

-- a rack has this number
abbrev pub IsRackNumber : ℕ → Type 0
IsRackNumber n = (1 ≤ n) × (n ≤ 999)

-- the digit of this place in decimal
abbrev pub digit : ℕ → ℕ
digit n = 48 + n % 10

-- the last three decimal digits
abbrev pub three_digits : ℕ → List ℕ
three_digits n = digit (n / 100) ∷ digit (n / 10) ∷ digit n ∷ []

-- the folder of a rack: `rack-` and its digits
abbrev pub folder : ℕ → List ℕ
folder n = 114 ∷ 97 ∷ 99 ∷ 107 ∷ 45 ∷ three_digits n

-- the line of a rack: its folder and LF
abbrev pub line : ℕ → List ℕ
line n = 114 ∷ 97 ∷ 99 ∷ 107 ∷ 45 ∷ digit (n / 100) ∷ digit (n / 10) ∷ digit n ∷ 10 ∷ []

-- the lines of the racks 1 to n, in order
unfoldable pub lines : ℕ → List ℕ
lines zero = []
lines (suc n) = lines n ++ line (suc n)

-- `potshards-racks 1` and LF
abbrev pub head : List ℕ
head =
    112 ∷ 111 ∷ 116 ∷ 115 ∷ 104 ∷ 97 ∷ 114 ∷ 100 ∷ 115 ∷ 45 ∷ 114 ∷ 97 ∷ 99 ∷ 107 ∷ 115 ∷ 32 ∷ 49 ∷ 10 ∷ []

-- `end` and LF
abbrev pub tail : List ℕ
tail = 101 ∷ 110 ∷ 100 ∷ 10 ∷ []

-- the text of a vault of so many racks
unfoldable pub vault_text : ℕ → List ℕ
vault_text n = (head ++ lines n) ++ tail

-- the number of racks of which this is the text; None exactly where it is that of no vault
abbrev pub TellsCount : List ℕ → Option ℕ → Type 0
TellsCount text result =
    MatchOption result
    ((n : ℕ) → IsRackNumber n → text ≢ vault_text n)
    (λ n. IsRackNumber n × (text ≡ vault_text n))

-- the number of racks whose text has this length; None exactly where no vault's has
abbrev pub HasLength : ℕ → Option ℕ → Type 0
HasLength length result =
    MatchOption result
    ((n : ℕ) → IsRackNumber n → length ≢ 22 + 9 * n)
    (λ n. IsRackNumber n × (length ≡ 22 + 9 * n))

-- the number of which these are the digits; None exactly where they are those of no rack
abbrev pub TellsRack : List ℕ → Option ℕ → Type 0
TellsRack text result =
    MatchOption result
    ((n : ℕ) → IsRackNumber n → text ≢ three_digits n)
    (λ n. IsRackNumber n × (text ≡ three_digits n))

-- the number below 1000 of which these are the digits; None exactly where they are those of none
abbrev pub HasDigits : ℕ → ℕ → ℕ → Option ℕ → Type 0
HasDigits a b c result =
    MatchOption result
    ((n : ℕ) → n ≤ 999 → a ≡ digit (n / 100) → b ≡ digit (n / 10) → c ≡ digit n → ⊥)
    (λ n. (n ≤ 999) × (a ≡ digit (n / 100)) × (b ≡ digit (n / 10)) × (c ≡ digit n))
