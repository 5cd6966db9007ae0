-- The parts of a file that is longer than a session stores, and their names.
use Rattle.std.specs.Prelude.{◌≡◌, ◌≢◌, ◌+◌, ◌*◌, ◌/◌, ◌%◌, ◌≤◌, ◌<◌, ◌++◌, ◌∷◌, [], ℕ, List}
use Rattle.std.specs.Prelude.{Option, MatchOption, take, drop}
use Rattle.pot_bytes.specs.Names.{IsName}

-- the most bytes of a part, which are the most of a stored file
abbrev pub part_size : ℕ
part_size = 884736

-- how many parts a file of so many bytes has, where the last may be shorter
abbrev pub part_count : ℕ → ℕ
part_count len = (len + 884735) / 884736

-- the bytes of a part, by its number from 0
abbrev pub part_of : List ℕ → ℕ → List ℕ
part_of file number = take part_size (drop (number * part_size) file)

-- the digit of this place in decimal
abbrev pub digit : ℕ → ℕ
digit n = 48 + n % 10

-- the last four decimal digits
abbrev pub four_digits : ℕ → List ℕ
four_digits n = digit (n / 1000) ∷ digit (n / 100) ∷ digit (n / 10) ∷ digit n ∷ []

-- what the name of a part has behind that of its file: `.p` and four decimal digits
abbrev pub suffix : ℕ → List ℕ
suffix n = 46 ∷ 112 ∷ four_digits n

-- this is the name of the part of this number, of a file of this name
abbrev pub IsPartName : List ℕ → ℕ → List ℕ → Type 0
IsPartName file number part = (number ≤ 9999) × IsName part × (part ≡ file ++ suffix number)

-- these bytes end as the name of a part does
abbrev pub EndsAsPart : List ℕ → Type 0
EndsAsPart bytes =
    (front : List ℕ) × (number : ℕ) × (number ≤ 9999) × (bytes ≡ front ++ suffix number)

-- the name of the part of this number; None exactly where no name is that
abbrev pub NamesPart : List ℕ → ℕ → Option (List ℕ) → Type 0
NamesPart file number result =
    MatchOption result ((part : List ℕ) → IsPartName file number part → ⊥) (IsPartName file number)

-- the file and the number of the part that has this name; None exactly where no part of a file has
-- it
abbrev pub TellsPart : List ℕ → Option (List ℕ × ℕ) → Type 0
TellsPart name result =
    MatchOption result
    ((file : List ℕ) (number : ℕ) → IsName file → IsPartName file number name → ⊥)
    (λ x. IsName x.0 × IsPartName x.0 x.1 name)

-- the number of which these bytes are the text; None exactly where they are that of no number of a
-- part
abbrev pub TellsNumber : (ℕ → List ℕ) → List ℕ → Option ℕ → Type 0
TellsNumber text bytes result =
    MatchOption result
    ((n : ℕ) → n ≤ 9999 → bytes ≢ text n)
    (λ n. (n ≤ 9999) × (bytes ≡ text n))

-- the number below 100 of which these are the digits; None exactly where they are those of none
abbrev pub TellsTwo : ℕ → ℕ → Option ℕ → Type 0
TellsTwo high low result =
    MatchOption result
    ((n : ℕ) → n < 100 → high ≡ digit (n / 10) → low ≡ digit n → ⊥)
    (λ n. (n < 100) × (high ≡ digit (n / 10)) × (low ≡ digit n))
