-- The line on standard error with which the program ends where something outside kept it from its
-- work.
use Rattle.std.specs.Prelude.{◌++◌, ◌∷◌, ◌&&◌, [], ℕ, List, IsTrue, codes, nat_eq, nat_lt}
use Rattle.std.specs.List.{list_all, list_any, starts_with}

-- the statuses at which there is such a line: input, output, desk, archives or memory failed
abbrev pub HasAdvice : ℕ → Type 0
HasAdvice status = IsTrue (list_any (nat_eq status) (4 ∷ 5 ∷ 6 ∷ 8 ∷ 70 ∷ []))

-- the line is printable ASCII, so it is one line, and it tells first what happened
abbrev pub TellsAdvice : List ℕ → List ℕ → Type 0
TellsAdvice happened line =
    IsTrue (starts_with nat_eq line (codes "potshards: " ++ happened ++ codes ": "))
    × IsTrue (list_all (λ byte. nat_lt 31 byte && nat_lt byte 127) line)
