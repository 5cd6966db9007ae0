-- The columns of a group, and the archives that serve them.
use Rattle.std.specs.Prelude.{ℕ, List, [], ◌∷◌, Bool, ◌||◌, ◌==◌, nat_lt, if◌then◌else◌, Option}
use Rattle.std.specs.Prelude.{Some, None}
use Rattle.pot_machine.specs.declared.column.Column.{Column}
use Rattle.pot_machine.specs.declared.column.Moving.{Moving}

-- the archive of this number is the column's home, or the target of its move
abbrev pub names_moved : Option Moving → ℕ → ℕ → Bool
names_moved None home number = home == number
names_moved (Some m) home number = (home == number) || (m.to == number)

abbrev pub names : Column → ℕ → Bool
names c number = names_moved c.moving c.home number

-- the target serves the stripes below the position of a move, and the home all others
abbrev pub serving_moved : Option Moving → ℕ → ℕ → ℕ
serving_moved None home stripe = home
serving_moved (Some m) home stripe = if nat_lt stripe m.upto then m.to else home

abbrev pub serving : Column → ℕ → ℕ
serving c stripe = serving_moved c.moving c.home stripe

-- the target of a move, if there is one
abbrev pub target_of : Option Moving → List ℕ
target_of None = []
target_of (Some m) = m.to ∷ []

-- the archives of a column: its home, and then the target of its move
abbrev pub homes_of : Column → List ℕ
homes_of c = c.home ∷ target_of c.moving
