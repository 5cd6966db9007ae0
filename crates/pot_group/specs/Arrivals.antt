-- Which archives a group has.
use Rattle.std.specs.Prelude.{◌≡◌, ◌++◌, ℕ, List, [], ◌∷◌}
use Rattle.pot_machine.specs.declared.entry.Entry.{Entry}
use Rattle.pot_machine.specs.declared.entry.Entry.TheVariants.{MoveBegin, Swapped}
use Rattle.pot_machine.specs.Table.{Table, archives_in}

-- the archive that an entry brings to the group
abbrev pub arrival : Entry → List ℕ
arrival (MoveBegin job c to) = to ∷ []
arrival (Swapped job c to) = to ∷ []
arrival _ = []

-- those that a log brings, in order
abbrev pub arrivals : List Entry → List ℕ
arrivals [] = []
arrivals (e ∷ log) = arrival e ++ arrivals log

-- The archives of a group are those of the table that it began with, and then those that its log
-- brought. It hands out all of them at its end.
abbrev pub HasArrived : Table → List Entry → List ℕ → Type 0
HasArrived first log numbers = numbers ≡ archives_in first ++ arrivals log
