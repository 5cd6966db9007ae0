-- How the table of a `RegionIndex` stands for a list of names.
use Rattle.std.specs.Prelude.{ℕ, ◌==◌, if◌then◌else◌, List, map, length, AllPairs, IsPermutation}
use Rattle.std.specs.List.{range_with_len, sum_by}
use Rattle.pot_pointer.specs.declared.Named.{Named}
use Rattle.pot_pointer.specs.Pointers.{named, IsBefore}

-- the name at a position of a table that has each position once: a sum of one name
abbrev pub name_at : List Named → ℕ → ℕ
name_at table position =
    sum_by (λ entry. if entry.position == position then entry.name else 0) table

-- the names of a table, by position
abbrev pub names_of : List Named → List ℕ
names_of table = map (name_at table) (range_with_len 0 (length table))

-- a table has each of its names at its position, in order
pub record IsNameTable (table : List Named) : Type 0 where
  pub whole : IsPermutation (named (names_of table)) table
  pub order : AllPairs IsBefore table
