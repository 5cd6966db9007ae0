-- Pointers of shards, and the names that a pointer may mean.
use Rattle.std.specs.Prelude.{◌≡◌, ℕ, ◌-◌, ◌%◌, ◌^◌, ◌<◌, ◌==◌, ◌⊎◌, Bool, List, map, Some}
use Rattle.std.specs.Prelude.{slice_get}
use Rattle.std.specs.List.{enumerate_from}
use Rattle.pot_pointer.specs.declared.Named.{Named}

-- the blur of a name: the name minus its remainder by 2 ^ bits
abbrev pub blur : ℕ → ℕ → ℕ
blur name bits = name - name % 2 ^ bits

-- the name at a position
abbrev pub named_at : ℕ × ℕ → Named
named_at entry = record { name = entry.1; position = entry.0 }

-- each name with its position, counted from 0
abbrev pub named : List ℕ → List Named
named names = map named_at (enumerate_from 0 names)

-- whether a pointer may mean a name: its blur is the pointer
abbrev pub is_meant : ℕ → ℕ → Named → Bool
is_meant pointer bits entry = blur entry.name bits == pointer

-- by name, and then by position
abbrev pub IsBefore : Named → Named → Type 0
IsBefore a b = (a.name < b.name) ⊎ ((a.name ≡ b.name) × (a.position < b.position))

-- a name that the pointer may mean, with a position that it stands at
abbrev pub IsCandidate : List ℕ → ℕ → ℕ → Named → Type 0
IsCandidate names pointer bits entry =
    (slice_get names entry.position ≡ Some entry.name) × (blur entry.name bits ≡ pointer)
