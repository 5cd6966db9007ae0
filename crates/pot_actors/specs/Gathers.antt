-- What an actor gathers.
use Rattle.std.specs.Prelude.{◌≡◌, ◌++◌, Bool, true, false, ℕ, List, [], ◌∷◌, Option, Some, None}
use Rattle.pot_bytes.specs.declared.rack.Place.{Place}
use Rattle.pot_index.specs.declared.record.Record.{Record}
use Rattle.pot_world.specs.World.{Gathered, is_wanted}
use Rattle.pot_actors.specs.declared.seat.Gathering.{Gathering}
use Rattle.pot_actors.specs.Seats.{HasAll, IsTold, SeatData}

-- the block of a place, if there is one
abbrev pub gathered_from : Place → Option (List ℕ) → List Gathered
gathered_from place None = []
gathered_from place (Some block) = record { place = place; block = block } ∷ []

abbrev pub gathered_by : Bool → List Gathered → Place → Option (List ℕ) → List Gathered
gathered_by true gathered place block = gathered ++ gathered_from place block
gathered_by false gathered place block = gathered

-- this is gathered with the block of a place, and the file is what it gives
abbrev pub GathersTo : SeatData → Place → Option (List ℕ) → Gathering → Type 0
GathersTo s place block g =
    (g.gathered.items ≡ gathered_by (is_wanted s.found place) s.gathered place block)
    × IsTold s.found g.gathered.items g.file

-- a record of this name was found
abbrev pub FoundOf : List ℕ → Option Record → Type 0
FoundOf name None = ⊥
FoundOf name (Some r) = r.name ≡ name

-- The file that was gathered of a record of this name; none where none of this name was found, or
-- it is not gathered.
abbrev pub IsFetchedOf : List ℕ → SeatData → Option (List ℕ) → Type 0
IsFetchedOf name s None = FoundOf name s.found → ¬ HasAll s.found s.gathered
IsFetchedOf name s (Some file) =
    FoundOf name s.found × (s.file ≡ Some file) × IsTold s.found s.gathered s.file
