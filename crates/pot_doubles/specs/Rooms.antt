-- Rooms of archives in memory.
use Rattle.std.specs.Prelude.{◌≡◌, ◌≢◌, ◌<◌, ◌==◌, ℕ, Bool, List, [], ◌∷◌, Option, Some, None}
use Rattle.std.specs.Prelude.{false, length, slice_index_or, if◌then◌else◌, is_some, unwrap_or}
use Rattle.std.specs.List.{list_any}
use Rattle.std.specs.Option.{option_map_or}
use Rattle.std.specs.Ordering.{nat_cmp}
use Rattle.std.specs.BTreeMap.{get}
use Rattle.pot_outside.specs.declared.archive.Shelf.{Shelf}
use Rattle.pot_outside.specs.Archives.{Meaning}
use Rattle.pot_doubles.specs.Archives.{archive_calls, archive_fused, meaning_in}
use Rattle.pot_doubles.specs.declared.calls.Calls.{Calls}
use Rattle.pot_doubles.specs.declared.room.MemRoom.{MemRoom}
use Rattle.pot_doubles.specs.declared.archive.LossyArchive.{LossyArchive}

-- the shelves of a room, also those whose archives are out
abbrev pub shelves_of : MemRoom → List (Shelf LossyArchive)
shelves_of r = r.shelves.items

-- the archive of the first shelf with this number
abbrev pub archive_of : List (Shelf LossyArchive) → ℕ → Option LossyArchive
archive_of [] number = None
archive_of (shelf ∷ shelves) number =
    if shelf.number == number then Some shelf.archive else archive_of shelves number

-- what an archive means; a number without one means an empty archive with counts of 0
abbrev pub meaning_of : Option LossyArchive → Meaning
meaning_of None = record { held = λ k. None; history = []; heard = []; faults = 0; losses = 0 }
meaning_of (Some a) = meaning_in a

-- what a room means by a number
abbrev pub means_in : MemRoom → ℕ → Meaning
means_in r number = meaning_of (archive_of (shelves_of r) number)

-- whether the archive of a number is out
abbrev pub is_out : MemRoom → ℕ → Bool
is_out r number = is_some (get nat_cmp r.lent number)

-- for a number that is out, the archive's count of faults when it was taken
abbrev pub lent_of : MemRoom → ℕ → ℕ
lent_of r number = unwrap_or (get nat_cmp r.lent number) 0

-- its calls so far
abbrev pub room_calls : MemRoom → Calls
room_calls r = r.calls

-- whether it is under a fuse
abbrev pub room_fused : MemRoom → Bool
room_fused r = is_some r.fuse

-- whether the archive of a number is under a fuse, where there is one
abbrev pub fused_at : MemRoom → ℕ → Bool
fused_at r number = option_map_or archive_fused (archive_of (shelves_of r) number) false

-- how often a take or a give of the room's own failed
abbrev pub failures_of : MemRoom → ℕ
failures_of r = r.failures

-- a call leaves a number as it was
abbrev pub SameNumber : MemRoom → MemRoom → ℕ → Type 0
SameNumber old new n =
    (means_in new n ≡ means_in old n) × (is_out new n ≡ is_out old n)
    × (lent_of new n ≡ lent_of old n)

-- the shelf at this place has the number, and no shelf before it has
pub record IsFirst (shelves : List (Shelf LossyArchive)) (number place : ℕ) : Type 0 where
  pub within : place < length shelves
  pub here : (d : Shelf LossyArchive) → (slice_index_or shelves place d).number ≡ number
  pub before : (k : ℕ) (d : Shelf LossyArchive) → k < place
      → (slice_index_or shelves k d).number ≢ number

-- whether an archive of these shelves found no memory
abbrev pub any_starved : List (Shelf LossyArchive) → Bool
any_starved shelves = list_any (λ s. (archive_calls s.archive).starved) shelves
