-- Slots of an image are found again: each that is named and is Lost or Broken is Live, with the
-- digest that it has.
use Rattle.std.specs.Prelude.{◌≡◌, ◌<◌, ℕ, ◌==◌, ◌&&◌, Bool, Some, List, [], if◌then◌else◌, length}
use Rattle.std.specs.Prelude.{slice_get, slice_index_or}
use Rattle.std.specs.List.{list_any}
use Rattle.pot_machine.specs.declared.slot.SlotState.{SlotState}
use Rattle.pot_machine.specs.declared.slot.SlotState.TheVariants.{Void}
use Rattle.pot_machine.specs.Slot.{live_of}
use Rattle.pot_machine.specs.Table.{Table, width, place_of, slot_at}
use Rattle.pot_image.specs.Images.{Contents}
use Rattle.pot_recheck.specs.declared.listing.Unsound.{Unsound}

-- it names the slot of this group, stripe and column
abbrev pub names : ℕ → ℕ → ℕ → Unsound → Bool
names g s c u = (u.group == g) && ((u.stripe == s) && (u.column == c))

-- one of them names it
abbrev pub is_named : List Unsound → ℕ → ℕ → ℕ → Bool
is_named found g s c = list_any (names g s c) found

-- the slot as it is then: `live_of` leaves one that is Void or Live as it is
abbrev pub found_slot : List Unsound → ℕ → Table → ℕ → ℕ → SlotState
found_slot found g t s c =
    if is_named found g s c then live_of (slot_at t s c)
    else slot_at t s c

-- the slots of a group's table as they are then
pub record AreFoundSlots (found : List Unsound) (g : ℕ) (t : Table)
    (slots : List SlotState) : Type 0 where
  pub count : length slots ≡ length t.slots
  pub each : (s c : ℕ) → s < t.stripes → c < width t
      → slice_index_or slots (place_of t s c) Void ≡ found_slot found g t s c

-- One slot is made Live: it is, if the table has it and it is not Void, and all others are as
-- they were.
pub record IsMadeLive (t : Table) (s c : ℕ) (old new : List SlotState) : Type 0 where
  pub count : length new ≡ length old
  pub there : s < t.stripes → c < width t
      → slice_index_or new (place_of t s c) Void
      ≡ live_of (slice_index_or old (place_of t s c) Void)
  pub others : (n k : ℕ) → n < t.stripes → k < width t → ((n ≡ s) × (k ≡ c) → ⊥)
      → slice_index_or new (place_of t n k) Void ≡ slice_index_or old (place_of t n k) Void

-- A group's table as it is then. All but its slots is as before, and it has no relay: no table of
-- an image has one.
pub record IsFoundTable (found : List Unsound) (g : ℕ) (t u : Table) : Type 0 where
  pub rest : u ≡ record t { slots = u.slots; relays = [] }
  pub slots : AreFoundSlots found g t u.slots

-- the tables of all groups as they are then
pub record AreFoundTables (found : List Unsound) (old new : List Table) : Type 0 where
  pub count : length new ≡ length old
  pub each : (g : ℕ) (t u : Table) → slice_get old g ≡ Some t → slice_get new g ≡ Some u
      → IsFoundTable found g t u

-- an image as it is then: all but its tables is as before
pub record IsFound (found : List Unsound) (v w : Contents) : Type 0 where
  pub rest : w ≡ record v { tables = w.tables }
  pub tables : AreFoundTables found v.tables w.tables
