-- The next place of a table whose slot passes a test.
use Rattle.std.specs.Prelude.{◌≡◌, ◌⊎◌, ◌<◌, ◌≤◌, ℕ, Bool, false, IsTrue, Option, Some, None}
use Rattle.pot_bytes.specs.declared.rack.Place.{Place}
use Rattle.pot_machine.specs.declared.slot.SlotState.{SlotState}
use Rattle.pot_machine.specs.Slot.{is_live, is_unsound}
use Rattle.pot_machine.specs.Table.{Table, width, slot_at}
use Rattle.pot_machine.specs.Machine.{InRange}
use Rattle.pot_group.specs.declared.finding.Kind.{Kind}
use Rattle.pot_group.specs.declared.finding.Kind.TheVariants as kind

-- the test that a kind stands for
abbrev pub is_of : Kind → SlotState → Bool
is_of kind.Live = is_live
is_of kind.Unsound = is_unsound

-- one place comes before another, by stripe and then column
abbrev pub Before : ℕ → ℕ → ℕ → ℕ → Type 0
Before s c n k = (s < n) ⊎ ((s ≡ n) × (c < k))

-- a place of the table at or after the first one
abbrev pub IsFrom : Table → ℕ → ℕ → ℕ → ℕ → Type 0
IsFrom t s c n k = InRange t n k × ((s < n) ⊎ ((s ≡ n) × (c ≤ k)))

-- Some: a place at or after the first one whose slot passes, where no place between passes. None:
-- no place at or after passes
abbrev pub IsNextPlace : Table → (SlotState → Bool) → ℕ → ℕ → Option (ℕ × ℕ) → Type 0
IsNextPlace t test s c (Some p) =
    IsFrom t s c p.0 p.1
    × IsTrue (test (slot_at t p.0 p.1))
    × ((n k : ℕ) → IsFrom t s c n k → Before n k p.0 p.1 → test (slot_at t n k) ≡ false)
IsNextPlace t test s c None = (n k : ℕ) → IsFrom t s c n k → test (slot_at t n k) ≡ false

-- the same in one stripe
abbrev pub IsNextColumn : Table → (SlotState → Bool) → ℕ → ℕ → Option ℕ → Type 0
IsNextColumn t test s c (Some p) =
    (c ≤ p) × (p < width t) × IsTrue (test (slot_at t s p))
    × ((k : ℕ) → c ≤ k → k < p → test (slot_at t s k) ≡ false)
IsNextColumn t test s c None = (k : ℕ) → c ≤ k → k < width t → test (slot_at t s k) ≡ false

-- and in a group of this number
abbrev pub IsPlace : ℕ → Table → (SlotState → Bool) → ℕ → ℕ → Option Place → Type 0
IsPlace number t test s c (Some p) =
    (p.group ≡ number) × IsNextPlace t test s c (Some (p.stripe, p.column))
IsPlace number t test s c None = IsNextPlace t test s c None
