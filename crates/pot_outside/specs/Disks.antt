-- What the calls of a disk do to its bytes, and what a crash leaves of them.
use Rattle.std.specs.Prelude.{◌≡◌, ◌⊎◌, ◌+◌, ◌-◌, ◌<◌, ◌≤◌, nat_lt, if◌then◌else◌, ℕ, List, [], ◌∷◌}
use Rattle.std.specs.Prelude.{◌++◌, length, drop, get_or, map, Result, Ok, Err}
use Rattle.std.specs.List.{range_with_len}
use Rattle.pot_outside.specs.declared.faults.Failed.{Failed}

-- What changes a disk: bytes that lie at a place since a write began, and a sync that answered Ok.
pub data DiskCall : Type 0 where
  Wrote : ℕ → List ℕ → DiskCall
  Synced : DiskCall

-- the byte at each place
abbrev pub Bytes : Type 0
Bytes = ℕ → ℕ

-- the bytes with these laid over them from a place on
abbrev pub laid_over : Bytes → ℕ → List ℕ → Bytes
laid_over below at bytes place =
    if nat_lt place at then below place else get_or bytes (place - at) (below place)

-- The byte that a read gives at each place after these calls, the newest call first: zero where
-- nothing was written.
unfoldable pub seen : List DiskCall → Bytes
seen [] place = 0
seen (Wrote at bytes ∷ older) place = laid_over (seen older) at bytes place
seen (Synced ∷ older) place = seen older place

-- the place lies in this many places from a first one on
abbrev pub IsPlaceWithin : ℕ → ℕ → ℕ → Type 0
IsPlaceWithin at count place = (at ≤ place) × (place < at + count)

-- a write that covers the place began after the last sync that answered Ok
unfoldable pub IsPending : List DiskCall → ℕ → Type 0
IsPending [] place = ⊥
IsPending (Wrote at bytes ∷ older) place = IsPlaceWithin at (length bytes) place ⊎ IsPending older place
IsPending (Synced ∷ older) place = ⊥

-- A crash leaves any bytes where writes are pending, and elsewhere the byte that a read gives.
abbrev pub IsCrashImage : List DiskCall → Bytes → Type 0
IsCrashImage calls image =
    (place : ℕ) → (image place ≡ seen calls place) ⊎ (IsPending calls place × (image place < 256))

-- each image that a crash leaves after these calls has the property
abbrev pub CrashLeaves : (Bytes → Type 0) → List DiskCall → Type 0
CrashLeaves P calls = (image : Bytes) → IsCrashImage calls image → P image

-- Some calls were made since, the newest first, and a crash at any moment since leaves what has the
-- property: after the first of them, with any number of the newest not made yet. A crash in the
-- middle of a write leaves what a crash after it may leave, and one in the middle of a sync what a
-- crash before it may leave.
pub record LeavesOnly (P : Bytes → Type 0) (old new : List DiskCall) : Type 0 where
  pub since : List DiskCall
  pub calls : new ≡ since ++ old
  pub each : (unmade : ℕ) → CrashLeaves P (drop unmade since ++ old)

-- the bytes in this many places from a first one on
abbrev pub bytes_at : Bytes → ℕ → ℕ → List ℕ
bytes_at bytes at count = map bytes (range_with_len at count)

-- THE CALLS

-- the buffer has the bytes from the place on
abbrev pub ReadsBytes : List DiskCall → ℕ → List ℕ → Result (Unit {0}) Failed → Type 0
ReadsBytes calls at into (Ok u) = into ≡ bytes_at (seen calls) at (length into)
ReadsBytes calls at into (Err e) = Unit {0}

-- the bytes lie at the place. Where a write fails, any bytes do, or it never began.
abbrev pub WritesBytes : List DiskCall → List DiskCall → ℕ → List ℕ → Result (Unit {0}) Failed
    → Type 0
WritesBytes old new at from (Ok u) = new ≡ Wrote at from ∷ old
WritesBytes old new at from (Err e) =
    (new ≡ old) ⊎ ((left : List ℕ) × (length left ≡ length from) × (new ≡ Wrote at left ∷ old))

-- nothing is pending any more. Where a sync fails, what was pending still is.
abbrev pub SyncsBytes : List DiskCall → List DiskCall → Result (Unit {0}) Failed → Type 0
SyncsBytes old new (Ok u) = new ≡ Synced ∷ old
SyncsBytes old new (Err e) = new ≡ old
