-- Disks in memory.
use Rattle.std.specs.Prelude.{◌||◌, not, nat_lt, ℕ, Bool, true, false, List, [], ◌∷◌, length, map}
use Rattle.std.specs.Prelude.{replicate, Option, Some, None, if◌then◌else◌}
use Rattle.pot_outside.specs.Disks.{DiskCall, Wrote, Synced}
use Rattle.pot_doubles.specs.Calls.{begun, failing, is_due}
use Rattle.pot_doubles.specs.declared.calls.Calls.{Calls}
use Rattle.pot_doubles.specs.declared.disk.Note.{Note}
use Rattle.pot_doubles.specs.declared.disk.Note.TheVariants.{Write, Sync}
use Rattle.pot_doubles.specs.declared.disk.MemDisk.{MemDisk}

-- the call that was noted
abbrev pub call_of : Note → DiskCall
call_of (Write at bytes) = Wrote at bytes.items
call_of Sync = Synced

-- the calls that changed a disk, the newest first
abbrev pub changes_of : MemDisk → List DiskCall
changes_of d = map call_of d.notes.items

-- its calls so far
abbrev pub disk_calls : MemDisk → Calls
disk_calls d = d.calls

-- the number of the call from which on every call fails
abbrev pub stop_of : MemDisk → Option ℕ
stop_of d = d.stop

-- whether a disk has stopped
abbrev pub has_stopped : Option ℕ → Calls → Bool
has_stopped None calls = false
has_stopped (Some stop) calls = not (nat_lt calls.made stop)

-- whether the next call is to fail
abbrev pub is_stopping : MemDisk → Bool
is_stopping d = is_due (disk_calls d) || has_stopped (stop_of d) (disk_calls d)

-- after one more call began, which counts a fault where it is to fail
abbrev pub first_steps : MemDisk → Calls
first_steps d =
    if is_due (disk_calls d) then begun (disk_calls d)
    else if has_stopped (stop_of d) (disk_calls d) then failing (begun (disk_calls d))
    else begun (disk_calls d)

-- whether a call is a write
abbrev pub is_write : DiskCall → Bool
is_write (Wrote at bytes) = true
is_write Synced = false

-- a write of the byte 1 alone in its place
abbrev pub with_ones : DiskCall → DiskCall
with_ones (Wrote at bytes) = Wrote at (replicate (length bytes) 1)
with_ones Synced = Synced

-- the same calls, where each write that is pending wrote the byte 1 alone
abbrev pub filled : List DiskCall → List DiskCall
filled [] = []
filled (Wrote at bytes ∷ older) = with_ones (Wrote at bytes) ∷ filled older
filled (Synced ∷ older) = Synced ∷ older

-- the calls of which a crash leaves this: what was pending is kept, or filled
abbrev pub left_by : Bool → List DiskCall → List DiskCall
left_by keep calls = if keep then calls else filled calls
