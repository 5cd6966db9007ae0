-- The reads of a sweep: up to four Live slots, one after another, and what came of each.
use Rattle.std.specs.Prelude.{◌≡◌, ◌≢◌, ◌⊎◌, ◌≤◌, ◌<◌, ◌+◌, ℕ, List, [], ◌∷◌, Some, None, Ok, IsErr}
use Rattle.std.specs.Prelude.{length, slice_index_or, take}
use Rattle.pot_bytes.specs.declared.digest.Digest.{Digest}
use Rattle.pot_bytes.specs.declared.rack.Place.{Place}
use Rattle.pot_bytes.specs.Digests.{digest_of}
use Rattle.pot_outside.specs.declared.archive.Held.TheVariants.{Held, Absent}
use Rattle.pot_machine.specs.declared.entry.Entry.{Entry}
use Rattle.pot_machine.specs.declared.entry.Entry.TheVariants as entry
use Rattle.pot_machine.specs.Slot.{digest_in, is_live}
use Rattle.pot_machine.specs.Table.{Table, slot_at, serving_at}
use Rattle.pot_shelves.specs.Shelves.{Shelves, ReadsAt}
use Rattle.pot_group.specs.declared.lanes.Lane.{Lane}
use Rattle.pot_group.specs.declared.lanes.Lanes.{Lanes}
use Rattle.pot_group.specs.declared.reads.Found.{Found}
use Rattle.pot_group.specs.declared.reads.Found.TheVariants.{Sound, Missing, NotRead}
use Rattle.pot_group.specs.declared.sweeping.Reached.TheVariants as reached
use Rattle.pot_group.specs.declared.sweeping.Swept.{Swept}
use Rattle.pot_group.specs.Finding.{IsPlace}

-- the reads, in order
abbrev pub lanes_of : Lanes → List Lane
lanes_of x = take x.count x.lanes

-- A slot was read: its state in the table, and what the archive that serves it answered.
pub record ReadsLane (told : Type 0) (lane : Lane) (t : Table) (old new : Shelves) : Type 0 where
  pub state : lane.state ≡ slot_at t lane.place.stripe lane.place.column
  pub reads : ReadsAt told (serving_at t lane.place.stripe lane.place.column) lane.place.stripe
      lane.block lane.answer old new

-- Read after read, each of the first Live slot at or after a place, and then behind that slot.
abbrev pub ReadsOn : Type 0 → ℕ → Table → ℕ → ℕ → List Lane → Shelves → Shelves → Type 0
ReadsOn told number t s c [] old new = new ≡ old
ReadsOn told number t s c (lane ∷ rest) old new =
    (mid : Shelves) × IsPlace number t is_live s c (Some lane.place) × ReadsLane told lane t old mid
    × ReadsOn told number t lane.place.stripe (lane.place.column + 1) rest mid new

-- an archive failed at the last read, if at any
abbrev pub OnlyLastFails : List Lane → Type 0
OnlyLastFails [] = Unit {0}
OnlyLastFails (lane ∷ rest) = (IsErr lane.answer → rest ≡ []) × OnlyLastFails rest

-- What reads of so many slots at most came to. There is none only where no slot is Live from this
-- place on.
pub record Gathers (told : Type 0) (number : ℕ) (t : Table) (s c most : ℕ) (lanes : List Lane)
    (old new : Shelves) : Type 0 where
  pub reads : ReadsOn told number t s c lanes old new
  pub fails : OnlyLastFails lanes
  pub few : length lanes ≤ most
  pub none : lanes ≡ [] → IsPlace number t is_live s c None

-- what a read came to, where its block has this digest
abbrev pub FindsInLane : Lane → Digest → Found → Type 0
FindsInLane lane digest Sound = (lane.answer ≡ Ok Held) × (digest_in lane.state ≡ Some digest)
FindsInLane lane digest Missing =
    (lane.answer ≡ Ok Absent) ⊎ ((lane.answer ≡ Ok Held) × (digest_in lane.state ≢ Some digest))
FindsInLane lane digest NotRead = IsErr lane.answer

-- the first digests are those of the first blocks
abbrev pub AreLaneDigests : ℕ → List Lane → List Digest → Type 0
AreLaneDigests n lanes digests =
    (k : ℕ) (x : Lane) (d : Digest) → k < n → slice_index_or digests k d
    ≡ digest_of (slice_index_or lanes k x).block

-- the entry of what a read came to
abbrev pub entry_of : ℕ → Place → Found → Entry
entry_of job p Sound = entry.Seen job p.stripe p.column
entry_of job p Missing = entry.Gone job p.stripe p.column
entry_of job p NotRead = entry.Fault job p.stripe p.column

-- a sweep after one look more
abbrev pub with_found : Swept → Place → Found → Swept
with_found swept p Sound = record {
  seen = swept.seen + 1;
  gone = swept.gone;
  reached = reached.Slot p.stripe p.column;
}
with_found swept p Missing = record {
  seen = swept.seen;
  gone = swept.gone + 1;
  reached = reached.Slot p.stripe p.column;
}
with_found swept p NotRead = record {
  seen = swept.seen;
  gone = swept.gone;
  reached = reached.Faulted p.column;
}
