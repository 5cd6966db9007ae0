-- What the archives of a session may hold and may have heard after it: what they did before it, and
-- what its logs name; and what of it they hold still.
use Rattle.std.specs.Prelude.{◌≡◌, ◌⊎◌, ◌<◌, ◌^◌, ◌++◌, ℕ, IsTrue, List, [], Contains, Some, slice_get}
use Rattle.pot_outside.specs.Accounts.{Transition}
use Rattle.pot_outside.specs.Archives.{Meaning}
use Rattle.pot_outside.specs.Counts.{Rose}
use Rattle.pot_outside.specs.Rooms.{RoomState}
use Rattle.pot_machine.specs.declared.entry.Entry.{Entry}
use Rattle.pot_machine.specs.Table.{Table, archives_in}
use Rattle.pot_steps.specs.declared.flight.Flight.{Flight}
use Rattle.pot_group.specs.Arrivals.{arrivals}
use Rattle.pot_group.specs.Frames.{FailedBy, Tries, WrittenBy}
use Rattle.pot_group.specs.Heard.{Sum, FlyBy, FoldedBy}
use Rattle.pot_image.specs.Images.{Contents}
use Rattle.pot_replies.specs.Sections.{Section}
use Rattle.pot_shared.specs.Hands.{times}
use Rattle.pot_session.specs.Serving.{Leaves}

-- The frame of an archive over a session in which its group began with this table and left this
-- log: `old` is what its number meant before, and `new` what it means after. Each block that it
-- holds, in whatever slot, it held there, or an entry of the log put it there; each that it ever
-- held it had held, or an entry put it into a slot; and each sum that it ever heard it had heard,
-- or it is that of a relay as the log has it, with these blocks given at its entries. In each slot
-- in which it held a block it holds one, that block or, by `held`, one that an entry put there,
-- unless a write into that slot failed, as an entry tells, or its count of losses rose.
pub record IsSessionFramed (read : Table) (log : List Entry) (tried : Tries) (givens : List (List ℕ))
    (n : ℕ) (old new : Meaning) : Type 0 where
  pub held : (slot : ℕ) (block : List ℕ) → slot < 2 ^ 32 → new.held slot ≡ Some block
      → (old.held slot ≡ Some block) ⊎ WrittenBy tried 0 read log n slot block
  pub history : (block : List ℕ) → Contains new.history block
      → Contains old.history block ⊎ ((slot : ℕ) × WrittenBy tried 0 read log n slot block)
  pub heard : (x : Sum) → Contains new.heard x
      → Contains old.heard x ⊎ FoldedBy read [] log givens n x
  pub kept : (slot : ℕ) (block : List ℕ) → slot < 2 ^ 32 → old.held slot ≡ Some block
      → ((b : List ℕ) × (new.held slot ≡ Some b))
      ⊎ (FailedBy read log n slot ⊎ Rose old.losses new.losses)

-- In a session of which the room tells, so is each archive of a group, of the table that was read
-- and of those that its log brought, that the room took back. The relays of the group began with
-- their blinds, and went on as its log says. Of each put of which the log says only that its write
-- failed there is one block.
abbrev pub FrameOfRun : Type 0
FrameOfRun =
    (first last : Contents) (room : Transition RoomState) (missing : List ℕ) (story : Section)
    → IsTrue room.tells → Leaves room missing first last story
    → (group : ℕ) (read : Table) (log : List Entry)
    → slice_get first.tables group ≡ Some read → slice_get last.group_logs group ≡ Some log
    → (tried : Tries) × (givens : List (List ℕ)) × (flights : List Flight)
    × FlyBy read [] log givens flights
    × ((n : ℕ) → Contains (archives_in read ++ arrivals log) n → times n missing ≡ 0
    → IsSessionFramed read log tried givens n (room.before.means n) (room.after.means n))
