-- Archives that are given back to a room, and those that it does not take back.
use Rattle.std.specs.Prelude.{◌≡◌, ◌⊎◌, ◌<◌, ◌≤◌, ◌+◌, ◌-◌, ◌^◌, ℕ, List, [], Result, Ok, Err}
use Rattle.std.specs.Prelude.{Contains, IsTrue, length}
use Rattle.pot_outside.specs.Accounts.{Account, Transition}
use Rattle.pot_outside.specs.Archives.{Meaning, IsMeant}
use Rattle.pot_outside.specs.Counts.{Rose}
use Rattle.pot_outside.specs.Rooms.{RoomState}
use Rattle.pot_outside.specs.declared.archive.Shelf.{Shelf}
use Rattle.pot_outside.specs.declared.faults.Failed.{Failed}
use Rattle.pot_shared.specs.Hands.{IsMeantButLost, times}

-- The room failed at the taking back of each of these archives: so often at least its count of own
-- failures rose, and not at all where there are none.
pub record FailsToGive (before now : ℕ) (missing : List ℕ) : Type 0 where
  pub later : before ≤ now
  pub counted : (before + length missing ≤ now) ⊎ (2 ^ 64 - 1 ≤ now)
  pub still : missing ≡ [] → now ≡ before

-- it failed exactly where some are missing
abbrev pub AnswersFor : List ℕ → Result (Unit {0}) Failed → Type 0
AnswersFor missing (Ok u) = missing ≡ []
AnswersFor missing (Err e) = 0 < length missing

-- These archives were given back: some are missing, and each other one is what its number means.
pub record GivesArchivesBack {A : Type 0} (archives : Account A Meaning) (hand : List (Shelf A))
    (old new : RoomState) (result : Result (Unit {0}) Failed) : Type 0 where
  pub missing : List ℕ
  pub failed_at : FailsToGive old.failures new.failures missing
  pub answers : AnswersFor missing result
  pub back : IsTrue archives.tells → (s : Shelf A) → Contains hand s → times s.number missing ≡ 0
      → IsMeant (new.means s.number) (archives.meaning s.archive)

-- Archives were asked for and the room failed itself. Those that it had given were given back: some
-- are missing, and each other number means what it meant. `worked` is how often the room had failed
-- then.
pub record IsUnlent (room : Transition RoomState) : Type 0 where
  pub worked : ℕ
  pub rose : Rose room.before.failures worked
  pub missing : List ℕ
  pub failed_at : FailsToGive worked room.after.failures missing
  pub others : IsTrue room.tells → (n : ℕ) → times n missing ≡ 0
      → IsMeant (room.before.means n) (room.after.means n)

-- Memory ran out over archives that were asked for. Those that the room had given were given back:
-- some are missing, and each other number means what it meant, but for losses that its archive
-- counted.
pub record IsRoomUnopened (room : Transition RoomState) : Type 0 where
  pub missing : List ℕ
  pub failed_at : FailsToGive room.before.failures room.after.failures missing
  pub others : IsTrue room.tells → (n : ℕ) → times n missing ≡ 0
      → IsMeantButLost (room.before.means n) (room.after.means n)
