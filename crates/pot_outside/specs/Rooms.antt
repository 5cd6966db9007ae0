-- What a room of archives means, and what a call met of one.
use Rattle.std.specs.Prelude.{◌≡◌, ◌⊎◌, ℕ, Bool, false}
use Rattle.pot_outside.specs.Accounts.{Account, Transition, transition_by}
use Rattle.pot_outside.specs.Archives.{Meaning, IsMeant}

-- What a room means: whether the archive of each number is out; what it means by each number, where
-- one without an archive means an empty one, and so does one whose archive was taken; for each
-- number that is out the archive's count of faults when it was taken; how often the room failed,
-- and the archives that it lent and got back; and how often it failed itself.
pub record RoomState : Type 0 where
  pub out : ℕ → Bool
  pub means : ℕ → Meaning
  pub lent : ℕ → ℕ
  pub faults : ℕ
  pub failures : ℕ

-- no archive is out
abbrev pub IsHome : RoomState → Type 0
IsHome room = (n : ℕ) → room.out n ≡ false

-- the number means what it meant, and its archive is out or not as it was
abbrev pub StaysAt : RoomState → RoomState → ℕ → Type 0
StaysAt old new n = (new.means n ≡ old.means n) × (new.out n ≡ old.out n)

-- and if it is out, it was taken with the same count of faults
abbrev pub IsLeft : RoomState → RoomState → ℕ → Type 0
IsLeft old new n =
    (new.means n ≡ old.means n) × (new.out n ≡ old.out n) × (new.lent n ≡ old.lent n)

-- where an archive was to come back, the number means what it meant while the archive was out, or
-- that archive
abbrev pub MayLose : Meaning → Meaning → Meaning → Type 0
MayLose out archive now = (now ≡ out) ⊎ IsMeant now archive

-- what a call met of a room, which tells what its archives hold exactly where they do
abbrev pub room_transition : {A R : Type 0} → Account A Meaning → (R → RoomState) → R → R → Transition RoomState
room_transition archives meaning old new = transition_by archives.tells (meaning old) (meaning new)

-- each number means what it meant
abbrev pub MeansStay : Transition RoomState → Type 0
MeansStay room = (n : ℕ) → room.after.means n ≡ room.before.means n
