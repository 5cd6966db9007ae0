-- The blocks that are read from archives without a desk, the objects that they give, and what
-- `recover` comes to.
use Rattle.std.specs.Prelude.{◌≡◌, ◌<◌, ◌≤◌, ◌-◌, ◌^◌, ◌⊎◌, ℕ, List, Some}
use Rattle.std.specs.Prelude.{Result, Ok, Err, Contains, IsTrue, if◌then◌else◌, ◌+◌, ◌*◌, min, length}
use Rattle.pot_outside.specs.Accounts.{Transition}
use Rattle.pot_outside.specs.Archives.{Meaning, IsVacant, OnlyLoses}
use Rattle.pot_outside.specs.Counts.{Rose}
use Rattle.pot_outside.specs.Rooms.{RoomState}
use Rattle.pot_recover.specs.Open.{AreOpenlyRecovered, IsOpenlyTooWide, IsOpenlyWithin}
use Rattle.pot_recover.specs.Recovered.{AreRecovered}
use Rattle.pot_recover.specs.Robust.{AreRobustlyRecovered, IsRobustlyTooWide, IsRobustlyWithin}
use Rattle.pot_recover.specs.Wide.{IsTooWide, IsWithin}
use Rattle.pot_recover.specs.declared.top.RecoverFault.{RecoverFault}
use Rattle.pot_recover.specs.declared.top.RecoverFault.TheVariants.{Wide}
use Rattle.pot_words.specs.declared.recover.Recover.{Recover}
use Rattle.pot_words.specs.declared.recover.Way.{Way}
use Rattle.pot_words.specs.declared.recover.Way.TheVariants as way
use Rattle.pot_session.specs.declared.ending.status.Status.{Status}
use Rattle.pot_session.specs.declared.ending.stop.Stop.{Stop}
use Rattle.pot_session.specs.declared.ending.stop.Stop.TheVariants as stop
use Rattle.pot_session.specs.Listing.{ListsObjects}
use Rattle.pot_session.specs.Stops.{Refuses}

-- how many archives are read, how many slots of each, and the bits that pointers leave out are
-- within their limits
pub record IsRecovery (r : Recover) : Type 0 where
  pub archives : r.archives ≤ 512
  pub stripes : r.stripes ≤ 4096
  pub blur : r.blur ≤ 63

-- ONE ARCHIVE

-- An archive was read and no more: it may have lost blocks.
pub record WasRead (old new : Meaning) : Type 0 where
  pub loses : OnlyLoses old.held new.held old.losses new.losses
  pub past : new.history ≡ old.history
  pub hears : new.heard ≡ old.heard

-- the archive held this block in one of its first slots
abbrev pub IsHeldIn : ℕ → Meaning → List ℕ → Type 0
IsHeldIn count m block = (slot : ℕ) × (slot < count) × (m.held slot ≡ Some block)

-- The blocks of its first slots came to those that were read before: each that came was held at
-- first, and each that was held at first came, unless the archive's count of losses rose.
pub record GathersBlocks (count : ℕ) (old new : Meaning) (before after : List (List ℕ)) : Type 0 where
  pub read : WasRead old new
  pub keeps : (b : List ℕ) → Contains before b → Contains after b
  pub only : (b : List ℕ) → Contains after b → Contains before b ⊎ IsHeldIn count old b
  pub all : new.losses ≡ old.losses → new.losses < 2 ^ 64 - 1 → (b : List ℕ) → IsHeldIn count old b
      → Contains after b

-- The same of one slot.
pub record AddsSlot (slot : ℕ) (old new : Meaning) (before after : List (List ℕ)) : Type 0 where
  pub read : WasRead old new
  pub keeps : (b : List ℕ) → Contains before b → Contains after b
  pub only : (b : List ℕ) → Contains after b → Contains before b ⊎ (old.held slot ≡ Some b)
  pub all : (b : List ℕ) → new.held slot ≡ Some b → Contains after b

-- ALL ARCHIVES

-- These are the blocks that the first archives held in their first slots, by what the room meant
-- before and means after. A block may be left out only where its archive's count of losses rose,
-- and the archives were read and no more.
pub record AreHeldIn (archives stripes : ℕ) (meant means : ℕ → Meaning)
    (blocks : List (List ℕ)) : Type 0 where
  pub only : (b : List ℕ) → Contains blocks b
      → (n : ℕ) × (n < archives) × IsHeldIn stripes (meant n) b
  pub all : (n : ℕ) → n < archives → (means n).losses ≡ (meant n).losses
      → (means n).losses < 2 ^ 64 - 1
      → (b : List ℕ) → IsHeldIn stripes (meant n) b → Contains blocks b
  pub read : (n : ℕ) → n < archives → WasRead (meant n) (means n)

-- The room failed itself as it was to take this archive back, and it is lost: its number means an
-- empty one.
pub record LostByRoom (old new : RoomState) (number : ℕ) : Type 0 where
  pub failed : Rose old.failures new.failures
  pub vacant : IsVacant (new.means number)

-- The first archives were read and no more, by what the room meant before and means after; but for
-- one at most, which is lost. None behind that one was touched.
pub record WereRead (archives : ℕ) (old new : RoomState) : Type 0 where
  pub but : ℕ
  pub read : (n : ℕ) → n < archives
      → WasRead (old.means n) (new.means n) ⊎ ((n ≡ but) × LostByRoom old new n)
  pub behind : (n : ℕ) → but < n → new.means n ≡ old.means n

-- FAILURES

-- an archive failed, by what its number meant and means
abbrev pub ArchiveFailed : Meaning → Meaning → Type 0
ArchiveFailed old new = Rose old.faults new.faults

-- one of the first archives did
abbrev pub SomeFailed : ℕ → RoomState → RoomState → Type 0
SomeFailed archives old new = (n : ℕ) × (n < archives) × ArchiveFailed (old.means n) (new.means n)

-- The room failed itself, by its count of own failures; or, where it tells, an archive of its did.
pub record FailsOr (room : Transition RoomState) (archive failed : Type 0) : Type 0 where
  pub later : room.before.failures ≤ room.after.failures
  pub why : failed
      → Rose room.before.failures room.after.failures ⊎ (IsTrue room.tells → archive)

-- THE WHOLE

-- How many chains are followed over so many blocks where the work is bounded: each shard of a ring
-- ends one chain, and each begins up to 16 open ones, so this many leave room for others.
abbrev pub bounded_chains : Way → ℕ → ℕ
bounded_chains way.Rings n = 65536 + 2 * n
bounded_chains way.Robust n = 4096 + 2 * n
bounded_chains way.Chains n = 65536 + 17 * n

-- how many chains are followed
abbrev pub most_chains : Recover → ℕ → ℕ
most_chains r n = if r.bounded then min (bounded_chains r.way n) 4000000 else 4000000

-- The objects that these blocks give by rings that close, or where that is asked for by rings that
-- close robustly or by open chains. Both counts are borne, that of the chains up to `most`.
abbrev pub GiveObjects : ℕ → Way → List (List ℕ) → ℕ → List (List ℕ) → Type 0
GiveObjects most way.Rings blocks bits objects =
    AreRecovered blocks bits objects × IsWithin most blocks bits
GiveObjects most way.Robust blocks bits objects =
    AreRobustlyRecovered blocks bits objects × IsRobustlyWithin most blocks bits
GiveObjects most way.Chains blocks bits objects =
    AreOpenlyRecovered blocks bits objects × IsOpenlyWithin most blocks bits

-- one of the two counts is not borne
abbrev pub GiveTooMany : ℕ → Way → List (List ℕ) → ℕ → RecoverFault → Type 0
GiveTooMany most way.Rings blocks bits fault = IsTooWide most blocks bits fault
GiveTooMany most way.Robust blocks bits fault = IsRobustlyTooWide most blocks bits fault
GiveTooMany most way.Chains blocks bits fault = IsOpenlyTooWide most blocks bits fault

-- The blocks that were read give these objects; or they are too wide; or an archive or the room
-- failed, or memory ran out.
abbrev pub FindsObjects : Recover → Transition RoomState → Result (List (List ℕ)) Stop → Type 0
FindsObjects r room (Ok objects) =
    (blocks : List (List ℕ))
    × (IsTrue room.tells → AreHeldIn r.archives r.stripes room.before.means room.after.means blocks)
    × GiveObjects (most_chains r (length blocks)) r.way blocks r.blur objects
FindsObjects r room (Err stop.TooWide) =
    (blocks : List (List ℕ))
    × (IsTrue room.tells → AreHeldIn r.archives r.stripes room.before.means room.after.means blocks)
    × ((chains : ℕ) × (choices : ℕ)
    × GiveTooMany (most_chains r (length blocks)) r.way blocks r.blur (Wide chains choices))
FindsObjects r room (Err stop.RoomFault) = Unit {0}
FindsObjects r room (Err stop.NoMemory) = Unit {0}
FindsObjects r room (Err _) = ⊥

-- what is written and answered: the listing, or why there is none
abbrev pub ListAnswers : Transition (List ℕ) → Result (List (List ℕ)) Stop → Status → Type 0
ListAnswers sink (Ok objects) answer = ListsObjects sink objects answer
ListAnswers sink (Err s) answer = Refuses sink s answer

-- What `recover` comes to. Whatever it answers, the archives were read and no more, and others are
-- not touched.
pub record Recovers (r : Recover) (room : Transition RoomState) (sink : Transition (List ℕ))
    (answer : Status) : Type 0 where
  pub found : Result (List (List ℕ)) Stop
  pub is : FindsObjects r room found
  pub answers : ListAnswers sink found answer
  pub read : IsTrue room.tells → WereRead r.archives room.before room.after
  pub others : (n : ℕ) → r.archives ≤ n → room.after.means n ≡ room.before.means n
