-- What the archives hold after a session of the blocks that the image names with which it began: by
-- that image, put back, they are found.
use Rattle.std.specs.Prelude.{◌≡◌, ◌≢◌, ◌⊎◌, ◌<◌, ℕ, IsTrue, List, [], ◌∷◌, Contains, Some}
use Rattle.std.specs.Prelude.{slice_get, flat_map}
use Rattle.pot_bytes.specs.declared.digest.Digest.{Digest}
use Rattle.pot_bytes.specs.Digests.{digest_of}
use Rattle.pot_outside.specs.Accounts.{Transition}
use Rattle.pot_outside.specs.Archives.{Meaning}
use Rattle.pot_outside.specs.Counts.{Rose}
use Rattle.pot_outside.specs.Rooms.{RoomState}
use Rattle.pot_machine.specs.declared.entry.Entry.{Entry}
use Rattle.pot_machine.specs.declared.slot.SlotState.TheVariants.{Live}
use Rattle.pot_machine.specs.Table.{Table, archives_in, serving_at, slot_at}
use Rattle.pot_group.specs.Arrivals.{arrivals}
use Rattle.pot_group.specs.Remaining.{HasServed, MendFailed}
use Rattle.pot_image.specs.Images.{Contents}
use Rattle.pot_image.specs.Rules.{FitsTogether}
use Rattle.pot_replies.specs.Sections.{Section}
use Rattle.pot_shared.specs.Hands.{times}
use Rattle.pot_session.specs.Serving.{Leaves, OtherArchivesStay, came_by}
use Rattle.pot_promises.specs.Chains.{BeginsAfter}

-- an archive holds a block of this digest in this slot
abbrev pub HoldsOf : Meaning → ℕ → Digest → Type 0
HoldsOf m s d = (b : List ℕ) × (m.held s ≡ Some b) × (digest_of b ≡ d)

-- it holds one still, if it held one, unless a relay's write into the slot failed, as the log
-- tells, or its count of losses rose
abbrev pub HoldsStill : Table → List Entry → ℕ → ℕ → Digest → Meaning → Meaning → Type 0
HoldsStill read log s c d old new =
    HoldsOf old s d
    → HoldsOf new s d ⊎ (MendFailed read log s c ⊎ Rose old.losses new.losses)

-- A session of which the room tells began with an image in which a data slot has a digest. The
-- archive that serves it there holds its block still, if the room took it back and the log did not
-- bring it anew. This is whatever became of the slot and its column: the archive may have been
-- retired since.
abbrev pub BlocksRemainInRoom : Type 0
BlocksRemainInRoom =
    (first last : Contents) (room : Transition RoomState) (missing : List ℕ) (story : Section)
    → FitsTogether first → IsTrue room.tells → Leaves room missing first last story
    → (group : ℕ) (read : Table) (log : List Entry)
    → slice_get first.tables group ≡ Some read → slice_get last.group_logs group ≡ Some log
    → (s c : ℕ) (d : Digest) → s < read.stripes → c < read.data_columns
    → slot_at read s c ≡ Live d
    → times (serving_at read s c) missing ≡ 0
    → (Contains (arrivals log) (serving_at read s c) → ⊥)
    → HoldsStill read log s c d (room.before.means (serving_at read s c))
    (room.after.means (serving_at read s c))

-- The same of an archive that has served the slot by the image with which the session began, be it
-- an older image that it served it by; and so it has by the image that the session leaves. So what
-- holds of one session goes on to the next.
abbrev pub ServedRemain : Type 0
ServedRemain =
    (first last : Contents) (room : Transition RoomState) (missing : List ℕ) (story : Section)
    → FitsTogether first → IsTrue room.tells → Leaves room missing first last story
    → (group : ℕ) (read written : Table) (log : List Entry)
    → slice_get first.tables group ≡ Some read → slice_get last.tables group ≡ Some written
    → slice_get last.group_logs group ≡ Some log
    → (s c : ℕ) (d : Digest) (n : ℕ) → s < read.stripes → c < read.data_columns
    → HasServed read s c d n → (Contains (arrivals log) n → ⊥)
    → HasServed written s c d n
    × (Contains (archives_in read) n → times n missing ≡ 0
    → HoldsStill read log s c d (room.before.means n) (room.after.means n))

-- SESSIONS IN A ROW

-- a session: the image with which it began and the one that it left, the room, the archives that
-- the room did not take back, and what the logs gained
pub record PastSession : Type 0 where
  pub first : Contents
  pub last : Contents
  pub room : Transition RoomState
  pub missing : List ℕ
  pub story : Section

-- It closed, as `IsClosed` of its run tells. Archives that neither its image nor its logs name are
-- as they were.
pub record HasClosed (x : PastSession) : Type 0 where
  pub fits : FitsTogether x.first
  pub told : IsTrue x.room.tells
  pub leaves : Leaves x.room x.missing x.first x.last x.story
  pub others : OtherArchivesStay x.first.tables x.last.group_logs x.room.before.means x.room.after.means

-- Sessions over one room, each of which began with the image that the one before left, or with what
-- rechecks made of it. The first began so with this image, when the room meant this, and after the
-- last it means that.
abbrev pub InARow : Contents → (ℕ → Meaning) → List PastSession → (ℕ → Meaning) → Type 0
InARow left meant [] now = now ≡ meant
InARow left meant (x ∷ xs) now =
    BeginsAfter left x.first × HasClosed x × (x.room.before.means ≡ meant)
    × InARow x.last x.room.after.means xs now

-- What may have taken, in one session, the block that an archive had in a data slot of a group: the
-- room did not take the archive back; a log brought it to a group; it was in the table of another
-- group alone; a relay's write into the slot failed; or its count of losses rose.
pub data MayTakeBlock (x : PastSession) (g s c n : ℕ) : Type 0 where
  NotBack : times n x.missing ≢ 0 → MayTakeBlock x g s c n
  Brought : times n (came_by x.last.group_logs) ≢ 0 → MayTakeBlock x g s c n
  Elsewhere : (read : Table) → slice_get x.first.tables g ≡ Some read
      → times n (archives_in read) ≡ 0 → times n (flat_map archives_in x.first.tables) ≢ 0
      → MayTakeBlock x g s c n
  Failed : (read : Table) (log : List Entry) → slice_get x.first.tables g ≡ Some read
      → slice_get x.last.group_logs g ≡ Some log → MendFailed read log s c → MayTakeBlock x g s c n
  Lost : Rose (x.room.before.means n).losses (x.room.after.means n).losses → MayTakeBlock x g s c n

-- in one of the sessions
abbrev pub OneTakes : List PastSession → ℕ → ℕ → ℕ → ℕ → Type 0
OneTakes [] g s c n = ⊥
OneTakes (x ∷ xs) g s c n = MayTakeBlock x g s c n ⊎ OneTakes xs g s c n

-- The desk of before, put back, finds its blocks: after any sessions in a row over its room, with
-- rechecks between them or not, the archive that serves a Live data slot by the image of before
-- holds its block, if it held it then, unless one of these sessions has taken it.
abbrev pub OlderDeskFinds : Type 0
OlderDeskFinds =
    (desk : Contents) (meant now : ℕ → Meaning) (xs : List PastSession) → FitsTogether desk
    → InARow desk meant xs now
    → (g : ℕ) (t : Table) → slice_get desk.tables g ≡ Some t
    → (s c : ℕ) (d : Digest) → s < t.stripes → c < t.data_columns → slot_at t s c ≡ Live d
    → HoldsOf (meant (serving_at t s c)) s d
    → HoldsOf (now (serving_at t s c)) s d ⊎ OneTakes xs g s c (serving_at t s c)
