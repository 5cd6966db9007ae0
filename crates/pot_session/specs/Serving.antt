-- What a session leaves: the replies of its steps, and the image of its close with the logs by
-- which they have them.
use Rattle.std.specs.Prelude.{◌≡◌, ◌<◌, ◌≤◌, ℕ, Bool, true, false, List, [], ◌∷◌}
use Rattle.std.specs.Prelude.{Some, Result, Ok, Err}
use Rattle.std.specs.Prelude.{Contains, IfErr, flat_map, if◌then◌else◌, length, map}
use Rattle.std.specs.Prelude.{slice_index_or, IsTrue}
use Rattle.pot_bytes.specs.Rack.{log_bound}
use Rattle.pot_outside.specs.Accounts.{Content, Transition, Stays, since}
use Rattle.pot_outside.specs.Archives.{Meaning, IsMeant}
use Rattle.pot_outside.specs.Counts.{Caused}
use Rattle.pot_outside.specs.Desks.{HadItsImage, Images, image_met}
use Rattle.pot_outside.specs.Rooms.{RoomState}
use Rattle.pot_outside.specs.declared.faults.Failed.{Failed}
use Rattle.pot_pads.specs.Pads.{pads_of}
use Rattle.pot_machine.specs.declared.entry.Entry.{Entry}
use Rattle.pot_machine.specs.Table.{Table, archives_in}
use Rattle.pot_machine.specs.Making.{empty_table}
use Rattle.pot_bytes.specs.Digests.{digest_of}
use Rattle.pot_group.specs.Arrivals.{arrivals}
use Rattle.pot_shelves.specs.Shelves.{Shelves}
use Rattle.pot_script.specs.declared.grouping.Step.{Step}
use Rattle.pot_image.specs.Images.{Contents}
use Rattle.pot_image.specs.Rules.{IsImage, IsImageWhole}
use Rattle.pot_image.specs.Spelling.{image_bytes}
use Rattle.pot_replies.specs.Sections.{Section}
use Rattle.pot_replies.specs.Sessions.{ByNobody}
use Rattle.pot_replies.specs.Settings.{Setting}
use Rattle.pot_store.specs.Drawing.{blocks_from}
use Rattle.pot_shared.specs.Blinded.{AreBlinded, HaveBlinds}
use Rattle.pot_shared.specs.Works.{Known, blinds_by, section_of}
use Rattle.pot_commands.specs.declared.working.Ending.{Ending}
use Rattle.pot_commands.specs.declared.working.Ending.TheVariants as ending
use Rattle.pot_commands.specs.declared.working.Ending.TheVariants.{RoomFailed}
use Rattle.pot_commands.specs.Ends.{EndsOver}
use Rattle.pot_commands.specs.Failures.{FailsOwn}
use Rattle.pot_commands.specs.Holding.{Untouched}
use Rattle.pot_shared.specs.Going.{AllOnlyWriters}
use Rattle.pot_shared.specs.Hands.{AreApart, times}
use Rattle.pot_shared.specs.Coming.{marks_of}
use Rattle.pot_session.specs.declared.ending.status.Status.{Status}
use Rattle.pot_session.specs.declared.ending.status.Status.TheVariants as status
use Rattle.pot_session.specs.declared.ending.stop.Stop.{Stop}
use Rattle.pot_session.specs.declared.ending.stop.Stop.TheVariants as stop
use Rattle.pot_session.specs.Desks.{CameToDesk, CameBoth, IfWritten, IsKeepStop, DeskKeeps}
use Rattle.pot_session.specs.Giving.{FailsToGive, IsUnlent, IsRoomUnopened}
use Rattle.pot_shared.specs.Groups.{MarksRose, MarksRoseOften}
use Rattle.pot_shared.specs.Leaving.{AreLogs, AreOpened, AreRecordsPut, LeaveGroups, LeavesRecords}
use Rattle.pot_shared.specs.Leaving.{Shows}
use Rattle.pot_session.specs.Losses.{AreBack, LostNone, LostWhereFew, all_had}
use Rattle.pot_session.specs.Stops.{status_of}

-- THE IMAGE OF A CLOSE

-- The room means what is seen of the archive, where it tells and took that archive back.
abbrev pub IsInRoom : Type 0 → (ℕ → Meaning) → List ℕ → Shelves → ℕ → Type 0
IsInRoom told means missing s n = told → times n missing ≡ 0 → Shows s n (means n)

-- a count of the archive of this number rose in a session, if the room took that archive back
abbrev pub RoseInRoom : (ℕ → Meaning) → (ℕ → Meaning) → List ℕ → ℕ → Type 0
RoseInRoom meant means missing n =
    times n missing ≡ 0 → MarksRose (marks_of (meant n)) (marks_of (means n))

-- and so often
abbrev pub RoseOftenInRoom : (ℕ → Meaning) → (ℕ → Meaning) → List ℕ → ℕ → ℕ → Type 0
RoseOftenInRoom meant means missing n k =
    times n missing ≡ 0 → MarksRoseOften k (marks_of (meant n)) (marks_of (means n))

-- The image that a session which began with the first one leaves. Its logs are those of the
-- openings, which are of no job, rest on blocks that the room meant, and call a slot Gone whose
-- block the room meant only where a count of its archive rose: of one archive no more slots than
-- its count of faults rose, unless its count of losses did; and then this section. That of the
-- index is no longer than a log may be, and what came to it was put. `missing` has the archives
-- that the room did not take back.
pub record Leaves (room : Transition RoomState) (missing : List ℕ) (first last : Contents)
    (w : Section) : Type 0 where
  pub session : last.session ≡ first.session
  pub rack : last.rack ≡ first.rack
  pub groups : LeaveGroups (IsTrue room.tells) room.before.means
      (IsInRoom (IsTrue room.tells) room.after.means missing) first.tables last.group_logs
      last.tables
  pub records : LeavesRecords first.rack first.records w.index_added last.index_log last.records
  pub logs : AreLogs last.group_logs w
  pub opened : (g : ℕ) → ByNobody (w.before g)
  pub found : IsTrue room.tells
      → AreOpened room.before.means (RoseInRoom room.before.means room.after.means missing)
      (RoseOftenInRoom room.before.means room.after.means missing) first.tables w
  pub index_opened : w.index_before ≡ []
  pub few : length last.index_log ≤ log_bound
  pub put : AreRecordsPut last.group_logs w.index_added

-- THE CLOSE

-- The first failure of a close: of the room, where an archive is missing, or of what came after it.
abbrev pub close_answer : List ℕ → Result (Unit {0}) Stop → Result (Unit {0}) Stop
close_answer [] kept = kept
close_answer (n ∷ missing) kept = Err stop.RoomFault

-- a session begins over a desk with this image, which is one that the desk ever had
abbrev pub HoldsBegin : Images → Contents → Type 0
HoldsBegin held first = (held.now ≡ Some (image_bytes first)) × HadItsImage held

-- the desk holds the image with which a session began, and no other came to those that it ever had
abbrev pub KeepsBegin : Transition (Content Images) → Contents → Type 0
KeepsBegin desk first =
    (desk.after.held.now ≡ Some (image_bytes first))
    × CameToDesk desk.before.held.past (image_bytes first) desk.after.held.past

-- The desk holds the image that a session left. Where it failed, which its count shows, it holds
-- that one, the one with which the session began or none, and for want of memory the one with which
-- it began. To the images that it ever had came that of the begin and then that of the close, where
-- the desk took it, and no other.
pub record KeepsLast (desk : Transition (Content Images)) (first last : Contents)
    (kept : Result (Unit {0}) Stop) : Type 0 where
  pub holds : IsTrue desk.tells
      → DeskKeeps (since (image_met desk) (Some (image_bytes first))) (image_bytes last) kept
  pub past : IsTrue desk.tells
      → CameBoth desk.before.held.past (image_bytes first) (image_bytes last) desk.after.held.past
  pub began : IsTrue desk.tells → Contains desk.after.held.past (image_bytes first)
  pub had : IsTrue desk.tells → HadItsImage desk.after.held
  pub which : IfErr kept IsKeepStop
  pub cause : Caused desk.before.faults desk.after.faults (kept ≡ Err stop.DeskFault)

-- A close leaves this image: nobody else logged anything since the passes knew the first, and its
-- logs are what they saw, with the blinds of the relays. `worked` is how often the room had failed
-- itself before the close. `kept` says whether the desk has the image, and `closed` what failed
-- first.
pub record Closes (old new : Known) (room : Transition RoomState) (worked : ℕ)
    (desk : Transition (Content Images)) (first : Contents)
    (kept closed : Result (Unit {0}) Stop) : Type 0 where
  pub last : Contents
  pub sole : AllOnlyWriters old new
  pub missing : List ℕ
  pub failed_at : FailsToGive worked room.after.failures missing
  pub leaves : Leaves room missing first last (section_of old new)
  pub blinds : (job : ℕ) → 0 < job
      → HaveBlinds leaves.groups job (blinds_by job old.groups new.groups)
  pub whole : IfWritten kept (IsImageWhole last)
  pub keeps : (IsTrue desk.tells → HoldsBegin desk.before.held first)
      → KeepsLast desk first last kept
  pub is : closed ≡ close_answer missing kept

-- THE ANSWER

-- the first failure of two calls: of the room, or of what came after it
abbrev pub first_failure : Result (Unit {0}) Failed → Result (Unit {0}) Stop
    → Result (Unit {0}) Stop
first_failure (Ok u) kept = kept
first_failure (Err e) kept = Err stop.RoomFault

-- what a close may answer
abbrev pub IsCloseStop : Result (Unit {0}) Stop → Type 0
IsCloseStop (Ok u) = Unit {0}
IsCloseStop (Err stop.RoomFault) = Unit {0}
IsCloseStop (Err stop.DeskFault) = Unit {0}
IsCloseStop (Err stop.NoMemory) = Unit {0}
IsCloseStop (Err _) = ⊥

-- the status of a session by the first failure, of its steps or of its close
abbrev pub status_after : Ending → Result (Unit {0}) Stop → Status
status_after ending.SinkFailed closed = status.SinkFault
status_after ending.RoomFailed closed = status.RoomFault
status_after ending.NoMemory closed = status.NoMemory
status_after (ending.Done refused) (Err s) = status_of s
status_after (ending.Done refused) (Ok u) = if refused then status.Refusals else status.Good

-- The status of a session. Where a careful one could not keep the image of its close, that gives
-- it, whatever failed before.
abbrev pub status_by : Bool → Ending → (kept closed : Result (Unit {0}) Stop) → Status
status_by true e (Err s) closed = status_of s
status_by true e (Ok u) closed = status_after e closed
status_by false e kept closed = status_after e closed

-- THE WHOLE

-- The setting of a session that begins with this image: the blocks of a job's file are made with
-- the stream of the seed, the session and the job, and a fetch mends what it finds missing.
abbrev pub setting_of : List ℕ → Contents → Setting
setting_of seed first = record {
  rack = first.rack;
  first = λ g. slice_index_or first.tables g (empty_table first.rack g);
  read = first.records;
  digests =
      λ geometry job file.
      map digest_of (blocks_from geometry file (pads_of seed first.session job));
  mends = true;
}

-- the archives that came in a session, by the logs that it left
abbrev pub came_by : List (List Entry) → List ℕ
came_by logs = flat_map arrivals logs

-- An archive that no table named with which the session began, and that none of its logs brought,
-- is as it was.
abbrev pub OtherArchivesStay : List Table → List (List Entry) → (ℕ → Meaning) → (ℕ → Meaning) → Type 0
OtherArchivesStay read logs meant means =
    (n : ℕ) → times n (flat_map archives_in read) ≡ 0 → times n (came_by logs) ≡ 0
    → IsMeant (meant n) (means n)

-- No two columns share an archive, be they of one group or of two: each archive stands once among
-- those that the session had, and once in the tables that it left.
pub record ShareNone (first last : Contents) : Type 0 where
  pub had : AreApart (all_had first.tables last.group_logs)
  pub left : AreApart (flat_map archives_in last.tables)

-- Steps were worked, and the session closed, whatever became of the steps. The image of the close
-- keeps the rules of images, unless memory ran out over it, and has the logs by which the steps
-- have their replies. Each relay of a job began with a blind that is drawn from the job's stream.
-- The room failed itself at the steps exactly where they ended so, and in the close at each archive
-- that is missing and at no other; `worked` is how often it had failed once the steps had ended.
pub record IsClosed (seed : List ℕ) (careful : Bool) (first : Contents) (steps : List Step)
    (room : Transition RoomState) (sink : Transition (List ℕ))
    (desk : Transition (Content Images)) (answer : Status) : Type 0 where
  pub last : Contents
  pub story : Section
  pub ending : Ending
  pub ends : EndsOver (setting_of seed first) story sink steps ending
  pub worked : ℕ
  pub fails : FailsOwn room.before.failures worked (ending ≡ RoomFailed)
  pub missing : List ℕ
  pub failed_at : FailsToGive worked room.after.failures missing
  pub leaves : Leaves room missing first last story
  pub apart : ShareNone first last
  pub blinded : AreBlinded seed first.session leaves.groups
  pub others : IsTrue room.tells → (ending ≡ RoomFailed → ⊥)
      → OtherArchivesStay first.tables last.group_logs room.before.means room.after.means
  pub lost : IsTrue room.tells → AreBack missing first.tables last.group_logs
      → LostNone room.before.means room.after.means first.tables last.group_logs
      → LostWhereFew (setting_of seed first) last.group_logs
  pub kept : Result (Unit {0}) Stop
  pub keeps : KeepsLast desk first last kept
  pub image : IfWritten kept (IsImage last)
  pub status : answer ≡ status_by careful ending kept (close_answer missing kept)

-- What a session comes to that begins with this image: before any step was worked the room did not
-- give its archives, and those that it got back are as they were; or memory ran out before, and
-- those that it got back are as they were but for losses that they counted; or it closed. Archives
-- that the image does not name were not touched before the steps.
pub data Serves (seed : List ℕ) (careful : Bool) (first : Contents) (steps : List Step)
    (room : Transition RoomState) (sink : Transition (List ℕ))
    (desk : Transition (Content Images)) (answer : Status) : Type 0 where
  Unlent : answer ≡ status.RoomFault → Stays sink
      → (IsTrue desk.tells → KeepsBegin desk first) → IsUnlent room
      → Untouched (flat_map archives_in first.tables) room.before room.after
      → Serves seed careful first steps room sink desk answer
  Unopened : answer ≡ status.NoMemory → Stays sink
      → (IsTrue desk.tells → KeepsBegin desk first)
      → IsRoomUnopened room × Untouched (flat_map archives_in first.tables) room.before room.after
      → Serves seed careful first steps room sink desk answer
  Closed : IsClosed seed careful first steps room sink desk answer
      → Serves seed careful first steps room sink desk answer

-- how a session may end
abbrev pub IsEnd : Status → Type 0
IsEnd status.Good = Unit {0}
IsEnd status.Refusals = Unit {0}
IsEnd status.SinkFault = Unit {0}
IsEnd status.DeskFault = Unit {0}
IsEnd status.RoomFault = Unit {0}
IsEnd status.NoMemory = Unit {0}
IsEnd _ = ⊥
