-- Sessions of runs that closed, one after another, and what is asked of them.
use Rattle.std.specs.Prelude.{◌≡◌, ◌⊎◌, ◌≤◌, ◌<◌, ◌+◌, ◌*◌, ◌^◌, ◌++◌, ℕ, Bool, IsTrue, All}
use Rattle.std.specs.Prelude.{Contains, List, [], ◌∷◌, Some, flat_map, length, map}
use Rattle.std.specs.List.{range_with_len}
use Rattle.pot_bytes.specs.declared.rack.Rack.{Rack}
use Rattle.pot_bytes.specs.Rack.{log_bound}
use Rattle.pot_outside.specs.Accounts.{Transition}
use Rattle.pot_outside.specs.Desks.{image_met}
use Rattle.pot_outside.specs.Archives.{Meaning}
use Rattle.pot_outside.specs.Counts.{Rose}
use Rattle.pot_outside.specs.Rooms.{RoomState, MeansStay}
use Rattle.pot_machine.specs.declared.entry.Entry.{Entry}
use Rattle.pot_machine.specs.Making.{empty_table}
use Rattle.pot_machine.specs.Table.{archives_in}
use Rattle.pot_script.specs.declared.grouping.Step.{Step}
use Rattle.pot_image.specs.declared.image.Image.{Image}
use Rattle.pot_image.specs.Images.{Contents, contents}
use Rattle.pot_image.specs.Rules.{FitsTogether}
use Rattle.pot_script.specs.declared.reply.Reply.{Reply}
use Rattle.pot_replies.specs.Sections.{FollowsSection, Section}
use Rattle.pot_replies.specs.Sessions.{Replied}
use Rattle.pot_commands.specs.Ends.{texts_of}
use Rattle.pot_commands.specs.Rows.{Row}
use Rattle.pot_commands.specs.Steps.{steps_of}
use Rattle.pot_refinement.specs.Refinement.{IsArchiveEmpty, is_clean}
use Rattle.pot_session.specs.declared.ending.status.Status.{Status}
use Rattle.pot_session.specs.Desks.{begun}
use Rattle.pot_session.specs.Giving.{IsUnlent, IsRoomUnopened}
use Rattle.pot_session.specs.Losses.{AreBack}
use Rattle.pot_session.specs.Runs.{Holds, IsSessionOf, Seen}
use Rattle.pot_session.specs.Serving.{IsClosed, Leaves, ShareNone, came_by, setting_of}
use Rattle.pot_promises.specs.Chains.{BeginsFrom}

-- A SESSION THAT CLOSED

-- What the contract of a run says of one session that closed, over archives that tell what they
-- hold: the images with which it began and which it left, what the room meant before and after,
-- the archives that the room did not take back, what the logs gained, and that no two columns share
-- an archive.
pub record ClosedSession : Type 0 where
  pub first : Contents
  pub last : Contents
  pub room : Transition RoomState
  pub missing : List ℕ
  pub story : Section
  pub fits : FitsTogether first
  pub told : IsTrue room.tells
  pub leaves : Leaves room missing first last story
  pub apart : ShareNone first last

-- a run whose session closed
pub record RanToClose (seed : List ℕ) (careful : Bool) (seen : Seen)
    (answer : Status) : Type 0 where
  pub read : Image
  pub steps : List Step
  pub of : IsSessionOf seen.source (image_met seen.desk) read steps
  pub fits : FitsTogether (begun (contents read))
  pub closed : IsClosed seed careful (begun (contents read)) steps seen.room seen.sink seen.desk
      answer

-- its session
abbrev pub session_of : {seed : List ℕ} {careful : Bool} {seen : Seen} {answer : Status}
    → RanToClose seed careful seen answer → IsTrue seen.room.tells → ClosedSession
session_of {seed} {careful} {seen} {answer} r told =
    record {
      first = begun (contents r.read);
      last = r.closed.last;
      room = seen.room;
      missing = r.closed.missing;
      story = r.closed.story;
      fits = r.fits;
      told = told;
      leaves = r.closed.leaves;
      apart = r.closed.apart;
    }

-- No session closed. Each number means what it meant, or each whose archive came back does, or does
-- but for losses that its archive counted.
abbrev pub NoneClosedInRoom : Transition RoomState → Type 0
NoneClosedInRoom room = MeansStay room ⊎ (IsUnlent room ⊎ IsRoomUnopened room)

-- A run of the program has one session that closed, or none.
abbrev pub RunsClose : Type 0
RunsClose =
    (seed : List ℕ) (careful : Bool) (seen : Seen) (answer : Status)
    → Holds seed careful seen answer → RanToClose seed careful seen answer ⊎ NoneClosedInRoom seen.room

-- THE REPLIES OF A SESSION

-- In a session that began with this image, and whose logs gained this, these steps have these
-- replies, by what the logs had gained when the last of them was answered.
pub record HasReplies (seed : List ℕ) (first : Contents) (story : Section) (ss : List Step)
    (rs : List Reply) : Type 0 where
  pub done : Section
  pub later : Section
  pub follows : FollowsSection done later story
  pub replied : Replied (Row (setting_of seed first)) 1 (steps_of ss) rs done

-- The first steps of a run have replies so, and all that the run wrote is of their texts.
pub record HasAnswered {seed : List ℕ} {careful : Bool} {seen : Seen} {answer : Status}
    (r : RanToClose seed careful seen answer) : Type 0 where
  pub answered : List Step
  pub rest : List Step
  pub parts : r.steps ≡ answered ++ rest
  pub replies : List Reply
  pub replied : HasReplies seed (begun (contents r.read)) r.closed.story answered replies
  pub written : IsTrue seen.sink.tells
      → (more : List ℕ) × (seen.sink.before ++ texts_of replies ≡ seen.sink.after ++ more)

abbrev pub RunsReply : Type 0
RunsReply =
    (seed : List ℕ) (careful : Bool) (seen : Seen) (answer : Status)
    (r : RanToClose seed careful seen answer) → HasAnswered r

-- WHICH ARCHIVES IT HAD

-- the archives of the tables with which it began
abbrev pub first_archives : ClosedSession → List ℕ
first_archives c = flat_map archives_in c.first.tables

-- those that came by its logs
abbrev pub new_archives : ClosedSession → List ℕ
new_archives c = came_by c.last.group_logs

-- how many archives a rack begins with, which have the numbers from 0
abbrev pub many_archives : Rack → ℕ
many_archives rack = rack.groups * (rack.columns + rack.parity)

-- WHAT IS ASKED OF A SESSION

-- Nothing disturbed a session. `earlier` has the archives that came in the sessions before.
pub record IsUndisturbed (earlier : List ℕ) (c : ClosedSession) : Type 0 where
  -- The room took each of its archives back. Of one that is missing no clause says what it holds.
  pub back : AreBack c.missing c.first.tables c.last.group_logs
  -- No count of faults of an archive rose with which it began. A read that fails in an opening
  -- makes a slot Gone whose block is still there.
  pub steady : (n : ℕ) → Contains (first_archives c) n
      → Rose (c.room.before.means n).faults (c.room.after.means n).faults → ⊥
  -- No log names a fault, or a parity block that was not kept. A write that failed is no step of a
  -- world.
  pub clean : All (λ log. All (λ e. IsTrue (is_clean e)) log) c.last.group_logs
  -- Each log has room. A full one ends a call between its entries.
  pub has_room : All (λ (log : List Entry). length log < log_bound) c.last.group_logs
  -- Each archive that came was empty. A world begins to use an archive with nothing in it.
  pub empty : (n : ℕ) → Contains (new_archives c) n → IsArchiveEmpty (c.room.before.means n)
  -- It was none of those that the rack began with, and came in no session before. The program sees
  -- the tables and logs of its own session alone.
  pub unused : (n : ℕ) → Contains (new_archives c) n
      → (many_archives c.first.rack ≤ n) × (Contains earlier n → ⊥)

-- SESSIONS IN A ROW

-- A first session: it began with the empty tables of its rack, over archives that were empty.
pub record IsFirstSession (c : ClosedSession) : Type 0 where
  pub tables : c.first.tables
      ≡ map (empty_table c.first.rack) (range_with_len 0 c.first.rack.groups)
  pub empty : (n : ℕ) → Contains (first_archives c) n → IsArchiveEmpty (c.room.before.means n)

-- an archive that meant this may have lost blocks, and did nothing else
pub record HasOnlyLost (m n : Meaning) : Type 0 where
  pub held : (slot : ℕ) (block : List ℕ) → slot < 2 ^ 32 → n.held slot ≡ Some block
      → m.held slot ≡ Some block
  pub heard : n.heard ≡ m.heard

-- A next session: it began with what the one before left, over archives that had only lost blocks
-- since.
pub record Succeeds (c d : ClosedSession) : Type 0 where
  pub begins : BeginsFrom c.last d.first
  pub kept : (n : ℕ) → Contains (first_archives d) n
      → HasOnlyLost (c.room.after.means n) (d.room.before.means n)

-- session after session
abbrev pub AllSucceed : List ℕ → ClosedSession → List ClosedSession → Type 0
AllSucceed earlier c [] = Unit {0}
AllSucceed earlier c (d ∷ more) =
    Succeeds c d × IsUndisturbed (earlier ++ new_archives c) d
    × AllSucceed (earlier ++ new_archives c) d more

-- All sessions of a rack from the first one on, each over what the one before left, and none of
-- them disturbed.
pub record AreInARow (c : ClosedSession) (more : List ClosedSession) : Type 0 where
  pub is_first : IsFirstSession c
  pub undisturbed : IsUndisturbed [] c
  pub go_on : AllSucceed [] c more

abbrev pub last_session : ClosedSession → List ClosedSession → ClosedSession
last_session c [] = c
last_session c (d ∷ more) = last_session d more
