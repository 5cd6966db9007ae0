-- Sessions, each of which begins with the image that the one before left, and rechecks between
-- them.
use Rattle.std.specs.Prelude.{◌≡◌, ◌++◌, ℕ, List, [], Some, slice_get}
use Rattle.pot_machine.specs.Table.{Table}
use Rattle.pot_machine.specs.Machine.{Replays}
use Rattle.pot_script.specs.declared.grouping.Step.{Step}
use Rattle.pot_script.specs.declared.reply.Reply.{Reply}
use Rattle.pot_image.specs.Images.{Contents}
use Rattle.pot_image.specs.Rules.{FitsTogether}
use Rattle.pot_recheck.specs.declared.listing.Unsound.{Unsound}
use Rattle.pot_recheck.specs.Finding.{IsFound}
use Rattle.pot_replies.specs.Sections.{Section, FollowsSection}
use Rattle.pot_replies.specs.Sessions.{Replied}
use Rattle.pot_commands.specs.Rows.{Row}
use Rattle.pot_commands.specs.Steps.{steps_of}
use Rattle.pot_shared.specs.Leaving.{LeavesRecords, still}
use Rattle.pot_session.specs.Serving.{setting_of}

-- The log of each group leads from the table that the group began with, each entry legal in turn,
-- to the one that was left, but for relays that were under way.
abbrev pub AllLead : List Table → Section → List Table → Type 0
AllLead tables w left =
    (g : ℕ) (t : Table) → slice_get tables g ≡ Some t
    → (u : Table) × Replays t (w.before g ++ w.added g) u × (slice_get left g ≡ Some (still u))

-- A session over the image with which it began, whose parts fit together, left that image: its logs
-- lead from the records and the tables of the one to those of the other.
pub record LeavesImage (first last : Contents) : Type 0 where
  pub fits : FitsTogether first
  pub story : Section
  pub rack : last.rack ≡ first.rack
  pub records : LeavesRecords first.rack first.records story.index_added last.index_log last.records
  pub groups : AllLead first.tables story last.tables

-- A session that began with this image, whose parts fit together, as its logs and its close tell:
-- these steps, the first of its script, have these replies by what its logs had gained when the
-- last of them was answered.
pub record IsSession (seed : List ℕ) (first last : Contents) (ss : List Step)
    (rs : List Reply) : Type 0 where
  pub fits : FitsTogether first
  pub story : Section
  pub opened : story.index_before ≡ []
  pub rack : last.rack ≡ first.rack
  pub records : LeavesRecords first.rack first.records story.index_added last.index_log last.records
  pub groups : AllLead first.tables story last.tables
  pub done : Section
  pub later : Section
  pub follows : FollowsSection done later story
  pub replied : Replied (Row (setting_of seed first)) 1 (steps_of ss) rs done

-- An image with which a session may begin, for one that an earlier session left: the rack, the
-- tables and the records are the same, and the number of the session and the logs may be any.
pub record BeginsFrom (left first : Contents) : Type 0 where
  pub rack : first.rack ≡ left.rack
  pub tables : first.tables ≡ left.tables
  pub records : first.records ≡ left.records

-- What a recheck makes of an image whose parts fit together: slots that were Lost or Broken are
-- found again, all of them or some.
pub record IsRechecked (left next : Contents) : Type 0 where
  pub fits : FitsTogether left
  pub found : List Unsound
  pub is : IsFound found left next

-- an image, or what rechecks made of it, one after the other
pub data MayBeRechecked (left : Contents) : Contents → Type 0 where
  Never : MayBeRechecked left left
  Again : {next last : Contents} → MayBeRechecked left next → IsRechecked next last
      → MayBeRechecked left last

-- An image with which a session may begin, for one that an earlier session left and that may have
-- been rechecked since.
abbrev pub BeginsAfter : Contents → Contents → Type 0
BeginsAfter left first = (next : Contents) × MayBeRechecked left next × BeginsFrom next first

-- From one image to another by any number of sessions and rechecks, each over the image that the
-- one before left. A session closed, or only began, and the desk has the image of its close or of
-- its beginning. A recheck left what it made of the image.
pub data Later (from : Contents) : Contents → Type 0 where
  Same : Later from from
  Begun : {left first : Contents} → Later from left → BeginsFrom left first → Later from first
  More : {left first last : Contents} → Later from left → BeginsFrom left first → LeavesImage first last
      → Later from last
  FoundAgain : {left next : Contents} → Later from left → IsRechecked left next → Later from next
