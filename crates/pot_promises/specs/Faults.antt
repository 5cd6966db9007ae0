-- Where a reply `fault` comes from.
use Rattle.std.specs.Prelude.{◌≡◌, ℕ, IsTrue, List, Contains, Some, slice_get}
use Rattle.pot_outside.specs.Accounts.{Transition}
use Rattle.pot_outside.specs.Archives.{Meaning}
use Rattle.pot_outside.specs.Counts.{Rose}
use Rattle.pot_outside.specs.Rooms.{RoomState}
use Rattle.pot_machine.specs.declared.entry.Entry.{Entry}
use Rattle.pot_machine.specs.Table.{Table}
use Rattle.pot_group.specs.Causes.{archives_of}
use Rattle.pot_script.specs.declared.command.Command.{Command}
use Rattle.pot_script.specs.declared.grouping.Step.{Step}
use Rattle.pot_script.specs.declared.reply.Reply.{Reply}
use Rattle.pot_script.specs.declared.reply.Reply.TheVariants as replies
use Rattle.pot_image.specs.Images.{Contents}
use Rattle.pot_image.specs.Rules.{FitsTogether}
use Rattle.pot_replies.specs.Sections.{Section, FollowsSection}
use Rattle.pot_replies.specs.Sessions.{Replied}
use Rattle.pot_shared.specs.Hands.{times}
use Rattle.pot_commands.specs.Rows.{Row}
use Rattle.pot_commands.specs.Steps.{steps_of}
use Rattle.pot_session.specs.Serving.{Leaves, setting_of}
use Rattle.pot_promises.specs.Answers.{IsAnswered}

-- One of these archives counted a fault, by what its number meant before a session and means after
-- it, if the room took it back: it is none of those that are missing.
abbrev pub HasFailed : (ℕ → Meaning) → (ℕ → Meaning) → List ℕ → List ℕ → Type 0
HasFailed meant means missing numbers =
    (n : ℕ) × Contains numbers n × (times n missing ≡ 0 → Rose (meant n).faults (means n).faults)

-- A command was answered `fault` of a column of a group, in a session of which the room tells. Then
-- an archive of that column counted a fault in the session, or the room did not take it back: its
-- home or target in the image that was read, or one that the group's log brought to the column.
abbrev pub FaultsAreCounted : Type 0
FaultsAreCounted =
    (seed : List ℕ) (first last : Contents) (room : Transition RoomState) (missing : List ℕ)
    (story : Section)
    → FitsTogether first → IsTrue room.tells → Leaves room missing first last story
    → (ss : List Step) (rs : List Reply) (done later : Section) → FollowsSection done later story
    → Replied (Row (setting_of seed first)) 1 (steps_of ss) rs done
    → (k i : ℕ) (c : Command) (group column : ℕ)
    → IsAnswered first.rack ss rs k i c (replies.Fault group column)
    → (read : Table) (log : List Entry)
    → slice_get first.tables group ≡ Some read → slice_get last.group_logs group ≡ Some log
    → HasFailed room.before.means room.after.means missing (archives_of read log column)
