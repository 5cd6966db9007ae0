-- Where a reply `lost` comes from.
use Rattle.std.specs.Prelude.{◌≡◌, ◌⊎◌, ℕ, suc, IsTrue, List}
use Rattle.std.specs.List.{AllByRecursion}
use Rattle.pot_bytes.specs.declared.rack.Geometry.{Geometry}
use Rattle.pot_outside.specs.Accounts.{Transition}
use Rattle.pot_outside.specs.Rooms.{RoomState}
use Rattle.pot_machine.specs.declared.entry.Entry.{Entry}
use Rattle.pot_script.specs.declared.command.Command.{Command}
use Rattle.pot_script.specs.declared.command.Command.TheVariants as commands
use Rattle.pot_script.specs.declared.grouping.Step.{Step}
use Rattle.pot_script.specs.declared.reply.Reply.{Reply}
use Rattle.pot_script.specs.declared.reply.Reply.TheVariants as replies
use Rattle.pot_script.specs.Steps.{IsWholeStep}
use Rattle.pot_image.specs.Images.{Contents}
use Rattle.pot_image.specs.Rules.{FitsTogether}
use Rattle.pot_replies.specs.Fetches.{IsLost}
use Rattle.pot_replies.specs.Sections.{Section, FollowsSection}
use Rattle.pot_replies.specs.Sessions.{Replied}
use Rattle.pot_replies.specs.Settings.{Setting}
use Rattle.pot_commands.specs.Rows.{Row}
use Rattle.pot_commands.specs.Steps.{steps_of}
use Rattle.pot_session.specs.Losses.{AreBack, BeginWith, FewCanBeHad, LostNone}
use Rattle.pot_session.specs.Serving.{Leaves, setting_of}
use Rattle.pot_promises.specs.Answers.{IsAnswered, job_at}

-- the command fetches the file of this name, or renews it
abbrev pub Fetches : List ℕ → Command → Type 0
Fetches name c =
    (c ≡ commands.Fetch name) ⊎ ((geometry : Geometry) × (c ≡ commands.Renew name geometry))

-- A job looked for the record of this name, and of a fragment, whose number counts from 1 in the
-- reply, fewer points can be had than are needed.
pub record IsFew (s : Setting) (job : ℕ) (name : List ℕ) (piece fragment have need : ℕ)
    (logs : List (List Entry)) : Type 0 where
  pub section : Section
  pub stands : BeginWith section logs
  pub number : ℕ
  pub numbered : fragment ≡ suc number
  pub lost : IsLost s job name piece number have need section
  pub few : FewCanBeHad s job lost.kept piece number section

-- A command of a script was answered `lost` in a session of which the room tells, and that took all
-- archives of the session back, of which none lost a block. Then it is so by what the logs have of
-- its job.
abbrev pub LostIsFew : Type 0
LostIsFew =
    (seed : List ℕ) (first last : Contents) (room : Transition RoomState) (missing : List ℕ)
    (story : Section)
    → FitsTogether first → IsTrue room.tells → Leaves room missing first last story
    → AreBack missing first.tables last.group_logs
    → LostNone room.before.means room.after.means first.tables last.group_logs
    → (ss : List Step) (rs : List Reply) (done later : Section) → FollowsSection done later story
    → Replied (Row (setting_of seed first)) 1 (steps_of ss) rs done
    → AllByRecursion (IsWholeStep first.rack) ss
    → (k i : ℕ) (c : Command) (name of : List ℕ) (piece fragment have need : ℕ) → Fetches name c
    → IsAnswered first.rack ss rs k i c (replies.Lost of piece fragment have need)
    → IsFew (setting_of seed first) (job_at ss k i) name piece fragment have need last.group_logs
