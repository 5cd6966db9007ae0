-- The moves of a batch, which its `migrate` lines begin in order before any of its jobs does: what
-- a line is for its job then, and what was logged.
use Rattle.std.specs.Prelude.{◌≡◌, ◌<◌, ◌≤◌, ◌+◌, ◌++◌, ℕ, List, [], IsSome, Some, length}
use Rattle.std.specs.Prelude.{slice_get}
use Rattle.pot_bytes.specs.declared.rack.Rack.{Rack}
use Rattle.pot_machine.specs.declared.entry.Entry.{Entry}
use Rattle.pot_machine.specs.Logs.{own}
use Rattle.pot_script.specs.declared.command.Command.{Command}
use Rattle.pot_script.specs.declared.command.Command.TheVariants as commands
use Rattle.pot_replies.specs.Jobs.{is_move_begin, EachIs}
use Rattle.pot_replies.specs.Settings.{Setting}
use Rattle.pot_replies.specs.Sections.{Section, mine, checked, IsOfJobs, IsSilent, JobsAscend}
use Rattle.pot_replies.specs.Moves.{BeganNoMove, BeginsMove, BeganElsewhere, moving_at}
use Rattle.pot_shared.specs.Works.{Known, IsSettingOf, section_of}
use Rattle.pot_commands.specs.declared.beginning.Task.{Task}
use Rattle.pot_commands.specs.declared.beginning.Task.TheVariants as task
use Rattle.pot_commands.specs.Arriving.{HasBegun, IsUnbegun}
use Rattle.pot_shared.specs.Going.{AllOnlyWriters, AllStay, AllExtend}
use Rattle.pot_commands.specs.Steps.{IsStill}

-- what the job of a line can have to do: a `migrate` goes on with a move of a column that there is,
-- or has its reply
abbrev pub HasTask : Rack → Command → Task → Type 0
HasTask rack c task.Line = IsStill rack.groups c
HasTask rack (commands.Migrate from to) (task.Move at) =
    (at.group < rack.groups) × (at.column < rack.columns + rack.parity)
HasTask rack (commands.Migrate from to) (task.Told reply) = Unit {0}
HasTask rack c _ = ⊥

-- the lines have these tasks, one each
pub record HaveTasks (rack : Rack) (lines : List Command) (tasks : List Task) : Type 0 where
  pub count : length tasks ≡ length lines
  pub each : (i : ℕ) (c : Command) (t : Task) → slice_get lines i ≡ Some c
      → slice_get tasks i ≡ Some t → HasTask rack c t

-- ONE LINE, by what was logged from its check on to its beginning

-- a `migrate` began its move or found it begun, or has its reply; any other line logged nothing
abbrev pub LineBegins : Setting → ℕ → Command → Task → Section → Type 0
LineBegins s job c task.Line w = IsSilent (mine job w)
LineBegins s job (commands.Migrate from to) (task.Move at) w =
    HasBegun s job from to at.group at.column w
LineBegins s job (commands.Migrate from to) (task.Told reply) w =
    IsUnbegun s w.before from to reply × IsSilent (mine job w)
LineBegins s job c _ w = ⊥

-- THE LINES OF A BATCH, over the logs before it and the moves that it began

-- Each line was checked over the logs with the moves that earlier lines began. The column of a move
-- that began, or stood, moves when all have begun.
abbrev pub IsBegun : Setting → (ℕ → List Entry) → (ℕ → List Entry) → ℕ → Command → Task → Type 0
IsBegun s before begun job c task.Line = (g : ℕ) → own job (begun g) ≡ []
IsBegun s before begun job (commands.Migrate from to) (task.Move at) =
    BeginsMove s before begun job from to at.group at.column
    × BeganElsewhere s before begun job from to at.group
    × IsSome (moving_at s (λ g. before g ++ begun g) at.group at.column)
IsBegun s before begun job (commands.Migrate from to) (task.Told reply) =
    IsUnbegun s (checked before begun job) from to reply × BeganNoMove s before begun job from to
IsBegun s before begun job c _ = ⊥

-- The first lines have these tasks, and all that was added are the moves that they began, in order.
pub record HaveBegun (s : Setting) (from : ℕ) (lines : List Command) (tasks : List Task)
    (w : Section) : Type 0 where
  pub none_index : w.index_added ≡ []
  pub its : IsOfJobs from (length tasks) w
  pub begins : (g : ℕ) → EachIs is_move_begin (w.added g)
  pub in_order : (g : ℕ) → JobsAscend (w.added g)
  pub each : (i : ℕ) (c : Command) (t : Task) → slice_get lines i ≡ Some c
      → slice_get tasks i ≡ Some t → IsBegun s w.before w.added (from + i) c t

-- so it was between two moments, if nobody else logged anything meanwhile
pub record AreMovesBegun (rack : Rack) (from : ℕ) (lines : List Command) (tasks : List Task)
    (old new : Known) : Type 0 where
  pub few : length tasks ≤ length lines
  pub went : AllExtend old new
  pub stays : AllStay old new
  pub begun : AllOnlyWriters old new → (s : Setting) → IsSettingOf s rack old
      → HaveBegun s from lines tasks (section_of old new)
