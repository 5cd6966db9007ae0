-- A batch: its lines are worked at once, each as a job with passes of its own, and the passes are
-- joined in the order of the lines.
use Rattle.std.specs.Prelude.{◌≡◌, ◌⊎◌, ◌&&◌, ◌∷◌, ◌++◌, ℕ, suc, Bool, true, List, [], Option}
use Rattle.std.specs.Prelude.{Result, length, map}
use Rattle.pot_bytes.specs.declared.rack.Rack.{Rack}
use Rattle.pot_bytes.specs.declared.memory.NoMemory.{NoMemory}
use Rattle.pot_script.specs.declared.command.Command.{Command}
use Rattle.pot_script.specs.declared.reply.Reply.{Reply}
use Rattle.pot_rows.specs.Rows.{PassRow, view_at}
use Rattle.pot_rows.specs.Works.{CarriedRow, RowJoins}
use Rattle.pot_index.specs.declared.entry.Logged as of_index
use Rattle.pot_group.specs.Arrivals.{arrivals}
use Rattle.pot_shared.specs.declared.catalog.CatalogOrigin.{CatalogOrigin}
use Rattle.pot_shared.specs.declared.member.Logged.{Logged}
use Rattle.pot_shared.specs.declared.member.GroupOrigin.{GroupOrigin}
use Rattle.pot_replies.specs.Settings.{Setting}
use Rattle.pot_replies.specs.Sections.{Section, MovesThenRest, FollowsSection, IsOfJobs, Widens}
use Rattle.pot_replies.specs.Sessions.{Rows}
use Rattle.pot_shared.specs.Works.{Known, JobWroteOnly, JobOnlyWriter, section_of, gained}
use Rattle.pot_commands.specs.declared.beginning.Task.{Task}
use Rattle.pot_commands.specs.Rows.{IsSessionSetting, Row}
use Rattle.pot_commands.specs.Begun.{HasTask, HaveBegun}
use Rattle.pot_shared.specs.Going.{AllOnlyWriters}
use Rattle.pot_commands.specs.Steps.{AreLinesLeft}
use Rattle.pot_commands.specs.Jobs.{Says, reply_in, has_reply}

-- a job of a batch: its number, its line, its task and its answer, what the passes that it was
-- given knew, and what they knew when it was done
pub record Line : Type 0 where
  pub job : ℕ
  pub line : Command
  pub task : Task
  pub answer : Option (Result Reply NoMemory)
  pub given : Known
  pub done : Known

-- what a job had of the groups, and of the index
abbrev pub group_rows : Line → CarriedRow Logged GroupOrigin
group_rows c = record { job = c.job; given = c.given.groups; done = c.done.groups }

abbrev pub index_rows : Line → CarriedRow of_index.Logged CatalogOrigin
index_rows c = record { job = c.job; given = c.given.index; done = c.done.index }

-- the passes of the jobs are joined into these, in order
pub record KnownJoins (v : Known) (cs : List Line) (x : Known) : Type 0 where
  pub groups : RowJoins v.groups (map group_rows cs) x.groups
  pub index : RowJoins v.index (map index_rows cs) x.index

-- a row of passes was given that have seen what these have, and have logged nothing
abbrev pub IsGivenOf : {E O : Type 0} → PassRow E O → PassRow E O → Type 0
IsGivenOf start given =
    (at : ℕ) → ((view_at given at).seen ≡ (view_at start at).seen)
    × ((view_at given at).turns ≡ []) × ((view_at given at).joined ≡ [])

-- The job was given passes that have seen what the batch began with and have logged nothing, of the
-- same turns and values, and worked for itself alone.
pub record IsLine (start : Known) (c : Line) : Type 0 where
  pub groups : IsGivenOf start.groups c.given.groups
  pub index : IsGivenOf start.index c.given.index
  pub names : c.given.groups.names ≡ start.groups.names
  pub origin : (at : ℕ) → (view_at c.given.groups at).origin ≡ (view_at start.groups at).origin
  pub index_origin : (at : ℕ) → (view_at c.given.index at).origin ≡ (view_at start.index at).origin
  pub worked : JobWroteOnly c.job c.given c.done

-- each job so, their numbers from this one on
abbrev pub AreLines : Known → ℕ → List Line → Type 0
AreLines start from [] = Unit {0}
AreLines start from (c ∷ cs) = (c.job ≡ from) × IsLine start c × AreLines start (suc from) cs

-- the line can have its task, and the job's entries give its answer, if nobody else logged an entry
-- of it
abbrev pub SaysIts : Rack → List ℕ → ℕ → Line → Type 0
SaysIts rack seed session c =
    HasTask rack c.line c.task
    × (JobOnlyWriter c.job c.given c.done → (s : Setting) → IsSessionSetting s rack seed session c.given
    → Says s c.job c.line c.task c.answer (section_of c.given c.done))

abbrev pub AllSay : Rack → List ℕ → ℕ → List Line → Type 0
AllSay rack seed session [] = Unit {0}
AllSay rack seed session (c ∷ cs) = SaysIts rack seed session c × AllSay rack seed session cs

abbrev pub IsAmongLines : Line → List Line → Type 0
IsAmongLines c [] = ⊥
IsAmongLines c (d ∷ ds) = (d ≡ c) ⊎ IsAmongLines c ds

-- the lines, their tasks, their replies, and whether each has one
abbrev pub lines_of : List Line → List Command
lines_of cs = map (λ c. c.line) cs

abbrev pub tasks_of : List Line → List Task
tasks_of cs = map (λ c. c.task) cs

abbrev pub replies_of : List Line → List Reply
replies_of [] = []
replies_of (c ∷ cs) = reply_in c.answer ++ replies_of cs

abbrev pub have_replies : List Line → Bool
have_replies [] = true
have_replies (c ∷ cs) = has_reply c.answer && have_replies cs

-- no archive came to a group, if nobody else logged anything
abbrev pub BringsNone : Known → Known → Type 0
BringsNone old new = AllOnlyWriters old new → (g : ℕ) → arrivals (gained old.groups new.groups g) ≡ []

-- LAWS

-- A job of a batch was alone, and the section of the batch is its own section with more entries of
-- others.
abbrev pub JobsWiden : Type 0
JobsWiden =
    (v x : Known) (from : ℕ) (cs : List Line) → AreLines v from cs → KnownJoins v cs x → AllOnlyWriters v x
    → (c : Line) → IsAmongLines c cs
    → JobOnlyWriter c.job c.given c.done × Widens c.job (section_of c.given c.done) (section_of v x)

-- an answer to a line of a batch stands when others log more
abbrev pub AnswersWiden : Type 0
AnswersWiden =
    (s : Setting) (rack : Rack) (job : ℕ) (c : Command) (t : Task)
    (answer : Option (Result Reply NoMemory)) (w w' : Section) → HasTask rack c t → Widens job w w'
    → Says s job c t answer w → Says s job c t answer w'

-- The moves that the lines began, and then what their jobs logged, are of the jobs alone; and where
-- each line has its reply, they have these by the section of both.
abbrev pub BatchGives : Type 0
BatchGives =
    (rack : Rack) (seed : List ℕ) (session : ℕ) (v x : Known) (from : ℕ) (cs : List Line)
    → AreLines v from cs → KnownJoins v cs x → AllSay rack seed session cs → have_replies cs ≡ true
    → AllOnlyWriters v x → (s : Setting) → IsSessionSetting s rack seed session v
    → (moves whole : Section) → HaveBegun s from (lines_of cs) (tasks_of cs) moves
    → FollowsSection moves (section_of v x) whole
    → IsOfJobs from (length (lines_of cs)) whole
    × ((h : MovesThenRest whole) × Rows (Row s) from (lines_of cs) (replies_of cs) whole h)

-- and where some line has none, they were left
abbrev pub BatchLeaves : Type 0
BatchLeaves =
    (rack : Rack) (seed : List ℕ) (session : ℕ) (v x : Known) (from : ℕ) (cs : List Line)
    → AreLines v from cs → KnownJoins v cs x → AllSay rack seed session cs
    → AllOnlyWriters v x → (s : Setting) → IsSessionSetting s rack seed session v
    → (moves whole : Section) → HaveBegun s from (lines_of cs) (tasks_of cs) moves
    → FollowsSection moves (section_of v x) whole
    → IsOfJobs from (length (lines_of cs)) whole
    × ((h : MovesThenRest whole) × AreLinesLeft s from (lines_of cs) whole h)
