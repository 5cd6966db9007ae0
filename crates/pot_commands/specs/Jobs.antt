-- A line of a batch as a job: what it has, what it is given, and what its work leaves of it.
use Rattle.std.specs.Prelude.{◌≡◌, ◌<◌, ◌^◌, ◌*◌, ◌&&◌, ◌∷◌, ◌++◌, ℕ, suc, Bool, true, false, List}
use Rattle.std.specs.Prelude.{[]}
use Rattle.std.specs.Prelude.{Option, Some, None, Result, Ok, Err, IsSome, length, map}
use Rattle.pot_bytes.specs.declared.memory.NoMemory.{NoMemory}
use Rattle.pot_rows.specs.Rows.{HasMoreParts}
use Rattle.pot_rows.specs.Parts.{RowCut, RowNew, RowJoined}
use Rattle.pot_script.specs.declared.command.Command.{Command}
use Rattle.pot_script.specs.declared.command.Command.TheVariants as commands
use Rattle.pot_script.specs.declared.reply.Reply.{Reply}
use Rattle.pot_mend.specs.Moves.{MoveRow}
use Rattle.pot_mend.specs.declared.fault.MendFault.{MendFault}
use Rattle.pot_mend.specs.declared.checking.MoveAt.{MoveAt}
use Rattle.pot_replies.specs.Settings.{Setting}
use Rattle.pot_replies.specs.Sections.{Section, mine, IsSilent}
use Rattle.pot_shared.specs.Works.{Known, JobWroteOnly, JobOnlyWriter, section_of}
use Rattle.pot_commands.specs.declared.beginning.Task.{Task}
use Rattle.pot_commands.specs.declared.beginning.Task.TheVariants as task
use Rattle.pot_commands.specs.Arriving.{move_reply}
use Rattle.pot_commands.specs.Begun.{HasTask}
use Rattle.pot_commands.specs.Blinding.{HasBlinds}
use Rattle.pot_commands.specs.Rows.{IsSessionSetting, AreReplies, IsIdleCommand}
use Rattle.pot_shared.specs.Callers.{CanCall}
use Rattle.pot_shared.specs.Vaults.{VaultView}
use Rattle.pot_commands.specs.Sharing.{Common}

-- a job: what its passes know, its line with its number and its task, and its answer once it is
-- done
pub record JobView : Type 0 where
  pub common : Common
  pub passes : Known
  pub job : ℕ
  pub line : Command
  pub task : Task
  pub answer : Option (Result Reply NoMemory)

abbrev pub job_view : Common → Known → ℕ → Command → Task → Option (Result Reply NoMemory) → JobView
job_view b passes job line task answer =
    record { common = b; passes = passes; job = job; line = line; task = task; answer = answer }

-- a job of this vault whose passes can call
abbrev pub HasPasses : VaultView → JobView → Type 0
HasPasses v j = (j.common.vault ≡ v) × CanCall v j.passes

-- what a line needs to be worked
pub record CanBegin (j : JobView) : Type 0 where
  pub passes : CanCall j.common.vault j.passes
  pub parts : HasMoreParts 1 j.passes.groups
  pub number : (0 < j.job) × (j.job < 2 ^ 31)
  pub fits : HasTask j.common.vault.rack j.line j.task

-- a job that is not done can be worked
abbrev pub CanWork : JobView → Type 0
CanWork j = j.answer ≡ None → CanBegin j

abbrev pub IsJobDone : JobView → Type 0
IsJobDone j = IsSome j.answer

-- what is told of a section by the answer of a line that moves nothing, which is its reply or that
-- memory ran out
abbrev pub SaysStill : Setting → ℕ → Command → Option (Result Reply NoMemory) → Section → Type 0
SaysStill s job c None w = ⊥
SaysStill s job c (Some (Ok reply)) w = AreReplies s job c (reply ∷ []) w
SaysStill s job c (Some (Err e)) w = IsIdleCommand s job c w

-- of a `migrate` whose column moves: how far the move came, which is its reply
abbrev pub SaysMove : Setting → ℕ → Command → MoveAt → Option (Result Reply NoMemory) → Section
    → Type 0
SaysMove s job (commands.Migrate from to) at (Some (Ok reply)) w =
    (result : Result ℕ MendFault) × (reply ≡ move_reply from to result)
    × MoveRow s job at.group at.column result w
SaysMove s job c at _ w = ⊥

-- of a line by its task; one that has its reply logs nothing
abbrev pub Says : Setting → ℕ → Command → Task → Option (Result Reply NoMemory) → Section → Type 0
Says s job c task.Line answer w = SaysStill s job c answer w
Says s job c (task.Move at) answer w = SaysMove s job c at answer w
Says s job c (task.Told reply) answer w = (answer ≡ Some (Ok reply)) × IsSilent (mine job w)

-- The job that was handed in, and what its work leaves of it: it worked for itself alone, and its
-- entries give its answer, if nobody else logged an entry of it. Each relay that it began has its
-- blind of the job's stream.
pub record Did (j k : JobView) : Type 0 where
  pub common : k.common ≡ j.common
  pub number : k.job ≡ j.job
  pub line : k.line ≡ j.line
  pub passes : CanCall k.common.vault k.passes
  pub worked : JobWroteOnly j.job j.passes k.passes
  pub says : JobOnlyWriter j.job j.passes k.passes → (s : Setting)
      → IsSessionSetting s j.common.vault.rack j.common.seed j.common.session j.passes
      → Says s j.job j.line j.task k.answer (section_of j.passes k.passes)
  pub blinds : HasBlinds j.common j.job j.line j.passes.groups k.passes.groups

-- SHARED OUT

-- the job of a line that was not begun, with new passes of two parts, which know what these know
pub record IsJobGiven (b : Common) (start : Known) (job : ℕ) (c : Command) (j : JobView) : Type 0 where
  pub common : j.common ≡ b
  pub number : j.job ≡ job
  pub line : j.line ≡ c
  pub fits : HasTask b.vault.rack c j.task
  pub answer : j.answer ≡ None
  pub passes : CanCall b.vault j.passes
  pub groups : RowNew 2 start.groups j.passes.groups
  pub index : RowNew 2 start.index j.passes.index

-- one for each line, in order, numbered from this one on
abbrev pub AreGiven : Common → Known → ℕ → List Command → List JobView → Type 0
AreGiven b start from [] [] = Unit {0}
AreGiven b start from (c ∷ cs) (j ∷ js) =
    IsJobGiven b start from c j × AreGiven b start (suc from) cs js
AreGiven b start from _ _ = ⊥

-- The lines were shared out to these jobs, which took their parts from the passes.
pub record AreShared (b : Common) (old : Known) (from : ℕ) (lines : List Command)
    (js : List JobView)
    (new : Known) : Type 0 where
  pub given : AreGiven b old from lines js
  pub groups : RowCut (2 * length js) old.groups new.groups
  pub index : RowCut (2 * length js) old.index new.index

-- the tasks of jobs
abbrev pub tasks_in : List JobView → List Task
tasks_in js = map (λ j. j.task) js

-- TAKEN BACK

-- the passes took in those of the jobs, in order
abbrev pub AllJoined : Known → List JobView → Known → Type 0
AllJoined old [] new = new ≡ old
AllJoined old (j ∷ js) new =
    (mid : Known) × RowJoined old.groups j.passes.groups mid.groups
    × RowJoined old.index j.passes.index mid.index × AllJoined mid js new

abbrev pub reply_in : Option (Result Reply NoMemory) → List Reply
reply_in (Some (Ok reply)) = reply ∷ []
reply_in _ = []

abbrev pub has_reply : Option (Result Reply NoMemory) → Bool
has_reply (Some (Ok reply)) = true
has_reply _ = false

-- the replies of jobs, and whether each has one
abbrev pub replies_in : List JobView → List Reply
replies_in [] = []
replies_in (j ∷ js) = reply_in j.answer ++ replies_in js

abbrev pub all_replied : List JobView → Bool
all_replied [] = true
all_replied (j ∷ js) = has_reply j.answer && all_replied js
