-- Which reply and which job a command has, by its place in the script.
use Rattle.std.specs.Prelude.{◌≡◌, ◌+◌, ℕ, zero, suc, List, [], ◌∷◌, Some, length, slice_get, take}
use Rattle.pot_bytes.specs.declared.rack.Rack.{Rack}
use Rattle.pot_script.specs.declared.command.Command.{Command}
use Rattle.pot_script.specs.declared.command.Command.TheVariants as commands
use Rattle.pot_script.specs.declared.grouping.Step.{Step}
use Rattle.pot_script.specs.declared.grouping.Step.TheVariants as steps
use Rattle.pot_script.specs.declared.reply.Reply.{Reply}
use Rattle.pot_commands.specs.Ends.{next_job}

-- how many replies a command has that stands alone: `status` one for each group, and each other
-- command one
abbrev pub count_replies : Rack → Command → ℕ
count_replies rack commands.Status = rack.groups
count_replies rack _ = 1

-- how many a step has: each line of a batch has one
abbrev pub count_in : Rack → Step → ℕ
count_in rack (steps.One c) = count_replies rack c
count_in rack (steps.Together lines) = length lines

-- Where the replies to the step of a place begin among the replies to all of these steps.
abbrev pub reply_place : Rack → List Step → ℕ → ℕ
reply_place rack [] k = 0
reply_place rack (d ∷ ss) zero = 0
reply_place rack (d ∷ ss) (suc k) = count_in rack d + reply_place rack ss k

-- the command stands at this place of the step: one alone at the first, and a line of a batch at
-- its own
abbrev pub CommandStandsAt : Step → ℕ → Command → Type 0
CommandStandsAt (steps.One d) i c = (i ≡ 0) × (d ≡ c)
CommandStandsAt (steps.Together lines) i c = slice_get lines i ≡ Some c

-- The step of one place has this command at another, and that command's first reply is this one.
pub record IsAnswered (rack : Rack) (ss : List Step) (rs : List Reply) (k i : ℕ) (c : Command)
    (r : Reply) : Type 0 where
  pub step : Step
  pub there : slice_get ss k ≡ Some step
  pub command : CommandStandsAt step i c
  pub reply : slice_get rs (reply_place rack ss k + i) ≡ Some r

-- The number of the job of the command at a place of a step: the jobs of a session are numbered
-- from 1, one for each command alone and each line of a batch.
abbrev pub job_at : List Step → ℕ → ℕ → ℕ
job_at ss k i = next_job (take k ss) + i
