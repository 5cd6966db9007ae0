-- Which line may stand where: outside a batch, or in one that has a number of jobs still to come.
use Rattle.std.specs.Prelude.{◌≡◌, ◌-◌, ◌==◌, ◌++◌, ◌∷◌, List, length, ℕ, Bool, true, false, Option}
use Rattle.std.specs.Prelude.{Some, None, not, if◌then◌else◌}
use Rattle.std.specs.List.{AllByRecursion}
use Rattle.pot_script.specs.Kinds.{kind_of}
use Rattle.pot_script.specs.declared.command.Command.{Command}
use Rattle.pot_script.specs.declared.command.Command.TheVariants as commands
use Rattle.pot_script.specs.declared.kind.Kind.{Kind}
use Rattle.pot_script.specs.declared.kind.Kind.TheVariants as kinds

-- a job that may be worked together with others
abbrev pub is_job : Kind → Bool
is_job kinds.Store = true
is_job kinds.Fetch = true
is_job kinds.Scrub = true
is_job kinds.Repair = true
is_job kinds.Migrate = true
is_job kinds.Renew = true
is_job _ = false

abbrev pub is_end : Kind → Bool
is_end kinds.End = true
is_end _ = false

-- outside a batch any line but `end`; in a batch its jobs, and behind the last of them `end`
abbrev pub may_stand : Option ℕ → Kind → Bool
may_stand None kind = not (is_end kind)
may_stand (Some left) kind = if left == 0 then is_end kind else is_job kind

-- where the line after a command stands
abbrev pub after_command : Option ℕ → Command → Option ℕ
after_command None (commands.Together count) = Some count
after_command None _ = None
after_command (Some left) commands.End = None
after_command (Some left) _ = Some (left - 1)

-- so many jobs stand at the front of these commands, and then `end`
pub record StartsBatch (count : ℕ) (after : List Command) : Type 0 where
  pub jobs : List Command
  pub rest : List Command
  pub many : length jobs ≡ count
  pub each : AllByRecursion (λ c. is_job (kind_of c) ≡ true) jobs
  pub whole : after ≡ jobs ++ commands.End ∷ rest
