-- What a session works as one: a command alone, or the jobs of a batch.
use Rattle.std.specs.Prelude.{◌≡◌, ◌<◌, ◌≤◌, ◌++◌, Bool, true, false, List, [], ◌∷◌, length}
use Rattle.std.specs.List.{AllByRecursion}
use Rattle.pot_bytes.specs.declared.rack.Rack.{Rack}
use Rattle.pot_script.specs.declared.command.Command.{Command}
use Rattle.pot_script.specs.declared.command.Command.TheVariants as commands
use Rattle.pot_script.specs.declared.grouping.Step.{Step}
use Rattle.pot_script.specs.declared.grouping.Step.TheVariants as steps
use Rattle.pot_script.specs.declared.kind.Kind.{Kind}
use Rattle.pot_script.specs.declared.kind.Kind.TheVariants as kinds
use Rattle.pot_script.specs.Batches.{is_job}
use Rattle.pot_script.specs.Kinds.{kind_of}
use Rattle.pot_script.specs.Commands.{IsCommand}

-- the commands of a step as a script has them
abbrev pub spread : Step → List Command
spread (steps.One c) = c ∷ []
spread (steps.Together lines) = commands.Together (length lines) ∷ (lines ++ commands.End ∷ [])

-- a line that neither begins nor ends a batch or a script
abbrev pub stands_alone : Kind → Bool
stands_alone kinds.Together = false
stands_alone kinds.End = false
stands_alone kinds.Quit = false
stands_alone _ = true

-- a job of a batch, of the grammar
abbrev pub IsJobLine : Rack → Command → Type 0
IsJobLine rack c = (is_job (kind_of c) ≡ true) × IsCommand rack c

-- a step of the rack's grammar: a command that stands alone, or 1 to 1,024 jobs
abbrev pub IsWholeStep : Rack → Step → Type 0
IsWholeStep rack (steps.One c) = (stands_alone (kind_of c) ≡ true) × IsCommand rack c
IsWholeStep rack (steps.Together lines) =
    (0 < length lines) × (length lines ≤ 1024) × AllByRecursion (IsJobLine rack) lines
