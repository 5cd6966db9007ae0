-- The steps of a script that was read, and why there are none.
use Rattle.std.specs.Prelude.{◌≡◌, ◌<◌, ◌^◌, ◌++◌, ℕ, List, [], ◌∷◌, length, IsTrue}
use Rattle.std.specs.List.{AllByRecursion, flat_map}
use Rattle.pot_bytes.specs.declared.rack.Rack.{Rack}
use Rattle.pot_outside.specs.Accounts.{Transition}
use Rattle.pot_script.specs.declared.command.Command.TheVariants as command
use Rattle.pot_script.specs.declared.grouping.Step.{Step}
use Rattle.pot_script.specs.Scripts.{IsScript, LeavesAtLine}
use Rattle.pot_script.specs.Steps.{IsWholeStep, spread}
use Rattle.pot_session.specs.declared.ending.stop.Stop.{Stop}
use Rattle.pot_session.specs.declared.ending.stop.Stop.TheVariants as stop

-- These are the steps before `quit` of a script whose bytes the source had, where it tells them. It
-- has fewer than 2^31 lines.
pub record IsScriptRead (rack : Rack) (source : Transition (List ℕ)) (ss : List Step) : Type 0 where
  pub bytes : List ℕ
  pub read : IsTrue source.tells → source.before ≡ bytes
  pub script : IsScript rack bytes (flat_map spread ss ++ command.Quit ∷ [])
  pub few : length (flat_map spread ss) < 2 ^ 31
  pub goes_on : AllByRecursion (IsWholeStep rack) ss

-- why there are no steps
abbrev pub RefusesScript : Rack → Transition (List ℕ) → Stop → Type 0
RefusesScript rack source (stop.BadLine number) =
    IsTrue source.tells → LeavesAtLine rack source.before number
RefusesScript rack source stop.SourceFault = Unit {0}
RefusesScript rack source stop.NoMemory = Unit {0}
RefusesScript rack source _ = ⊥
