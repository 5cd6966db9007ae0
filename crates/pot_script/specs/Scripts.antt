-- The script: commands one after another, each spelled in one way, up to `quit`.
use Rattle.std.specs.Prelude.{◌≡◌, ◌≢◌, ◌+◌, ◌<◌, ◌≤◌, ◌++◌, ◌∷◌, ℕ, true, List, [], Option, None}
use Rattle.std.specs.Prelude.{length, flat_map}
use Rattle.pot_bytes.specs.declared.rack.Rack.{Rack}
use Rattle.pot_script.specs.declared.command.Command.{Command}
use Rattle.pot_script.specs.declared.command.Command.TheVariants.{Quit}
use Rattle.pot_script.specs.Kinds.{kind_of}
use Rattle.pot_script.specs.Commands.{IsCommand, command_text, most_bytes}
use Rattle.pot_script.specs.Batches.{may_stand, after_command}

-- the text of commands, one after another
abbrev pub script_text : List Command → List ℕ
script_text commands = flat_map command_text commands

-- a command of the grammar that may stand here, and does not end the script
pub record IsStep (rack : Rack) (batch : Option ℕ) (c : Command) : Type 0 where
  pub is : IsCommand rack c
  pub stands : may_stand batch (kind_of c) ≡ true
  pub goes_on : c ≢ Quit

-- commands of the grammar, each of which may stand where it does, and none of which ends the script
abbrev pub AreSteps : Rack → Option ℕ → List Command → Type 0
AreSteps rack batch [] = Unit {0}
AreSteps rack batch (c ∷ cs) = IsStep rack batch c × AreSteps rack (after_command batch c) cs

-- where the line after these commands stands
abbrev pub after_commands : Option ℕ → List Command → Option ℕ
after_commands batch [] = batch
after_commands batch (c ∷ cs) = after_commands (after_command batch c) cs

-- The bytes are the script of these commands: `quit` is the last, outside a batch, and nothing
-- stands after it.
pub record IsScript (rack : Rack) (bytes : List ℕ) (commands : List Command) : Type 0 where
  pub short : length bytes ≤ most_bytes
  pub steps : List Command
  pub each : AreSteps rack None steps
  pub closed : after_commands None steps ≡ None
  pub ended : commands ≡ steps ++ Quit ∷ []
  pub spelled : bytes ≡ script_text commands

-- no command that may stand here stands at the front of the bytes
abbrev pub NoCommandAt : Rack → Option ℕ → List ℕ → Type 0
NoCommandAt rack batch bytes =
    (c : Command) (after : List ℕ) → IsCommand rack c → may_stand batch (kind_of c) ≡ true
    → bytes ≢ command_text c ++ after

-- commands stand before the line of this number, and none that may stand there stands at it
pub record BreaksAtLine (rack : Rack) (bytes : List ℕ) (number : ℕ) : Type 0 where
  pub steps : List Command
  pub each : AreSteps rack None steps
  pub rest : List ℕ
  pub spelled : bytes ≡ script_text steps ++ rest
  pub broken : NoCommandAt rack (after_commands None steps) rest
  pub counted : number ≡ length steps + 1

-- the line before the line of this number is `quit`, outside a batch, and bytes stand after it
pub record GoesOnAt (rack : Rack) (bytes : List ℕ) (number : ℕ) : Type 0 where
  pub steps : List Command
  pub each : AreSteps rack None steps
  pub closed : after_commands None steps ≡ None
  pub rest : List ℕ
  pub spelled : bytes ≡ script_text steps ++ command_text Quit ++ rest
  pub some : 0 < length rest
  pub counted : number ≡ length steps + 2

-- The first line that leaves the grammar has this number, from 1 on. A script that is too long
-- leaves it at 0.
pub data LeavesAtLine (rack : Rack) (bytes : List ℕ) (number : ℕ) : Type 0 where
  TooLong : most_bytes < length bytes → number ≡ 0 → LeavesAtLine rack bytes number
  Breaks : length bytes ≤ most_bytes → BreaksAtLine rack bytes number → LeavesAtLine rack bytes number
  GoesOn : length bytes ≤ most_bytes → GoesOnAt rack bytes number → LeavesAtLine rack bytes number
