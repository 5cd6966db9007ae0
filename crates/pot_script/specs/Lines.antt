-- What the reading of a line answers.
use Rattle.std.specs.Prelude.{◌≡◌, ◌≢◌, ◌++◌, ◌∷◌, ℕ, List, Option, All, MatchOption}
use Rattle.pot_bytes.specs.declared.rack.Rack.{Rack}
use Rattle.pot_script.specs.declared.command.Command.{Command}
use Rattle.pot_script.specs.declared.command.Command.TheVariants.{Store}
use Rattle.pot_script.specs.declared.kind.Kind.{Kind}
use Rattle.pot_script.specs.declared.spelled.Spelled.{Spelled}
use Rattle.pot_script.specs.declared.spelled.Spelled.TheVariants as spelled
use Rattle.pot_script.specs.Kinds.{kind_of}
use Rattle.pot_script.specs.Commands.{IsCommand, arguments}

-- the bytes are cut at the first of this byte
pub record Cuts (bytes : List ℕ) (byte : ℕ) (front back : List ℕ) : Type 0 where
  pub whole : bytes ≡ front ++ byte ∷ back
  pub first : All (λ b. b ≢ byte) front

-- these words stand after the first word of this command's line, which is of this kind
pub record IsLineOf (rack : Rack) (kind : Kind) (words : List (List ℕ)) (c : Command) : Type 0 where
  pub kind_is : kind_of c ≡ kind
  pub is : IsCommand rack c
  pub words_are : words ≡ arguments c

-- the command of a line of this kind that has these words after the first; None exactly where there
-- is no such command
abbrev pub ReadsLine : Rack → Kind → List (List ℕ) → Option Command → Type 0
ReadsLine rack kind words result =
    MatchOption result ((c : Command) → IsLineOf rack kind words c → ⊥) (IsLineOf rack kind words)

-- the command whose file stands in the script
abbrev pub command_of : Spelled → Command
command_of (spelled.Store name file) = Store name file.now
command_of (spelled.Whole command) = command
