-- What the reading of a script answers.
use Rattle.std.specs.Prelude.{◌≡◌, ℕ, List, Result, Ok, Err, Vec}
use Rattle.std.specs.Global.{Global}
use Rattle.pot_script.specs.declared.command.Command.{Command}
use Rattle.pot_script.specs.declared.fault.ScriptFault.{ScriptFault}
use Rattle.pot_script.specs.declared.fault.ScriptFault.TheVariants.{BadLine, NoMemory}

-- the fact holds of the number of the line, if the fault is one of a line
abbrev pub IfBadLine : (ℕ → Type 0) → ScriptFault → Type 0
IfBadLine P (BadLine number) = P number
IfBadLine P NoMemory = Unit {0}

-- the answer is these commands, unless memory ran out
abbrev pub ReadsAs : Result (Vec Command Global) ScriptFault → List Command → Type 0
ReadsAs (Ok commands) script = commands.items ≡ script
ReadsAs (Err (BadLine number)) script = ⊥
ReadsAs (Err NoMemory) script = Unit {0}

-- the answer is this line, unless memory ran out
abbrev pub RefusesAt : Result (Vec Command Global) ScriptFault → ℕ → Type 0
RefusesAt (Ok commands) line = ⊥
RefusesAt (Err (BadLine number)) line = number ≡ line
RefusesAt (Err NoMemory) line = Unit {0}
