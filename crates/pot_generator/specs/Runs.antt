-- Over what the script of a number is run.
use Rattle.std.specs.Prelude.{ℕ, ◌++◌, List, Bool, true, false, replicate}
use Rattle.std.specs.Int.{to_be_bytes, w64}
use Rattle.pot_bytes.specs.declared.rack.Rack.{Rack}
use Rattle.pot_script.specs.declared.command.Command.{Command}
use Rattle.pot_script.specs.declared.command.Command.TheVariants as commands

-- the rack of each run
abbrev pub rack_of_runs : Rack
rack_of_runs = record {
  groups = 4;
  columns = 3;
  parity = 1;
  stripes = 256;
  geometry = record { fragments = 2; need = 2; shards = 3; blur = 16 };
}

-- how many workers it has
abbrev pub workers_of_runs : ℕ
workers_of_runs = 4

-- the seed of its random bytes: 24 zeros, and then the number in 8 bytes, the highest first
abbrev pub seed_of : ℕ → List ℕ
seed_of number = replicate 24 0 ++ to_be_bytes w64 number

-- whether a command is replied to by itself: each but those around a batch, and `quit`
abbrev pub is_replied : Command → Bool
is_replied (commands.Together count) = false
is_replied commands.End = false
is_replied commands.Quit = false
is_replied _ = true
