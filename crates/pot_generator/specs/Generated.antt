-- The script of a number: 24 files are stored, an archive is replaced, each file is fetched in a
-- batch, a group is repaired, and each file is fetched again.
use Rattle.std.specs.Prelude.{ℕ, ◌+◌, ◌*◌, ◌%◌, ◌++◌, List, [], ◌∷◌, map, codes, decimal}
use Rattle.std.specs.List.{range_with_len}
use Rattle.pot_script.specs.declared.command.Command.{Command}
use Rattle.pot_script.specs.declared.command.Command.TheVariants as commands

-- how many files there are; they are numbered from 0 on
abbrev pub files : ℕ
files = 24

-- 1,000 times the number and 777 times its own, modulo 4,001, is how many bytes a file has
abbrev pub length_of : ℕ → ℕ → ℕ
length_of number place = (1000 * number + 777 * place) % 4001

-- its byte at a place: 31 times the place, 17 times its own number, and the number, modulo 256
abbrev pub byte_of : ℕ → ℕ → ℕ → ℕ
byte_of number place at = (31 * at + 17 * place + number) % 256

abbrev pub file_of : ℕ → ℕ → List ℕ
file_of number place = map (byte_of number place) (range_with_len 0 (length_of number place))

-- its name: `f`, and its own number in decimal
abbrev pub name_of : ℕ → List ℕ
name_of place = codes "f" ++ decimal place

-- a store of each of the first files, and a fetch
abbrev pub first_stores : ℕ → ℕ → List Command
first_stores number n =
    map (λ place. commands.Store (name_of place) (file_of number place)) (range_with_len 0 n)

abbrev pub first_fetches : ℕ → List Command
first_fetches n = map (λ place. commands.Fetch (name_of place)) (range_with_len 0 n)

abbrev pub stores : ℕ → List Command
stores number = first_stores number files

abbrev pub fetches : List Command
fetches = first_fetches files

-- what stands behind the stores, and behind the batch
abbrev pub batch : List Command
batch = commands.Replace 0 16 ∷ commands.Together files ∷ fetches ++ commands.End ∷ []

abbrev pub rest : List Command
rest = commands.Repair 0 ∷ fetches ++ commands.List ∷ commands.Status ∷ []

-- the commands before `quit`
abbrev pub steps_of : ℕ → List Command
steps_of number = stores number ++ batch ++ rest

-- the commands of the script
abbrev pub generated : ℕ → List Command
generated number = steps_of number ++ commands.Quit ∷ []
