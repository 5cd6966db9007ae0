-- The commands of a script: the words of their lines, and what stands in these.
use Rattle.std.specs.Prelude.{◌≤◌, ◌<◌, ◌++◌, ℕ, List, [], ◌∷◌, length, codes, decimal}
use Rattle.std.specs.List.{join_with_byte}
use Rattle.pot_bytes.specs.Names.{IsName}
use Rattle.pot_bytes.specs.declared.rack.Geometry.{Geometry}
use Rattle.pot_bytes.specs.declared.rack.Rack.{Rack}
use Rattle.pot_index.specs.Fits.{FitsGeometry}
use Rattle.pot_script.specs.declared.command.Command.{Command}
use Rattle.pot_script.specs.declared.command.Command.TheVariants as commands
use Rattle.pot_script.specs.Kinds.{keyword, kind_of}

-- the most bytes of a script, and of a file
abbrev pub most_bytes : ℕ
most_bytes = 67108864

-- the words of a geometry: fragments, threshold, shards, blur
abbrev pub geometry_words : Geometry → List (List ℕ)
geometry_words g = decimal g.fragments ∷ decimal g.need ∷ decimal g.shards ∷ decimal g.blur ∷ []

-- the words of a command's line after the first, which tells the kind
abbrev pub arguments : Command → List (List ℕ)
arguments (commands.Store name file) = name ∷ decimal (length file) ∷ []
arguments (commands.Fetch name) = name ∷ []
arguments commands.List = []
arguments commands.Status = []
arguments (commands.Scrub group) = decimal group ∷ []
arguments (commands.Repair group) = decimal group ∷ []
arguments (commands.Replace from to) = decimal from ∷ decimal to ∷ []
arguments (commands.Migrate from to) = decimal from ∷ decimal to ∷ []
arguments (commands.Together count) = decimal count ∷ []
arguments commands.End = []
arguments (commands.Renew name geometry) = name ∷ geometry_words geometry
arguments commands.Quit = []

-- the rack has a group of this number, which is a byte
abbrev pub IsGroupNumber : Rack → ℕ → Type 0
IsGroupNumber rack group = (group < rack.groups) × (group ≤ 255)

-- the numbers of a command are within their limits
abbrev pub IsCommand : Rack → Command → Type 0
IsCommand rack (commands.Store name file) = IsName name × (length file ≤ most_bytes)
IsCommand rack (commands.Fetch name) = IsName name
IsCommand rack commands.List = Unit {0}
IsCommand rack commands.Status = Unit {0}
IsCommand rack (commands.Scrub group) = IsGroupNumber rack group
IsCommand rack (commands.Repair group) = IsGroupNumber rack group
IsCommand rack (commands.Replace from to) = (from ≤ 511) × (to ≤ 511)
IsCommand rack (commands.Migrate from to) = (from ≤ 511) × (to ≤ 511)
IsCommand rack (commands.Together count) = (1 ≤ count) × (count ≤ 1024)
IsCommand rack commands.End = Unit {0}
IsCommand rack (commands.Renew name geometry) = IsName name × FitsGeometry rack geometry
IsCommand rack commands.Quit = Unit {0}

-- The line of a command, without its LF (10). One space (32) stands between two words.
abbrev pub command_line : Command → List ℕ
command_line c = join_with_byte 32 (keyword (kind_of c) ∷ arguments c)

-- What follows the LF of a command's line: the bytes of the file and one LF, or nothing. It counts
-- as no line.
abbrev pub stated_bytes : Command → List ℕ
stated_bytes (commands.Store name file) = file ++ codes "\n"
stated_bytes _ = []

abbrev pub command_text : Command → List ℕ
command_text c = command_line c ++ codes "\n" ++ stated_bytes c
