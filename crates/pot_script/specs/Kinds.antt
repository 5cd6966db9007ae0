-- The kinds of lines.
use Rattle.std.specs.Prelude.{ℕ, List, codes}
use Rattle.pot_script.specs.declared.command.Command.{Command}
use Rattle.pot_script.specs.declared.command.Command.TheVariants as commands
use Rattle.pot_script.specs.declared.kind.Kind.{Kind}
use Rattle.pot_script.specs.declared.kind.Kind.TheVariants as kinds

-- the first word of a line
abbrev pub keyword : Kind → List ℕ
keyword kinds.Store = codes "store"
keyword kinds.Fetch = codes "fetch"
keyword kinds.List = codes "list"
keyword kinds.Status = codes "status"
keyword kinds.Scrub = codes "scrub"
keyword kinds.Repair = codes "repair"
keyword kinds.Replace = codes "replace"
keyword kinds.Migrate = codes "migrate"
keyword kinds.Together = codes "together"
keyword kinds.End = codes "end"
keyword kinds.Renew = codes "renew"
keyword kinds.Quit = codes "quit"

-- the kind of a command's line
abbrev pub kind_of : Command → Kind
kind_of (commands.Store name file) = kinds.Store
kind_of (commands.Fetch name) = kinds.Fetch
kind_of commands.List = kinds.List
kind_of commands.Status = kinds.Status
kind_of (commands.Scrub group) = kinds.Scrub
kind_of (commands.Repair group) = kinds.Repair
kind_of (commands.Replace from to) = kinds.Replace
kind_of (commands.Migrate from to) = kinds.Migrate
kind_of (commands.Together count) = kinds.Together
kind_of commands.End = kinds.End
kind_of (commands.Renew name geometry) = kinds.Renew
kind_of commands.Quit = kinds.Quit
