-- Two steps of a script, and the replies to them.
use Rattle.std.specs.Prelude.{ℕ, List, [], ◌∷◌}
use Rattle.pot_bytes.specs.declared.rack.Geometry.{Geometry}
use Rattle.pot_script.specs.declared.command.Command.TheVariants as commands
use Rattle.pot_script.specs.declared.grouping.Step.{Step}
use Rattle.pot_script.specs.declared.grouping.Step.TheVariants as steps
use Rattle.pot_script.specs.declared.reply.Reply.{Reply}
use Rattle.pot_script.specs.declared.reply.Reply.TheVariants as replies

abbrev pub name : List ℕ
name = 97 ∷ []

-- a file of one byte
abbrev pub file : List ℕ
file = 104 ∷ []

abbrev pub stores : List Step
stores = steps.One (commands.Store name file) ∷ []

abbrev pub fetches : List Step
fetches = steps.Together (commands.List ∷ commands.Fetch name ∷ []) ∷ []

-- a store, and then a batch of a listing and a fetch
abbrev pub script : List Step
script =
    steps.One (commands.Store name file)
    ∷ steps.Together (commands.List ∷ commands.Fetch name ∷ []) ∷ []

-- two fragments of one shard each
abbrev pub geometry : Geometry
geometry = record { fragments = 2; need = 1; shards = 1; blur = 0 }

-- a store, and then a batch of a renewal and a fetch
abbrev pub renews : List Step
renews =
    steps.One (commands.Store name file)
    ∷ steps.Together (commands.Renew name geometry ∷ commands.Fetch name ∷ []) ∷ []

-- a batch of a store and a fetch
abbrev pub batch : List Step
batch = steps.Together (commands.Store name file ∷ commands.Fetch name ∷ []) ∷ []

-- the reply to the store
abbrev pub stored : Reply
stored = replies.Stored name 1 2

-- the reply to the renewal
abbrev pub renewed : Reply
renewed = replies.Renewed name 1 2

-- the replies to all: the store was answered `stored`, and the fetch so
abbrev pub said : Reply → Reply → List Reply
said listed r = stored ∷ listed ∷ r ∷ []
