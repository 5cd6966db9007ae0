-- The words that spell a task.
use Rattle.std.specs.Prelude.{◌≡◌, ◌≤◌, ℕ, Bool, true, false, List, [], ◌∷◌, Option, codes, decimal}
use Rattle.pot_bytes.specs.Rack.{IsGeometry, IsRack}
use Rattle.pot_bytes.specs.declared.rack.Geometry.{Geometry}
use Rattle.pot_bytes.specs.declared.rack.Rack.{Rack}
use Rattle.pot_options.specs.Options.{Text, SpellUses, given}
use Rattle.pot_words.specs.Lists.{HasPoints, HasSpots}
use Rattle.pot_words.specs.Values.{HasNumber, HasNumberOr, HasSeed, HasYes}
use Rattle.pot_words.specs.declared.audit.Audit.{Audit}
use Rattle.pot_words.specs.declared.command.Command.{Command}
use Rattle.pot_words.specs.declared.command.Command.TheVariants as command
use Rattle.pot_words.specs.declared.drill.Drill.{Drill}
use Rattle.pot_words.specs.declared.recover.Recover.{Recover}
use Rattle.pot_words.specs.declared.recover.Way.{Way}
use Rattle.pot_words.specs.declared.recover.Way.TheVariants as way
use Rattle.pot_words.specs.declared.run.Run.{Run}
use Rattle.pot_words.specs.declared.task.Task.{Task}
use Rattle.pot_words.specs.declared.task.Task.TheVariants as task

-- the words spell options by which P holds of their values
abbrev pub SpellOptions : List Text → ((Text → Option Text) → Type 0) → List Text → Type 0
SpellOptions names P words =
    (uses : List (Text × Text)) × SpellUses names words uses × P (given uses)

-- the geometry is within the limits, and each of its numbers is an option
abbrev pub HasGeometry : Geometry → (Text → Option Text) → Type 0
HasGeometry g value = IsGeometry g × HasNumber value (codes "fragments") 2 8 g.fragments
    × HasNumber value (codes "need") 1 16 g.need × HasNumber value (codes "shards") 1 16 g.shards
    × HasNumber value (codes "blur") 0 63 g.blur

abbrev pub init_names : List Text
init_names = codes "groups" ∷ codes "columns" ∷ codes "parity" ∷ codes "stripes"
    ∷ codes "fragments" ∷ codes "need" ∷ codes "shards" ∷ codes "blur" ∷ []

-- the rack is within the limits, and one parity column is meant where none is named
abbrev pub HasInit : Rack → (Text → Option Text) → Type 0
HasInit rack value = IsRack rack × HasNumber value (codes "groups") 1 16 rack.groups
    × HasNumber value (codes "columns") 1 16 rack.columns
    × HasNumberOr value (codes "parity") 1 2 1 rack.parity
    × HasNumber value (codes "stripes") 1 4096 rack.stripes × HasGeometry rack.geometry value

-- the words spell the options of `init`
abbrev pub SpellInit : List Text → Rack → Type 0
SpellInit words rack = SpellOptions init_names (HasInit rack) words

abbrev pub run_names : List Text
run_names = codes "seed" ∷ codes "workers" ∷ codes "careful" ∷ []

-- four workers are meant where none are named
abbrev pub HasRun : Run → (Text → Option Text) → Type 0
HasRun run value = HasSeed value (codes "seed") run.seed
    × HasNumberOr value (codes "workers") 1 16 4 run.workers
    × HasYes value (codes "careful") run.careful

-- the words spell the options of `run`
abbrev pub SpellRun : List Text → Run → Type 0
SpellRun words run = SpellOptions run_names (HasRun run) words

-- the words are the number of `generate`
abbrev pub SpellGenerate : List Text → ℕ → Type 0
SpellGenerate words n = (1 ≤ n) × (n ≤ 1000000) × (words ≡ decimal n ∷ [])

abbrev pub recover_names : List Text
recover_names = codes "archives" ∷ codes "stripes" ∷ codes "blur" ∷ codes "robust"
    ∷ codes "open" ∷ codes "bounded" ∷ []

-- what two answers name: at most one of them is yes
abbrev pub IsWay : Bool → Bool → Way → Type 0
IsWay robust chains way.Rings = (robust ≡ false) × (chains ≡ false)
IsWay robust chains way.Robust = (robust ≡ true) × (chains ≡ false)
IsWay robust chains way.Chains = (robust ≡ false) × (chains ≡ true)

-- rings that close are meant where neither option is `yes`
abbrev pub HasWay : (Text → Option Text) → Way → Type 0
HasWay value w = (robust : Bool) × (chains : Bool) × HasYes value (codes "robust") robust
    × HasYes value (codes "open") chains × IsWay robust chains w

abbrev pub HasRecover : Recover → (Text → Option Text) → Type 0
HasRecover r value = HasNumber value (codes "archives") 1 512 r.archives
    × HasNumber value (codes "stripes") 1 4096 r.stripes
    × HasNumber value (codes "blur") 0 63 r.blur × HasWay value r.way
    × HasYes value (codes "bounded") r.bounded

-- the words spell the options of `recover`
abbrev pub SpellRecover : List Text → Recover → Type 0
SpellRecover words r = SpellOptions recover_names (HasRecover r) words

abbrev pub drill_names : List Text
drill_names = codes "fragments" ∷ codes "need" ∷ codes "shards" ∷ codes "blur"
    ∷ codes "hidden" ∷ codes "seen" ∷ codes "seed" ∷ []

-- the hidden fragment and the seen points are of the geometry
abbrev pub HasDrill : Drill → (Text → Option Text) → Type 0
HasDrill d value = HasGeometry d.geometry value
    × HasNumber value (codes "hidden") 1 d.geometry.fragments d.hidden
    × HasPoints value (codes "seen") d.geometry.shards d.seen.items
    × HasSeed value (codes "seed") d.seed

-- the words spell the options of `drill`
abbrev pub SpellDrill : List Text → Drill → Type 0
SpellDrill words d = SpellOptions drill_names (HasDrill d) words

abbrev pub audit_names : List Text
audit_names = codes "seen" ∷ codes "loose" ∷ []

abbrev pub HasAudit : Audit → (Text → Option Text) → Type 0
HasAudit a value = HasSpots value (codes "seen") a.seen.items
    × HasYes value (codes "loose") a.loose

-- the words spell the options of `audit`
abbrev pub SpellAudit : List Text → Audit → Type 0
SpellAudit words a = SpellOptions audit_names (HasAudit a) words

abbrev pub command_name : Command → Text
command_name command.Init = codes "init"
command_name command.Run = codes "run"
command_name command.Generate = codes "generate"
command_name command.Recover = codes "recover"
command_name command.Drill = codes "drill"
command_name command.Audit = codes "audit"

-- the words behind the command spell the task
abbrev pub SpellCommand : Command → List Text → Task → Type 0
SpellCommand command.Init words t = (rack : Rack) × (t ≡ task.Init rack) × SpellInit words rack
SpellCommand command.Run words t = (run : Run) × (t ≡ task.Run run) × SpellRun words run
SpellCommand command.Generate words t = (n : ℕ) × (t ≡ task.Generate n) × SpellGenerate words n
SpellCommand command.Recover words t =
    (r : Recover) × (t ≡ task.Recover r) × SpellRecover words r
SpellCommand command.Drill words t = (d : Drill) × (t ≡ task.Drill d) × SpellDrill words d
SpellCommand command.Audit words t = (a : Audit) × (t ≡ task.Audit a) × SpellAudit words a

-- the words spell the task: the first is the name of a command, and those behind it spell the task
abbrev pub SpellTask : List Text → Task → Type 0
SpellTask words t = (c : Command) × (rest : List Text)
    × (words ≡ command_name c ∷ rest) × SpellCommand c rest t
