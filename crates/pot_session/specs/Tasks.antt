-- What the words ask for.
use Rattle.std.specs.Prelude.{◌<◌, ◌≤◌, ℕ, List, unwrap_or}
use Rattle.pot_bytes.specs.Rack.{IsRack}
use Rattle.pot_options.specs.Options.{Text}
use Rattle.pot_words.specs.Tasks.{SpellTask}
use Rattle.pot_words.specs.declared.run.Run.{Run}
use Rattle.pot_words.specs.declared.task.Task.{Task}
use Rattle.pot_words.specs.declared.task.Task.TheVariants as task
use Rattle.pot_session.specs.declared.asking.Asked.{Asked}
use Rattle.pot_session.specs.declared.asking.Asked.TheVariants as asked
use Rattle.pot_session.specs.Audits.{IsAudit}
use Rattle.pot_session.specs.Drills.{IsDrill}
use Rattle.pot_session.specs.Recovering.{IsRecovery}

-- the words spell no task
abbrev pub AsksNothing : List Text → Type 0
AsksNothing words = (t : Task) → SpellTask words t → ⊥

-- the words spell this task, or none
abbrev pub Asks : List Text → Asked → Type 0
Asks words (asked.Init rack) = SpellTask words (task.Init rack) × IsRack rack
Asks words (asked.Run run) = SpellTask words (task.Run run) × (0 < run.workers)
Asks words (asked.Drill d) = SpellTask words (task.Drill d) × IsDrill d
Asks words (asked.Recover r) = SpellTask words (task.Recover r) × IsRecovery r
Asks words (asked.Audit a) = SpellTask words (task.Audit a) × IsAudit a
Asks words (asked.Generate n) = SpellTask words (task.Generate n) × (1 ≤ n) × (n ≤ 1000000)
Asks words asked.Other = AsksNothing words

-- the seed of a session: the one that the words give, or else the drawn one
abbrev pub seed_of : Run → List ℕ → List ℕ
seed_of run drawn = unwrap_or run.seed drawn
