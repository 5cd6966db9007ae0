-- Words spell one kind of task, by the first of them.
use Rattle.std.proofs.Common.{◌≡◌, List, [], ◌∷◌, ap, sym, ◌∙◌}
use Rattle.std.specs.Prelude.{codes}
use Rattle.pot_options.specs.Options.{Text}
use Rattle.pot_words.specs.Tasks.{SpellTask, SpellCommand, command_name}
use Rattle.pot_words.specs.declared.command.Command.{Command}
use Rattle.pot_words.specs.declared.command.Command.TheVariants as command
use Rattle.pot_words.specs.declared.task.Task.{Task}
use Rattle.pot_words.specs.declared.task.Task.TheVariants as task

-- the first word of each kind of task
abbrev pub task_name : Task → Text
task_name (task.Init rack) = codes "init"
task_name (task.Run run) = codes "run"
task_name (task.Generate n) = codes "generate"
task_name (task.Recover r) = codes "recover"
task_name (task.Drill d) = codes "drill"
task_name (task.Audit a) = codes "audit"

named : (c : Command) (rest : List Text) (t : Task) → SpellCommand c rest t → command_name c ≡ task_name t
named command.Init rest t s = sym (ap task_name s.1)
named command.Run rest t s = sym (ap task_name s.1)
named command.Generate rest t s = sym (ap task_name s.1)
named command.Recover rest t s = sym (ap task_name s.1)
named command.Drill rest t s = sym (ap task_name s.1)
named command.Audit rest t s = sym (ap task_name s.1)

abbrev first_word : List Text → Text
first_word [] = []
first_word (w ∷ ws) = w

first_is : (words : List Text) (t : Task) → SpellTask words t → first_word words ≡ task_name t
first_is words t (c, rest, is, spells) = ap first_word is ∙ named c rest t spells

-- two tasks that the same words spell are of one kind
pub one_kind : (words : List Text) (t u : Task) → SpellTask words t → SpellTask words u → task_name t ≡ task_name u
one_kind words t u s v = sym (first_is words t s) ∙ first_is words u v
