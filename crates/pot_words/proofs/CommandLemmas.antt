-- The one task of a command line, from the first word on.
use Rattle.std.proofs.Common.{◌≡◌, ◌∙◌, ◌≤◌, ◌-◌, refl, sym, ap, ap₂, subst, List, [], ◌∷◌, Option, Some, None, codes, option_map, drop, take, map, length, get_or, bytes_eq, cond, arith}
use Rattle.std.proofs.lemmas.List.{take_all}
use Rattle.std.specs.Prelude.{unwrap_or}
use Rattle.pot_options.specs.Options.{Text}
use Rattle.pot_words.specs.Answers.{IsOnly}
use Rattle.pot_words.specs.Tasks.{SpellCommand, SpellTask, command_name}
use Rattle.pot_words.specs.declared.command.Command.{Command}
use Rattle.pot_words.specs.declared.command.Command.TheVariants as command
use Rattle.pot_words.specs.declared.task.Task.{Task}
use Rattle.pot_words.proofs.NumberLemmas.{first_of}

-- the command that a name is of
abbrev command_of : Text → Option Command
command_of name = cond (bytes_eq name (codes "init")) (Some command.Init) (cond (bytes_eq name (codes "run")) (Some command.Run)
    (cond (bytes_eq name (codes "generate")) (Some command.Generate) (cond (bytes_eq name (codes "recover")) (Some command.Recover)
    (cond (bytes_eq name (codes "drill")) (Some command.Drill) (cond (bytes_eq name (codes "audit")) (Some command.Audit) None)))))

named : (c : Command) → command_of (command_name c) ≡ Some c
named command.Init = refl
named command.Run = refl
named command.Generate = refl
named command.Recover = refl
named command.Drill = refl
named command.Audit = refl

-- a name is of one command
one_command : (c d : Command) → command_name c ≡ command_name d → c ≡ d
one_command c d same = ap (λ (o : Option Command). unwrap_or o c) (sym (named c) ∙ ap command_of same ∙ named d)

-- the words behind a command's name spell the tasks that the command has for them
behind : (c d : Command) (rest left : List Text) (t : Task) → command_name c ∷ rest ≡ command_name d ∷ left → SpellCommand d left t → SpellCommand c rest t
behind c d rest left t is spelled =
    let same : c ≡ d = one_command c d (ap first_of is) in
    subst (λ (words : List Text). SpellCommand c words t) (sym (ap (drop 1) is)) (subst (λ (e : Command). SpellCommand e left t) (sym same) spelled)

-- the task of the command is that of the words
pub of_command : (c : Command) (word : Text) (rest : List Text) (r : Option Task) → word ≡ command_name c → IsOnly (SpellCommand c rest) r → IsOnly (SpellTask (word ∷ rest)) r
of_command c word rest None is none = λ t spelled. none t (behind c spelled.0 rest spelled.1 t (ap (λ (w : Text). w ∷ rest) (sym is) ∙ spelled.2) spelled.3)
of_command c word rest (Some t) is only = (
  (c, rest, ap (λ (w : Text). w ∷ rest) is, only.0),
  λ s spelled. only.1 s (behind c spelled.0 rest spelled.1 s (ap (λ (w : Text). w ∷ rest) (sym is) ∙ spelled.2) spelled.3),
)

pub of_no_command : (word : Text) (rest : List Text) → ((c : Command) → word ≡ command_name c → ⊥) → (t : Task) → SpellTask (word ∷ rest) t → ⊥
of_no_command word rest none t spelled = none spelled.0 (ap first_of spelled.2)

-- a command's task, wrapped as a task
pub wrapped : {T : Type 0} (P : T → Type 0) (make : T → Task) (r : Option T) → IsOnly P r → IsOnly (λ (task : Task). (t : T) × (task ≡ make t) × P t) (option_map make r)
wrapped P make None none = λ task spelled. none spelled.0 spelled.2
wrapped P make (Some t) only = ((t, refl, only.0), λ task spelled. spelled.1 ∙ ap make (only.1 spelled.0 spelled.2))

-- the first word and the words behind it
pub all_words : {X : Type 0} (text : X → Text) (xs : List X) (x : X) (word : Text) → 1 ≤ length xs → x ≡ get_or xs 0 x → word ≡ text x
    → word ∷ map text (take (length xs - 1) (drop 1 xs)) ≡ map text xs
all_words text [] x word some is same = absurd (omega arith)
all_words text (y ∷ ys) x word some is same =
    let whole : take (length (y ∷ ys) - 1) ys ≡ ys = take_all _ ys (omega arith) in
    ap₂ (λ (w : Text) (rest : List _). w ∷ map text rest) (same ∙ ap text is) whole
