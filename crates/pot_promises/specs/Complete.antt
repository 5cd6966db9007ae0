-- When a run of the program answers all commands of its script.
use Rattle.std.specs.Prelude.{◌≡◌, ℕ, IsTrue, List}
use Rattle.pot_options.specs.Options.{Text}
use Rattle.pot_script.specs.declared.grouping.Step.{Step}
use Rattle.pot_words.specs.Tasks.{SpellTask}
use Rattle.pot_words.specs.declared.run.Run.{Run}
use Rattle.pot_words.specs.declared.task.Task.TheVariants as task
use Rattle.pot_image.specs.declared.image.Image.{Image}
use Rattle.pot_image.specs.Images.{Contents}
use Rattle.pot_session.specs.declared.ending.status.Status.{Status}
use Rattle.pot_session.specs.declared.ending.status.Status.TheVariants as status
use Rattle.pot_session.specs.Calls.{RunsProgram}
use Rattle.pot_session.specs.Commands.{IsScriptRead}
use Rattle.pot_session.specs.Desks.{CanGoOn, ImageGoesOn, HoldsImage}
use Rattle.pot_session.specs.Runs.{Seen}
use Rattle.pot_session.specs.Tasks.{seed_of}
use Rattle.pot_promises.specs.Runs.{HasImage, IsDone, RanAs}

-- the statuses that say that an object outside failed: a run gives each only where the object's
-- count rose
abbrev pub IsFault : Status → Type 0
IsFault status.SourceFault = Unit {0}
IsFault status.SinkFault = Unit {0}
IsFault status.DeskFault = Unit {0}
IsFault status.RoomFault = Unit {0}
IsFault _ = ⊥

-- the words ask for a session with this seed
abbrev pub AsksSession : List Text → List ℕ → List ℕ → Type 0
AsksSession words drawn seed =
    (run : Run) × SpellTask words (task.Run run) × (seed ≡ seed_of run drawn)

-- Where the words ask for a session, the desk holds an image from which one may begin and the
-- source a script over its rack, and both tell it, each command is answered, unless an object
-- failed or memory ran out. So the status is 0 or 1, and it was a session with a seed that the
-- words ask for, over an image that the desk held and with a script that the source had.
abbrev pub RunsAreAnswered : Type 0
RunsAreAnswered =
    (words : List Text) (drawn : List ℕ) (seen : Seen) (answer : Status)
    → RunsProgram words drawn seen answer → IsTrue seen.source.tells → IsTrue seen.desk.tells
    → (given : List ℕ) → AsksSession words drawn given
    → (image : Image) → HoldsImage seen.desk.before.held.now image → ImageGoesOn image
    → (steps : List Step) → IsScriptRead image.rack seen.source steps
    → (IsFault answer → ⊥) → (answer ≡ status.NoMemory → ⊥)
    → IsDone answer × ((seed : List ℕ) × AsksSession words drawn seed × RanAs seed seen)

-- The same over an image that a run left: it need not be said that it can be read.
abbrev pub NextIsAnswered : Type 0
NextIsAnswered =
    (words : List Text) (drawn : List ℕ) (seen : Seen) (answer : Status)
    → RunsProgram words drawn seen answer → IsTrue seen.source.tells → IsTrue seen.desk.tells
    → (given : List ℕ) → AsksSession words drawn given
    → (left : Contents) → HasImage seen.desk.before.held.now left → CanGoOn left
    → (steps : List Step) → IsScriptRead left.rack seen.source steps
    → (IsFault answer → ⊥) → (answer ≡ status.NoMemory → ⊥)
    → IsDone answer × ((seed : List ℕ) × AsksSession words drawn seed × RanAs seed seen)
