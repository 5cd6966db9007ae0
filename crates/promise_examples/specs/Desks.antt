-- What laws say of a desk that has no image at first, and of runs and rechecks over it.
use Rattle.std.specs.Prelude.{◌≡◌, ◌≢◌, ◌⊎◌, ℕ, true, Bool, IsTrue, List, Option, Some, None, codes}
use Rattle.pot_bytes.specs.declared.rack.Rack.{Rack}
use Rattle.pot_outside.specs.Accounts.{Transition}
use Rattle.pot_outside.specs.Desks.{image_met}
use Rattle.pot_options.specs.Options.{Text}
use Rattle.pot_words.specs.Tasks.{SpellTask}
use Rattle.pot_words.specs.declared.run.Run.{Run}
use Rattle.pot_words.specs.declared.task.Task.TheVariants as task
use Rattle.pot_script.specs.declared.grouping.Step.{Step}
use Rattle.pot_image.specs.declared.image.Image.{Image}
use Rattle.pot_image.specs.Images.{Contents, contents}
use Rattle.pot_image.specs.Rules.{IsImage}
use Rattle.pot_image.specs.Spelling.{image_bytes}
use Rattle.pot_recheck.specs.declared.rechecking.Rechecked.{Rechecked}
use Rattle.pot_recheck.specs.Rechecking.{Rechecks}
use Rattle.pot_commands.specs.Streams.{Wrote}
use Rattle.pot_commands.specs.Ends.{texts_of}
use Rattle.pot_session.specs.declared.ending.status.Status.{Status}
use Rattle.pot_session.specs.declared.ending.status.Status.TheVariants as status
use Rattle.pot_session.specs.Calls.{RunsProgram}
use Rattle.pot_session.specs.Commands.{IsScriptRead}
use Rattle.pot_session.specs.Desks.{CanGoOn, ImageGoesOn, HoldsImage, begun}
use Rattle.pot_session.specs.Making.{empty_contents}
use Rattle.pot_session.specs.Runs.{Holds, Seen}
use Rattle.pot_session.specs.Tasks.{AsksNothing}
use Rattle.pot_promises.specs.Chains.{BeginsAfter}
use Rattle.pot_promises.specs.Complete.{AsksSession}
use Rattle.pot_promises.specs.Runs.{ClosedAs, HasImage, HasLater, NoneClosed, RanAs}

-- RUNS AND A RECHECK

-- A run was over a desk without an image, the desk was rechecked, and then had an image. So a run
-- over it that asks for a session is not told that it has none which can be read.
abbrev pub NeverTurnedAway : Type 0
NeverTurnedAway =
    (made : List Text) (one : List ℕ) (a : Seen) (first : Status)
    → a.desk.before.held.now ≡ None → RunsProgram made one a first → IsTrue a.desk.tells
    → (desk : Transition (Option (List ℕ))) (answer : Rechecked)
    → desk.before ≡ a.desk.after.held.now → Rechecks desk answer
    → (words : List Text) (drawn : List ℕ) (b : Seen) (second : Status)
    → b.desk.before.held.now ≡ desk.after → desk.after ≢ None → RunsProgram words drawn b second
    → IsTrue b.desk.tells → (run : Run) → SpellTask words (task.Run run)
    → second ≢ status.ImageRefused

-- A run went over a new archive. Then the desk has an image to which sessions lead, or none.
abbrev pub GoesOnFromNew : Type 0
GoesOnFromNew =
    (rack : Rack) (seed : List ℕ) (careful : Bool) (seen : Seen) (answer : Status)
    → IsImage (empty_contents rack)
    → seen.desk.before.held.now ≡ Some (image_bytes (empty_contents rack))
    → Holds seed careful seen answer → IsTrue seen.desk.tells
    → HasLater (empty_contents rack) seen.desk.after.held.now ⊎ (seen.desk.after.held.now ≡ None)

-- The next run begins with what a recheck found over such an image.
abbrev pub BeginsAfterRecheck : Type 0
BeginsAfterRecheck =
    (rack : Rack) (desk : Transition (Option (List ℕ))) (answer : Rechecked) (read : Image)
    → IsImage (empty_contents rack) → desk.before ≡ Some (image_bytes (empty_contents rack))
    → Rechecks desk answer → HoldsImage desk.after read
    → BeginsAfter (empty_contents rack) (begun (contents read))

-- HOW A RUN ENDS

-- A run that ended well wrote the texts of its replies.
abbrev pub GoodIsWritten : Type 0
GoodIsWritten =
    (seed : List ℕ) (seen : Seen) → Holds seed true seen status.Good → IsTrue seen.desk.tells
    → (ran : RanAs seed seen) × Wrote seen.sink (texts_of ran.replies)

-- A run that failed at its sink closed, unless the desk has what it had, the image with which the
-- session began, or none.
abbrev pub FailedCloses : Type 0
FailedCloses =
    (seed : List ℕ) (seen : Seen) → Holds seed true seen status.SinkFault
    → IsTrue seen.desk.tells → (NoneClosed (image_met seen.desk) → ⊥)
    → (closed : ClosedAs seed seen)
    × ((c : ClosedAs seed seen) × HasImage seen.desk.after.held.now c.last)

-- ALL IS ANSWERED

-- Good words, a good image and a good script: nothing is refused.
abbrev pub NoneIsRefused : Type 0
NoneIsRefused =
    (words : List Text) (drawn : List ℕ) (seen : Seen) (answer : Status)
    → RunsProgram words drawn seen answer → IsTrue seen.source.tells → IsTrue seen.desk.tells
    → (given : List ℕ) → AsksSession words drawn given
    → (image : Image) → HoldsImage seen.desk.before.held.now image → ImageGoesOn image
    → (steps : List Step) → IsScriptRead image.rack seen.source steps
    → (answer ≢ status.ScriptRefused) × (answer ≢ status.WordsRefused)

-- So it is over the image that a run left.
abbrev pub NoneIsRefusedNext : Type 0
NoneIsRefusedNext =
    (words : List Text) (drawn : List ℕ) (seen : Seen) (answer : Status)
    → RunsProgram words drawn seen answer → IsTrue seen.source.tells → IsTrue seen.desk.tells
    → (given : List ℕ) → AsksSession words drawn given
    → (left : Contents) → HasImage seen.desk.before.held.now left → CanGoOn left
    → (steps : List Step) → IsScriptRead left.rack seen.source steps
    → (answer ≢ status.ScriptRefused) × (answer ≢ status.SessionSpent)

-- OTHER WORDS

-- `init` over no image ended with 0: the desk has the image of a new archive, and `ready` was
-- written.
pub record IsInitMade (words : List Text) (seen : Seen) : Type 0 where
  pub rack : Rack
  pub spelled : SpellTask words (task.Init rack)
  pub desk : seen.desk.after.held.now ≡ Some (image_bytes (empty_contents rack))
  pub told : Wrote seen.sink (codes "ready\n")

abbrev pub InitIsMade : Type 0
InitIsMade =
    (words : List Text) (drawn : List ℕ) (seen : Seen)
    → RunsProgram words drawn seen status.Good → (rack : Rack) → SpellTask words (task.Init rack)
    → IsTrue seen.desk.tells → seen.desk.before.held.now ≡ None → IsInitMade words seen

-- Words that ask for nothing are never answered well.
abbrev pub NothingIsRefused : Type 0
NothingIsRefused =
    (words : List Text) (drawn : List ℕ) (seen : Seen) → AsksNothing words
    → RunsProgram words drawn seen status.Good → ⊥
