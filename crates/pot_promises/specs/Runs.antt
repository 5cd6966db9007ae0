-- What a run of the program is, and what it leaves on its desk, as does a recheck between two runs.
use Rattle.std.specs.Prelude.{◌≡◌, ◌≢◌, ◌⊎◌, ◌++◌, ℕ, Bool, true, IsTrue, List, Option, Some, None}
use Rattle.pot_bytes.specs.declared.rack.Rack.{Rack}
use Rattle.pot_options.specs.Options.{Text}
use Rattle.pot_words.specs.Tasks.{SpellTask}
use Rattle.pot_words.specs.declared.run.Run.{Run}
use Rattle.pot_words.specs.declared.task.Task.TheVariants as task
use Rattle.pot_outside.specs.Accounts.{Transition}
use Rattle.pot_outside.specs.Desks.{image_met}
use Rattle.pot_script.specs.declared.grouping.Step.{Step}
use Rattle.pot_script.specs.declared.reply.Reply.{Reply}
use Rattle.pot_image.specs.declared.image.Image.{Image}
use Rattle.pot_image.specs.Images.{Contents, contents}
use Rattle.pot_image.specs.Rules.{IsImage}
use Rattle.pot_image.specs.Spelling.{image_bytes}
use Rattle.pot_recheck.specs.declared.rechecking.Rechecked.{Rechecked}
use Rattle.pot_recheck.specs.declared.rechecking.Rechecked.TheVariants as rechecked
use Rattle.pot_recheck.specs.Rechecking.{Rechecks}
use Rattle.pot_commands.specs.Ends.{texts_of}
use Rattle.pot_commands.specs.Streams.{Wrote}
use Rattle.pot_session.specs.declared.ending.status.Status.{Status}
use Rattle.pot_session.specs.declared.ending.status.Status.TheVariants as status
use Rattle.pot_session.specs.Commands.{IsScriptRead}
use Rattle.pot_session.specs.Calls.{RunsProgram}
use Rattle.pot_session.specs.Desks.{HoldsImage, begun}
use Rattle.pot_session.specs.Making.{empty_contents}
use Rattle.pot_session.specs.Runs.{Holds, Seen}
use Rattle.pot_promises.specs.Chains.{IsSession, BeginsFrom, BeginsAfter, Later}

-- The desk has this image, as it is written, and the image keeps the rules of images.
abbrev pub HasImage : Option (List ℕ) → Contents → Type 0
HasImage held v = (held ≡ Some (image_bytes v)) × IsImage v

-- the statuses of a run whose commands were all answered
abbrev pub IsDone : Status → Type 0
IsDone status.Good = Unit {0}
IsDone status.Refusals = Unit {0}
IsDone _ = ⊥

-- A session over the image that the desk held, with the steps that the source had: each has its
-- replies, what was written is their texts, and the desk has the image that the session left, which
-- keeps the rules of images.
pub record RanAs (seed : List ℕ) (seen : Seen) : Type 0 where
  pub read : Image
  pub was_held : HoldsImage seen.desk.before.held.now read
  pub steps : List Step
  pub script : IsScriptRead read.rack seen.source steps
  pub last : Contents
  pub replies : List Reply
  pub session : IsSession seed (begun (contents read)) last steps replies
  pub written : Wrote seen.sink (texts_of replies)
  pub left : HasImage seen.desk.after.held.now last

-- What is told of a run of the program by its own contract: where the desk tells its image and the
-- status is 0 or 1, it was such a session. So what is promised of sessions is promised of runs.
abbrev pub RunsAreSessions : Type 0
RunsAreSessions =
    (seed : List ℕ) (careful : Bool) (seen : Seen) (answer : Status)
    → Holds seed careful seen answer → IsDone answer → IsTrue seen.desk.tells
    → RanAs seed seen

-- HOWEVER A RUN ENDS

-- A session over the image that the desk held, with the steps that the source had, which closed
-- whatever ended them: the first of them have their replies, and what was written are first bytes
-- of the texts of these. The desk has the image that the session left; or, where it failed or
-- memory ran out, the one with which the session began, or none. Each keeps the rules of images.
pub record ClosedAs (seed : List ℕ) (seen : Seen) : Type 0 where
  pub read : Image
  pub was_held : HoldsImage seen.desk.before.held.now read
  pub steps : List Step
  pub script : IsScriptRead read.rack seen.source steps
  pub answered : List Step
  pub rest : List Step
  pub parts : steps ≡ answered ++ rest
  pub last : Contents
  pub replies : List Reply
  pub session : IsSession seed (begun (contents read)) last answered replies
  pub written : IsTrue seen.sink.tells
      → (more : List ℕ) × (seen.sink.before ++ texts_of replies ≡ seen.sink.after ++ more)
  pub left : HasImage seen.desk.after.held.now (begun (contents read))
      ⊎ (HasImage seen.desk.after.held.now last ⊎ (seen.desk.after.held.now ≡ None))

-- No session closed: the desk holds what it held, or has the image with which the session began, or
-- none.
abbrev pub NoneClosed : Transition (Option (List ℕ)) → Type 0
NoneClosed desk =
    (desk.after ≡ desk.before) ⊎ ((desk.after ≡ None)
    ⊎ ((read : Image) × HoldsImage desk.before read
    × HasImage desk.after (begun (contents read))))

-- Whatever its status, a run over a desk that tells its image was such a session, or none closed.
abbrev pub RunsMayClose : Type 0
RunsMayClose =
    (seed : List ℕ) (careful : Bool) (seen : Seen) (answer : Status)
    → Holds seed careful seen answer
    → IsTrue seen.desk.tells → ClosedAs seed seen ⊎ NoneClosed (image_met seen.desk)

-- A careful run that ended with 5 or 8 kept the image: where its session closed, the desk has the
-- image that the session left, and so no file is lost of which it was said that it is stored.
abbrev pub IsKeptAs : (seed : List ℕ) (seen : Seen) → Type 0
IsKeptAs seed seen = (c : ClosedAs seed seen) × HasImage seen.desk.after.held.now c.last

abbrev pub CarefulKeeps : Type 0
CarefulKeeps =
    (seed : List ℕ) (seen : Seen) (answer : Status) → Holds seed true seen answer
    → (answer ≡ status.SinkFault) ⊎ (answer ≡ status.RoomFault) → IsTrue seen.desk.tells
    → IsKeptAs seed seen ⊎ NoneClosed (image_met seen.desk)

-- the desk has an image to which sessions and rechecks lead from this one
abbrev pub HasLater : Contents → Option (List ℕ) → Type 0
HasLater from held = (now : Contents) × HasImage held now × Later from now

-- Where the desk had such an image, it has one after a run, whatever its status, or none.
abbrev pub RunsGoLater : Type 0
RunsGoLater =
    (seed : List ℕ) (careful : Bool) (seen : Seen) (answer : Status)
    → Holds seed careful seen answer
    → IsTrue seen.desk.tells → (from : Contents) → HasLater from seen.desk.before.held.now
    → HasLater from seen.desk.after.held.now ⊎ (seen.desk.after.held.now ≡ None)

-- A RECHECK

-- Where the desk had such an image, it has one after a recheck. It has none only where the recheck
-- answered that the desk failed.
abbrev pub RechecksGoOn : Type 0
RechecksGoOn =
    (desk : Transition (Option (List ℕ))) (answer : Rechecked) → Rechecks desk answer
    → (from : Contents) → HasLater from desk.before
    → HasLater from desk.after ⊎ ((answer ≡ rechecked.DeskFault) × (desk.after ≡ None))

-- THE NEXT RUN

-- Where a run left an image on its desk, the next run begins with it.
abbrev pub RunsGoOn : Type 0
RunsGoOn =
    (last : Contents) (held : Option (List ℕ)) (read : Image) → HasImage held last
    → HoldsImage held read → BeginsFrom last (begun (contents read))

-- Where the desk had an image and was rechecked, the next run begins with what became of it.
abbrev pub RechecksBegin : Type 0
RechecksBegin =
    (last : Contents) (desk : Transition (Option (List ℕ))) (answer : Rechecked) (read : Image)
    → HasImage desk.before last → Rechecks desk answer → HoldsImage desk.after read
    → BeginsAfter last (begun (contents read))

-- RUNS AND RECHECKS, ONE AFTER THE OTHER

-- From a desk that has no image, by runs of the program and rechecks in any order, the desk came to
-- hold this. Each was over what the one before left, whatever each run was asked for and however
-- each ended.
pub data CameTo : Option (List ℕ) → Type 0 where
  Bare : CameTo None
  Next : (words : List Text) (drawn : List ℕ) (seen : Seen) (answer : Status)
      → CameTo seen.desk.before.held.now → RunsProgram words drawn seen answer → IsTrue seen.desk.tells
      → CameTo seen.desk.after.held.now
  Recheck : (desk : Transition (Option (List ℕ))) (answer : Rechecked) → CameTo desk.before
      → Rechecks desk answer → CameTo desk.after

-- It has no image, or one to which sessions and rechecks lead from that of a new archive.
abbrev pub DesksStayGood : Type 0
DesksStayGood =
    (held : Option (List ℕ)) → CameTo held
    → (held ≡ None) ⊎ ((rack : Rack) × HasLater (empty_contents rack) held)

-- Where the desk has such an image, no run with the words of a session says that the desk holds
-- none that can be read.
abbrev pub NeverRefused : Type 0
NeverRefused =
    (words : List Text) (drawn : List ℕ) (seen : Seen) (answer : Status)
    → RunsProgram words drawn seen answer → IsTrue seen.desk.tells
    → (left : Contents) → HasImage seen.desk.before.held.now left
    → (run : Run) → SpellTask words (task.Run run) → answer ≢ status.ImageRefused
