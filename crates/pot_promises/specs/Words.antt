-- What the words that hold no session answer, each by its cause, where no object failed and memory
-- did not run out.
use Rattle.std.specs.Prelude.{◌≡◌, ◌⊎◌, ◌<◌, ◌≤◌, ◌-◌, ◌^◌, ℕ, Bool, true, false, IsTrue, List}
use Rattle.std.specs.Prelude.{Option, Some, None, IsSome, Ok, Contains, codes, length, unwrap_or}
use Rattle.pot_bytes.specs.declared.rack.Rack.{Rack}
use Rattle.pot_outside.specs.Accounts.{Transition}
use Rattle.pot_outside.specs.Desks.{image_met}
use Rattle.pot_outside.specs.Rooms.{RoomState}
use Rattle.pot_options.specs.Options.{Text}
use Rattle.pot_words.specs.Tasks.{SpellTask}
use Rattle.pot_words.specs.declared.audit.Audit.{Audit}
use Rattle.pot_words.specs.declared.drill.Drill.{Drill}
use Rattle.pot_words.specs.declared.recover.Recover.{Recover}
use Rattle.pot_words.specs.declared.task.Task.TheVariants as task
use Rattle.pot_image.specs.declared.image.Image.{Image}
use Rattle.pot_image.specs.Images.{AnswersImage}
use Rattle.pot_image.specs.Spelling.{image_bytes}
use Rattle.pot_recover.specs.declared.top.RecoverFault.TheVariants.{Wide}
use Rattle.pot_veil.specs.declared.drilling.DrillReport.{DrillReport}
use Rattle.pot_veil.specs.Drills.{IsReport}
use Rattle.pot_commands.specs.Streams.{Wrote}
use Rattle.pot_session.specs.declared.ending.status.Status.{Status}
use Rattle.pot_session.specs.declared.ending.status.Status.TheVariants as status
use Rattle.pot_session.specs.declared.ending.stop.Stop.{Stop}
use Rattle.pot_session.specs.declared.ending.stop.Stop.TheVariants as stop
use Rattle.pot_session.specs.Audits.{PutsWholeAudit, are_of, loose_of, spots_of}
use Rattle.pot_session.specs.Calls.{RunsProgram}
use Rattle.pot_session.specs.Desks.{HoldsImage, RefusesBytes}
use Rattle.pot_session.specs.Drills.{ArePair, IsNoPair, exposed_text, random_of, report_text}
use Rattle.pot_session.specs.Generating.{IsGenerated, is_answered, summary}
use Rattle.pot_session.specs.Listing.{has_partial, listing}
use Rattle.pot_session.specs.Making.{empty_contents}
use Rattle.pot_session.specs.Recovering.{GiveObjects, GiveTooMany, IsHeldIn, most_chains}
use Rattle.pot_session.specs.Runs.{Seen}
use Rattle.pot_session.specs.Stops.{stop_text}
use Rattle.pot_session.specs.Tasks.{AsksNothing}
use Rattle.pot_session.specs.Telling.{told_status}
use Rattle.pot_promises.specs.Complete.{IsFault}

-- `init`: a desk without an image has the one of a new archive, and one with an image keeps it.
pub record InitAnswered (rack : Rack) (desk : Transition (Option (List ℕ)))
    (sink : Transition (List ℕ)) (answer : Status) : Type 0 where
  pub none : desk.before ≡ None
      → (answer ≡ status.Good) × (desk.after ≡ Some (image_bytes (empty_contents rack)))
      × Wrote sink (codes "ready\n")
  pub some : IsSome desk.before
      → (answer ≡ status.ImageExists) × (desk.after ≡ desk.before)
      × Wrote sink (stop_text stop.Exists)

-- the source has two files, what is seen of the first is explained by the second, and that is told
abbrev pub TellsExplained : Drill → List ℕ → Transition (List ℕ) → Transition (List ℕ) → Type 0
TellsExplained d seed source sink =
    (file : List ℕ) × (other : List ℕ) × ArePair source.before file other
    × ((r : DrillReport) × (explained : List ℕ)
    × IsReport d.geometry file other (d.hidden - 1) d.seen.items
    (random_of d.geometry seed (length file)) explained r
    × Wrote sink (report_text (length file) r))

-- `drill`: two files of one length are told of, by whether fewer points are seen than are needed;
-- and no other bytes are.
pub record DrillAnswered (d : Drill) (seed : List ℕ) (source sink : Transition (List ℕ))
    (answer : Status) : Type 0 where
  pub few : (file other : List ℕ) → ArePair source.before file other
      → length d.seen.items < d.geometry.need
      → (answer ≡ status.Good) × TellsExplained d seed source sink
  pub many : (file other : List ℕ) → ArePair source.before file other
      → d.geometry.need ≤ length d.seen.items
      → (answer ≡ status.Refusals)
      × Wrote sink (exposed_text d.hidden (length d.seen.items) d.geometry.need)
  pub no_pair : IsNoPair source.before
      → (answer ≡ status.ScriptRefused) × Wrote sink (stop_text (stop.BadLine 0))

-- no archive of these counted a loss, and no count stands at its last value
abbrev pub NoArchiveLost : ℕ → Transition RoomState → Type 0
NoArchiveLost archives room =
    (n : ℕ) → n < archives
    → ((room.after.means n).losses ≡ (room.before.means n).losses)
    × ((room.after.means n).losses < 2 ^ 64 - 1)

-- these are the blocks that the first archives held in their first slots
pub record AreAllHeld (archives stripes : ℕ) (room : RoomState) (blocks : List (List ℕ))
    : Type 0 where
  pub only : (b : List ℕ) → Contains blocks b
      → (n : ℕ) × (n < archives) × IsHeldIn stripes (room.means n) b
  pub all : (n : ℕ) (b : List ℕ) → n < archives → IsHeldIn stripes (room.means n) b
      → Contains blocks b

-- `recover`: the blocks that the archives hold give objects, which are listed; or one of the two
-- counts is not borne, and that is said.
pub record RecoverAnswered (r : Recover) (room : Transition RoomState)
    (sink : Transition (List ℕ)) (answer : Status) : Type 0 where
  pub blocks : List (List ℕ)
  pub held : NoArchiveLost r.archives room → AreAllHeld r.archives r.stripes room.before blocks
  pub is : ((objects : List (List ℕ))
      × GiveObjects (most_chains r (length blocks)) r.way blocks r.blur objects
      × (answer ≡ told_status (has_partial objects)) × Wrote sink (listing objects))
      ⊎ ((chains : ℕ) × (choices : ℕ)
      × GiveTooMany (most_chains r (length blocks)) r.way blocks r.blur (Wide chains choices)
      × (answer ≡ status.TooWide) × Wrote sink (stop_text stop.TooWide))

-- `audit`: a desk without an image and bytes that are none are refused; so are words that name a
-- column which the rack of the image lacks; and else the audit of its records is told.
pub record AuditAnswered (a : Audit) (desk : Transition (Option (List ℕ)))
    (sink : Transition (List ℕ)) (answer : Status) : Type 0 where
  pub none : desk.before ≡ None
      → (answer ≡ status.ImageRefused) × Wrote sink (stop_text stop.NoImage)
  pub refused : (bytes : List ℕ) → desk.before ≡ Some bytes
      → ((i : Image) → AnswersImage bytes (Ok i) → ⊥)
      → (answer ≡ status.ImageRefused)
      × ((s : Stop) × RefusesBytes bytes s × Wrote sink (stop_text s))
  pub outside : (i : Image) → HoldsImage desk.before i → are_of i.rack a ≡ false
      → (answer ≡ status.WordsRefused) × Wrote sink (stop_text stop.Words)
  pub told : (i : Image) → HoldsImage desk.before i → are_of i.rack a ≡ true
      → (found : Bool)
      × PutsWholeAudit sink i.rack (spots_of a) i.records.items (loose_of a i) (Ok found)
      × (answer ≡ told_status found)

-- `generate`: the session of the script of the number was held, and its summary is written; the
-- answer is that of the session.
pub record GenerateAnswered (number : ℕ) (sink : Transition (List ℕ)) (answer : Status)
    : Type 0 where
  pub bytes : List ℕ
  pub generated : IsGenerated number bytes answer
  pub answered : is_answered answer ≡ true
  pub written : Wrote sink (summary number bytes)

-- Each word by what its objects mean; and words that spell no task are refused.
pub record WordsAnswered (words : List Text) (drawn : List ℕ) (seen : Seen) (answer : Status)
    : Type 0 where
  pub init : (given : Rack) → SpellTask words (task.Init given) → IsTrue seen.desk.tells
      → (rack : Rack) × SpellTask words (task.Init rack)
      × InitAnswered rack (image_met seen.desk) seen.sink answer
  pub drill : (given : Drill) → SpellTask words (task.Drill given) → IsTrue seen.source.tells
      → (d : Drill) × SpellTask words (task.Drill d)
      × DrillAnswered d (unwrap_or d.seed drawn) seen.source seen.sink answer
  pub recover : (given : Recover) → SpellTask words (task.Recover given)
      → IsTrue seen.room.tells
      → (r : Recover) × SpellTask words (task.Recover r)
      × RecoverAnswered r seen.room seen.sink answer
  pub audit : (given : Audit) → SpellTask words (task.Audit given) → IsTrue seen.desk.tells
      → (a : Audit) × SpellTask words (task.Audit a)
      × AuditAnswered a (image_met seen.desk) seen.sink answer
  pub generate : (given : ℕ) → SpellTask words (task.Generate given)
      → (number : ℕ) × SpellTask words (task.Generate number)
      × GenerateAnswered number seen.sink answer
  pub nothing : AsksNothing words
      → (answer ≡ status.WordsRefused) × Wrote seen.sink (stop_text stop.Words)

-- Where no object failed and memory did not run out, each word that holds no session answers so.
-- The contract of a run says that a fault is answered only where a count of faults rose.
abbrev pub WordsAreAnswered : Type 0
WordsAreAnswered =
    (words : List Text) (drawn : List ℕ) (seen : Seen) (answer : Status)
    → RunsProgram words drawn seen answer → (IsFault answer → ⊥) → (answer ≡ status.NoMemory → ⊥)
    → WordsAnswered words drawn seen answer
