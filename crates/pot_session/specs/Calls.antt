-- What a call of the program comes to, by the words, the bytes of the source, what the sink got,
-- what the desk held and holds, and what the room meant and means.
use Rattle.std.specs.Prelude.{◌≡◌, ◌⊎◌, ℕ, List, IsTrue}
use Rattle.pot_outside.specs.Accounts.{Transition, Stays, held_in}
use Rattle.pot_outside.specs.Counts.{Rose}
use Rattle.pot_outside.specs.Desks.{image_met}
use Rattle.pot_outside.specs.Rooms.{RoomState, MeansStay}
use Rattle.pot_bytes.specs.declared.rack.Rack.{Rack}
use Rattle.pot_options.specs.Options.{Text}
use Rattle.pot_words.specs.Tasks.{SpellTask}
use Rattle.pot_words.specs.declared.audit.Audit.{Audit}
use Rattle.pot_words.specs.declared.drill.Drill.{Drill}
use Rattle.pot_words.specs.declared.recover.Recover.{Recover}
use Rattle.pot_words.specs.declared.run.Run.{Run}
use Rattle.pot_words.specs.declared.task.Task.TheVariants as task
use Rattle.pot_session.specs.declared.ending.status.Status.{Status}
use Rattle.pot_session.specs.declared.ending.status.Status.TheVariants as status
use Rattle.pot_session.specs.declared.ending.stop.Stop.TheVariants as stop
use Rattle.pot_session.specs.Audits.{Audits}
use Rattle.pot_session.specs.Drills.{Drills}
use Rattle.pot_session.specs.Making.{Inits}
use Rattle.pot_session.specs.Recovering.{Recovers, SomeFailed}
use Rattle.pot_session.specs.Stops.{Refuses}
use Rattle.pot_session.specs.Tasks.{AsksNothing, seed_of}
use Rattle.pot_session.specs.Generating.{Generates}
use Rattle.pot_session.specs.Runs.{Seen, Holds}

-- The words spell no task; or memory ran out over them; or they spell `init`; and the source was
-- not read. Or they spell `run` or `drill`, each with the seed that the words give, or else the
-- drawn one. Or they spell `recover`, and neither the source nor the desk was touched; or `audit`,
-- and nothing but the desk was read. Or they spell `generate`, and nothing but the sink was
-- touched.
pub data RunsProgram (words : List Text) (drawn : List ℕ) (seen : Seen) (answer : Status) : Type 0 where
  Nothing : AsksNothing words → Stays seen.source → Refuses seen.sink stop.Words answer
      → Stays (held_in seen.desk) → MeansStay seen.room → RunsProgram words drawn seen answer
  Short : answer ≡ status.NoMemory → Stays seen.source → Stays seen.sink
      → Stays (held_in seen.desk) → MeansStay seen.room → RunsProgram words drawn seen answer
  Makes : (rack : Rack) → SpellTask words (task.Init rack) → Stays seen.source
      → Inits rack (image_met seen.desk) seen.sink answer → MeansStay seen.room
      → RunsProgram words drawn seen answer
  Session : (run : Run) → SpellTask words (task.Run run)
      → Holds (seed_of run drawn) run.careful seen answer
      → RunsProgram words drawn seen answer
  Drilling : (d : Drill) → SpellTask words (task.Drill d)
      → Drills d drawn seen.source seen.sink answer → Stays (held_in seen.desk)
      → MeansStay seen.room → RunsProgram words drawn seen answer
  Recovering : (r : Recover) → SpellTask words (task.Recover r) → Stays seen.source
      → Recovers r seen.room seen.sink answer → Stays (held_in seen.desk)
      → RunsProgram words drawn seen answer
  Auditing : (a : Audit) → SpellTask words (task.Audit a) → Stays seen.source
      → Audits a (image_met seen.desk) seen.sink answer → Stays (held_in seen.desk)
      → MeansStay seen.room → RunsProgram words drawn seen answer
  Generating : (n : ℕ) → SpellTask words (task.Generate n) → Stays seen.source
      → Generates n seen.sink answer → Stays (held_in seen.desk) → MeansStay seen.room
      → RunsProgram words drawn seen answer

-- Why a call fails at the room: the room failed itself, and not an archive that it lent; or the
-- words spell `recover`, and one of the archives that it read failed, by what the room means of it.
abbrev pub RoomFails : List Text → Transition RoomState → Type 0
RoomFails words room =
    Rose room.before.failures room.after.failures
    ⊎ ((r : Recover) × SpellTask words (task.Recover r)
    × (IsTrue room.tells → SomeFailed r.archives room.before room.after))
