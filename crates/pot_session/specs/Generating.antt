-- The generator: the script of a number, worked by a session over new archives in memory.
use Rattle.std.specs.Prelude.{◌≡◌, ◌<◌, ◌+◌, ◌*◌, ◌++◌, ℕ, Bool, true, false, List, []}
use Rattle.std.specs.Prelude.{Some, None, Result, Ok, Err, codes}
use Rattle.std.specs.List.{count_by}
use Rattle.pot_bytes.specs.Digests.{digest_bytes}
use Rattle.pot_outside.specs.Accounts.{Content, Transition, Stays, transition_by}
use Rattle.pot_outside.specs.Archives.{Meaning}
use Rattle.pot_outside.specs.Desks.{Images}
use Rattle.pot_outside.specs.Rooms.{RoomState}
use Rattle.pot_outside.specs.declared.faults.Failed.{Failed}
use Rattle.pot_doubles.specs.Rooms.{meaning_of}
use Rattle.pot_generator.specs.Generated.{generated}
use Rattle.pot_generator.specs.Runs.{is_replied, rack_of_runs, seed_of}
use Rattle.pot_image.specs.Spelling.{image_bytes}
use Rattle.pot_script.specs.Replies.{in_hex, spaced}
use Rattle.pot_script.specs.Scripts.{script_text}
use Rattle.pot_commands.specs.Streams.{WritesText}
use Rattle.pot_session.specs.declared.ending.status.Status.{Status}
use Rattle.pot_session.specs.declared.ending.status.Status.TheVariants as status
use Rattle.pot_session.specs.Making.{empty_contents}
use Rattle.pot_session.specs.Runs.{Holds, seen_by}

-- how many archives a run has: those of the rack, and the one that stands in for a replaced one
abbrev pub archives_of_runs : ℕ
archives_of_runs = rack_of_runs.groups * (rack_of_runs.columns + rack_of_runs.parity) + 1

-- no call of these archives failed
abbrev pub AreSound : (ℕ → Meaning) → Type 0
AreSound means = (n : ℕ) → n < archives_of_runs → (means n).faults ≡ 0

-- A session wrote these bytes and ended so, that read the script of the number, over a desk with a
-- new archive of the generator's rack and a room without blocks, with the generator's seed. No call
-- of an archive failed.
pub record IsGenerated (number : ℕ) (bytes : List ℕ) (ended : Status) : Type 0 where
  pub rest : List ℕ
  pub desk : Content Images
  pub leaves : Content Images
  pub room : RoomState
  pub lends : RoomState
  pub begun : desk.held.now ≡ Some (image_bytes (empty_contents rack_of_runs))
  pub empty : (n : ℕ) → room.means n ≡ meaning_of None
  pub unfailed : room.failures ≡ 0
  pub sound : AreSound lends.means
  pub session : Holds (seed_of number) false
      (seen_by (transition_by true (script_text (generated number)) rest)
      (transition_by true [] bytes) (transition_by true desk leaves)
      (transition_by true room lends))
      ended

-- all commands of such a session were answered
abbrev pub is_answered : Status → Bool
is_answered status.Good = true
is_answered status.Refusals = true
is_answered _ = false

-- the number, how many replies its script has, and the digest of all that the session wrote
abbrev pub summary : ℕ → List ℕ → List ℕ
summary number bytes =
    codes "generated" ++ spaced number ++ spaced (count_by is_replied (generated number))
    ++ codes "\ndigest"
    ++ in_hex (record { bytes = digest_bytes bytes }) ++ codes "\n"

-- the status of the session, or the sink failed
abbrev pub answer_of : Status → Result (Unit {0}) Failed → Status
answer_of ended (Ok u) = ended
answer_of ended (Err e) = status.SinkFault

-- Such a session was held, and its summary was written; or memory ran out, and nothing was.
pub data Generates (number : ℕ) (sink : Transition (List ℕ)) (answer : Status) : Type 0 where
  Told : (bytes : List ℕ) (ended : Status) → IsGenerated number bytes ended
      → is_answered ended ≡ true
      → (wrote : Result (Unit {0}) Failed)
      → WritesText sink (summary number bytes) wrote
      → answer ≡ answer_of ended wrote → Generates number sink answer
  Starved : answer ≡ status.NoMemory → Stays sink → Generates number sink answer
