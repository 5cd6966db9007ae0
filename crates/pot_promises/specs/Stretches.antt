-- The stretches of a job's key stream that blind its relays.
use Rattle.std.specs.Prelude.{◌≡◌, ◌<◌, ◌≤◌, ◌+◌, ◌*◌, ◌^◌, ℕ, Bool, List, Some, length}
use Rattle.std.specs.Prelude.{slice_get}
use Rattle.pot_outside.specs.Accounts.{Content, Transition}
use Rattle.pot_outside.specs.Desks.{Images}
use Rattle.pot_outside.specs.Rooms.{RoomState}
use Rattle.pot_pads.specs.Pads.{bytes_from, stream}
use Rattle.pot_script.specs.declared.grouping.Step.{Step}
use Rattle.pot_image.specs.Images.{Contents}
use Rattle.pot_image.specs.Rules.{IsImage}
use Rattle.pot_shared.specs.Blinded.{HaveBlinds}
use Rattle.pot_session.specs.declared.ending.status.Status.{Status}
use Rattle.pot_session.specs.Serving.{IsClosed}

-- The blinds of a job's relays, by group and by number, each with its stretch of the job's stream:
-- the 1,024 bytes from 1,024 times the stretch's number on. No two relays, be they of one group or
-- of two, have one stretch, and the stream does not come round before the last one.
pub record HaveStretches (seed : List ℕ) (session job : ℕ) (its : ℕ → List (List ℕ)) : Type
    0 where
  pub at : ℕ → ℕ → ℕ
  pub are : (g i : ℕ) (blind : List ℕ) → slice_get (its g) i ≡ Some blind
      → blind ≡ bytes_from (stream seed session job) (1024 * at g i) 1024
  pub once : (g i h k : ℕ) → i < length (its g) → k < length (its h) → at g i ≡ at h k
      → (g ≡ h) × (i ≡ k)
  pub inside : (g i : ℕ) → i < length (its g) → 1024 * at g i + 1024 ≤ 2 ^ 70

-- In a session that began with an image and closed, so it is of each job, with the blinds that its
-- relays had in the groups that the session left.
abbrev pub BlindsOfRun : Type 0
BlindsOfRun =
    (seed : List ℕ) (careful : Bool) (first : Contents) (steps : List Step)
    (room : Transition RoomState) (sink : Transition (List ℕ))
    (desk : Transition (Content Images)) (answer : Status)
    → IsImage first → (c : IsClosed seed careful first steps room sink desk answer)
    → (job : ℕ) → 0 < job
    → (its : ℕ → List (List ℕ)) × HaveBlinds c.leaves.groups job its
    × HaveStretches seed first.session job its

-- Two jobs, of one session or of two, have two streams of a seed: these are of two numbers.
abbrev pub StreamsApart : Type 0
StreamsApart =
    (s j t k : ℕ) → j < 2 ^ 32 → k < 2 ^ 32 → s * 2 ^ 32 + j ≡ t * 2 ^ 32 + k
    → (s ≡ t) × (j ≡ k)
