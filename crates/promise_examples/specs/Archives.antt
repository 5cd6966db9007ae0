-- What laws say of archives that failed, or lost blocks, and of the blinds of relays.
use Rattle.std.specs.Prelude.{◌≡◌, ◌≢◌, ◌<◌, ◌+◌, ◌*◌, ◌^◌, ℕ, Bool, IsTrue, true, None, List, []}
use Rattle.std.specs.Prelude.{◌∷◌, length, suc}
use Rattle.std.specs.List.{AllByRecursion}
use Rattle.pot_bytes.specs.Digests.{digest_of}
use Rattle.pot_bytes.specs.Sums.{xor, zero_block}
use Rattle.pot_bytes.specs.declared.rack.Rack.{Rack}
use Rattle.pot_outside.specs.Accounts.{Content, Transition}
use Rattle.pot_outside.specs.Desks.{Images}
use Rattle.pot_outside.specs.Counts.{Rose}
use Rattle.pot_outside.specs.Rooms.{RoomState}
use Rattle.pot_machine.specs.declared.entry.Entry.{Entry}
use Rattle.pot_machine.specs.declared.entry.Entry.TheVariants as entry
use Rattle.pot_machine.specs.Machine.{after}
use Rattle.pot_machine.specs.Making.{empty_table}
use Rattle.pot_machine.specs.Table.{Table}
use Rattle.pot_index.specs.declared.record.Record.{Record}
use Rattle.pot_script.specs.declared.command.Command.TheVariants as commands
use Rattle.pot_script.specs.declared.grouping.Step.{Step}
use Rattle.pot_script.specs.declared.grouping.Step.TheVariants as steps
use Rattle.pot_script.specs.declared.reply.Reply.TheVariants as replies
use Rattle.pot_script.specs.Steps.{IsWholeStep}
use Rattle.pot_image.specs.Images.{Contents}
use Rattle.pot_image.specs.Rules.{FitsTogether, IsImage}
use Rattle.pot_replies.specs.Fetches.{seen_of}
use Rattle.pot_replies.specs.Sections.{Section, FollowsSection, mine}
use Rattle.pot_replies.specs.Sessions.{Replied}
use Rattle.pot_commands.specs.Rows.{Row}
use Rattle.pot_commands.specs.Steps.{steps_of}
use Rattle.pot_shared.specs.Blinded.{HaveBlinds}
use Rattle.pot_session.specs.declared.ending.status.Status.{Status}
use Rattle.pot_session.specs.Losses.{BeginWith}
use Rattle.pot_session.specs.Serving.{IsClosed, Leaves, setting_of}
use Rattle.pot_promises.specs.Openings.{OpensAsMeant}
use Rattle.pot_promises.specs.Stretches.{HaveStretches}
use Rattle.promise_examples.specs.Scripts.{name}

-- one group of one data column, one parity column and one stripe
abbrev pub small : Rack
small =
    record {
      groups = 1;
      columns = 1;
      parity = 1;
      stripes = 1;
      geometry = record { fragments = 2; need = 1; shards = 1; blur = 0 };
    }

-- its table once a block was put: archive 0 serves the block, and archive 1 the parity block
abbrev pub full : List ℕ → Table
full block =
    after (empty_table small 0)
    (entry.Put 1 0 0 (digest_of block) (digest_of (xor zero_block block)) true)

-- FAULTS

abbrev pub scrubs : List Step
scrubs = steps.One (commands.Scrub 0) ∷ []

-- A scrub is answered `fault 0 0`, and the log has the fault of the slot: archive 0 counted it.
abbrev pub FaultIsCounted : Type 0
FaultIsCounted =
    (block seed : List ℕ) (first last : Contents) (room : Transition RoomState) (story : Section)
    → FitsTogether first → IsTrue room.tells → Leaves room [] first last story
    → first.tables ≡ full block ∷ [] → last.group_logs ≡ (entry.Fault 1 0 0 ∷ []) ∷ []
    → (done later : Section) → FollowsSection done later story
    → Replied (Row (setting_of seed first)) 1 (steps_of scrubs) (replies.Fault 0 0 ∷ []) done
    → Rose (room.before.means 0).faults (room.after.means 0).faults

-- LOST

abbrev pub fetches : List Step
fetches = steps.One (commands.Fetch name) ∷ []

-- fewer points of a fragment were seen than are needed, by logs that these begin with
pub record SawFew (fragment : ℕ) (logs : List (List Entry)) : Type 0 where
  pub section : Section
  pub stands : BeginWith section logs
  pub number : ℕ
  pub numbered : fragment ≡ suc number
  pub kept : Record
  pub few : seen_of (mine 1 section).own kept 0 number < kept.geometry.need

-- A fetch is answered `lost` where no archive lost a block.
abbrev pub LostSawFew : Type 0
LostSawFew =
    (seed : List ℕ) (first last : Contents) (room : Transition RoomState) (story : Section)
    → FitsTogether first → IsTrue room.tells → Leaves room [] first last story
    → ((n : ℕ) → Rose (room.before.means n).losses (room.after.means n).losses → ⊥)
    → (done later : Section) → FollowsSection done later story → (fragment have need : ℕ)
    → Replied (Row (setting_of seed first)) 1 (steps_of fetches)
    (replies.Lost name 0 fragment have need ∷ []) done
    → AllByRecursion (IsWholeStep first.rack) fetches → SawFew fragment last.group_logs

-- THE OPENING

-- Archive 0 came to a session without the block of its slot, and no count of it or of archive 1
-- rose: the opening calls the slot Gone.
abbrev pub OpeningSaysGone : Type 0
OpeningSaysGone =
    (block : List ℕ) (first last : Contents) (room : Transition RoomState) (story : Section)
    → FitsTogether first → IsTrue room.tells → Leaves room [] first last story
    → first.tables ≡ full block ∷ []
    → ((n : ℕ) → (Rose (room.before.means n).faults (room.after.means n).faults → ⊥)
    × (Rose (room.before.means n).losses (room.after.means n).losses → ⊥))
    → (room.before.means 0).held 0 ≡ None
    → (opens : OpensAsMeant room.before.means (full block) (story.before 0))
    × (opens.gone 0 0 ≡ true)

-- BLINDS

-- Of one job the first relay in group 0 and the first one in group 1 have two stretches.
pub record HaveTwo (seed : List ℕ) (session : ℕ) (its : ℕ → List (List ℕ)) : Type 0 where
  pub stretches : HaveStretches seed session 1 its
  pub two : 0 < length (its 0) → 0 < length (its 1) → stretches.at 0 0 ≢ stretches.at 1 0

abbrev pub BlindsAreTwo : Type 0
BlindsAreTwo =
    (seed : List ℕ) (careful : Bool) (first : Contents) (steps : List Step)
    (room : Transition RoomState) (sink : Transition (List ℕ))
    (desk : Transition (Content Images)) (answer : Status)
    → IsImage first → (c : IsClosed seed careful first steps room sink desk answer)
    → (its : ℕ → List (List ℕ)) × HaveBlinds c.leaves.groups 1 its × HaveTwo seed first.session its

-- A job of one session and a job of another one have two streams.
abbrev pub StreamsAreTwo : Type 0
StreamsAreTwo =
    (s t j k : ℕ) → s ≢ t → j < 2 ^ 32 → k < 2 ^ 32 → s * 2 ^ 32 + j ≢ t * 2 ^ 32 + k
