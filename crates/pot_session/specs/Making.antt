-- A new archive.
use Rattle.std.specs.Prelude.{◌≡◌, ◌⊎◌, ℕ, List, [], Option, Some, None, Result, Ok, Err, IfErr}
use Rattle.std.specs.Prelude.{IsSome, codes, map, replicate, IsTrue}
use Rattle.std.specs.List.{range_with_len}
use Rattle.pot_bytes.specs.declared.rack.Rack.{Rack}
use Rattle.pot_outside.specs.Accounts.{Transition}
use Rattle.pot_outside.specs.Failing.{MayLeave}
use Rattle.pot_machine.specs.Making.{empty_table}
use Rattle.pot_image.specs.Images.{Contents}
use Rattle.pot_image.specs.Rules.{IsImage}
use Rattle.pot_image.specs.Spelling.{image_bytes}
use Rattle.pot_commands.specs.Streams.{Wrote, WroteSome}
use Rattle.pot_session.specs.declared.ending.status.Status.{Status}
use Rattle.pot_session.specs.declared.ending.status.Status.TheVariants as status
use Rattle.pot_session.specs.declared.ending.stop.Stop.{Stop}
use Rattle.pot_session.specs.declared.ending.stop.Stop.TheVariants as stop
use Rattle.pot_session.specs.Stops.{Refuses}

-- session 0, the empty table of each group, no record, and empty logs
abbrev pub empty_contents : Rack → Contents
empty_contents rack = record {
  session = 0;
  rack = rack;
  tables = map (empty_table rack) (range_with_len 0 rack.groups);
  records = [];
  group_logs = replicate rack.groups [];
  index_log = [];
}

-- The desk had no image and has the new one. It is refused where it has an image, which stays.
-- Where it failed, one that had an image has it still, and one that had none has the new one or
-- none.
abbrev pub MakesDesk : Rack → Transition (Option (List ℕ)) → Result (Unit {0}) Stop → Type 0
MakesDesk rack desk (Ok u) =
    (desk.before ≡ None) × (desk.after ≡ Some (image_bytes (empty_contents rack)))
MakesDesk rack desk (Err stop.Exists) = IsSome desk.before × (desk.after ≡ desk.before)
MakesDesk rack desk (Err stop.DeskFault) =
    (IsSome desk.before → desk.after ≡ desk.before)
    × MayLeave desk.before (image_bytes (empty_contents rack)) desk.after
MakesDesk rack desk (Err stop.NoMemory) = desk.after ≡ desk.before
MakesDesk rack desk (Err _) = ⊥

-- why no image was made, whether the desk tells its image or not
abbrev pub IsMakeStop : Stop → Type 0
IsMakeStop stop.Exists = Unit {0}
IsMakeStop stop.DeskFault = Unit {0}
IsMakeStop stop.NoMemory = Unit {0}
IsMakeStop _ = ⊥

-- what is written and answered: `ready` where the image was made, and else why not
abbrev pub InitAnswers : Transition (List ℕ) → Result (Unit {0}) Stop → Status → Type 0
InitAnswers sink (Ok u) answer =
    ((answer ≡ status.Good) × Wrote sink (codes "ready\n"))
    ⊎ ((answer ≡ status.SinkFault) × WroteSome sink (codes "ready\n"))
InitAnswers sink (Err s) answer = Refuses sink s answer

-- What `init` comes to. The image of a new archive keeps the rules of images.
pub record Inits (rack : Rack) (desk : Transition (Option (List ℕ))) (sink : Transition (List ℕ))
    (answer : Status) : Type 0 where
  pub made : Result (Unit {0}) Stop
  pub makes : IsTrue desk.tells → MakesDesk rack desk made
  pub which : IfErr made IsMakeStop
  pub image : IsImage (empty_contents rack)
  pub answers : InitAnswers sink made answer
