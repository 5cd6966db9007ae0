-- What a session comes to that the words ask for, by the bytes of the source, what the sink got,
-- what the desk held and holds, and what the room meant and means.
use Rattle.std.specs.Prelude.{◌≡◌, ◌++◌, ℕ, Bool, List, [], Option, Some, Err, flat_map, IsTrue}
use Rattle.pot_outside.specs.Accounts.{Content, Transition, Stays, held_in}
use Rattle.pot_outside.specs.Desks.{HadItsImage, Images, MayCome, image_met, now_in}
use Rattle.pot_outside.specs.Rooms.{RoomState, MeansStay}
use Rattle.pot_script.specs.declared.grouping.Step.{Step}
use Rattle.pot_machine.specs.Table.{archives_in}
use Rattle.pot_image.specs.declared.image.Image.{Image}
use Rattle.pot_image.specs.Images.{contents}
use Rattle.pot_image.specs.Spelling.{image_bytes}
use Rattle.pot_session.specs.declared.ending.status.Status.{Status}
use Rattle.pot_session.specs.declared.ending.stop.Stop.{Stop}
use Rattle.pot_session.specs.Commands.{IsScriptRead, RefusesScript}
use Rattle.pot_session.specs.Desks.{ImageGoesOn, HoldsImage, RefusesDesk, IsDeskStop, DeskKeeps, IsKeepStop}
use Rattle.pot_session.specs.Desks.{IfWritten, begun}
use Rattle.pot_commands.specs.Holding.{Untouched}
use Rattle.pot_commands.specs.Taking.{asked_by}
use Rattle.pot_session.specs.Serving.{IsEnd, Serves}
use Rattle.pot_session.specs.Stops.{Refuses}
use Rattle.pot_image.specs.Rules.{IsImage}

-- what a call met of the source, the sink, the desk and the room
pub record Seen : Type 0 where
  pub source : Transition (List ℕ)
  pub sink : Transition (List ℕ)
  pub desk : Transition (Content Images)
  pub room : Transition RoomState

-- what was seen, from its parts
abbrev pub seen_by : Transition (List ℕ) → Transition (List ℕ) → Transition (Content Images) → Transition RoomState
    → Seen
seen_by source sink desk room =
    record { source = source; sink = sink; desk = desk; room = room }

-- BEFORE THE STEPS

-- the desk held this image, from which a session may begin, and the source had these steps
pub record IsSessionOf (source : Transition (List ℕ)) (desk : Transition (Option (List ℕ))) (i : Image)
    (steps : List Step) : Type 0 where
  pub goes_on : ImageGoesOn i
  pub image : IsTrue desk.tells → HoldsImage desk.before i
  pub script : IsScriptRead i.rack source steps

-- a session may begin with this image and these steps: the image keeps the rules of images and is
-- on the desk, one session on from the one that was read, and no other came there
pub record IsPrepared (source : Transition (List ℕ)) (desk : Transition Images) (image : Image)
    (steps : List Step) : Type 0 where
  pub read : Image
  pub of : IsSessionOf source (now_in desk) read steps
  pub is : contents image ≡ begun (contents read)
  pub rules : IsImage (contents image)
  pub kept : IsTrue desk.tells → desk.after.now ≡ Some (image_bytes (contents image))
  pub came : IsTrue desk.tells
      → MayCome desk.before.past (image_bytes (contents image)) desk.after.past
  pub had : IsTrue desk.tells → HadItsImage desk.after

-- Why no session begins: the desk has no image from which one may; or the source has no script; or
-- the desk did not take the image with which it would begin.
pub data Stops (source : Transition (List ℕ)) (desk : Transition Images) (s : Stop) : Type 0 where
  AtDesk : IsDeskStop s → (IsTrue desk.tells → RefusesDesk desk.before.now s) → Stays desk
      → Stops source desk s
  AtScript : (i : Image) → ImageGoesOn i → (IsTrue desk.tells → HoldsImage desk.before.now i)
      → RefusesScript i.rack source s → Stays desk → Stops source desk s
  AtOpening : (i : Image) (steps : List Step) → IsSessionOf source (now_in desk) i steps → IsKeepStop s
      → IfWritten (Err s) (IsImage (begun (contents i)))
      → (IsTrue desk.tells → DeskKeeps (now_in desk) (image_bytes (begun (contents i))) (Err s))
      → (IsTrue desk.tells
      → MayCome desk.before.past (image_bytes (begun (contents i))) desk.after.past)
      → Stops source desk s

-- THE WHOLE

-- A session did not begin, and it is written why; or it began, one session on from the image that
-- was read, with an image that keeps the rules of images, and ended so. Archives that neither this
-- image names nor a step asks for were not touched.
pub data Holds (seed : List ℕ) (careful : Bool) (seen : Seen) (answer : Status) : Type 0 where
  Stopped : (s : Stop) → Stops seen.source (held_in seen.desk) s → Refuses seen.sink s answer
      → MeansStay seen.room → Holds seed careful seen answer
  Served : (i : Image) (steps : List Step) → IsSessionOf seen.source (image_met seen.desk) i steps
      → IsImage (begun (contents i)) → (IsTrue seen.source.tells → seen.source.after ≡ [])
      → Serves seed careful (begun (contents i)) steps seen.room seen.sink seen.desk answer
      → IsEnd answer
      → Untouched (flat_map archives_in i.tables.items ++ asked_by steps) seen.room.before
      seen.room.after
      → Holds seed careful seen answer
