-- An example of the theorem: a session that stored a file, and another file in its place.
use Rattle.std.specs.Prelude.{◌≡◌, ◌++◌, ℕ, List, [], ◌∷◌, length}
use Rattle.pot_bytes.specs.Lists.{AreBytes}
use Rattle.pot_shard.specs.FileBlocks.{file_blocks}
use Rattle.pot_script.specs.declared.command.Command.TheVariants as commands
use Rattle.pot_script.specs.declared.grouping.Step.{Step}
use Rattle.pot_script.specs.declared.grouping.Step.TheVariants as steps
use Rattle.pot_script.specs.declared.reply.Reply.{Reply}
use Rattle.pot_script.specs.declared.reply.Reply.TheVariants as replies
use Rattle.pot_world.specs.Reached.{Site}
use Rattle.pot_audit.specs.declared.spot.Spot.{Spot}
use Rattle.pot_audit.specs.declared.veil.Veil.{Veil}
use Rattle.pot_audit.specs.Hiding.{AreHidden}
use Rattle.pot_audit.specs.Veils.{AreVeils}
use Rattle.pot_replies.specs.Digests.{NoTwoAlike}
use Rattle.pot_promises.specs.Veils.{HasStored, stream_blocks}
use Rattle.pot_theorem.specs.Another.{blocks_at}
use Rattle.pot_theorem.specs.Hard.{HoldsInWorld}
use Rattle.pot_theorem.specs.Sessions.{AreInARow, ClosedSession, HasReplies}
use Rattle.pot_bytes.specs.declared.rack.Place.{Place}
use Rattle.pot_bytes.specs.declared.rack.Geometry.{Geometry}

abbrev pub name : List ℕ
name = 97 ∷ []

-- a file of one byte
abbrev pub file : List ℕ
file = 104 ∷ []

abbrev pub stores : List Step
stores = steps.One (commands.Store name file) ∷ []

abbrev pub said : List Reply
said = replies.Stored name 1 2 ∷ []

-- The blocks of another file stand at these places, with some random bytes.
pub record StandsThere (geometry : Geometry) (places : List Place) (other : List ℕ) : Type 0 where
  pub random : List ℕ
  pub site : Site
  pub stand : blocks_at places site ≡ file_blocks geometry other random

-- A first session stored the file. To a coalition for which the audit of its record says HAVE below
-- NEED, every other file of one byte may stand at its places.
abbrev pub AnotherStands : Type 0
AnotherStands =
    (c : ClosedSession) → AreInARow c [] → (seed : List ℕ)
    → (replied : HasReplies seed c.first c.story stores said)
    → (holds : HoldsInWorld c [])
    × ((its : HasStored seed c.first 1 name file 1 2 replied.done)
    × ((spots : List Spot) (veils : List Veil) (other : List ℕ)
    → AreVeils c.first.rack spots its.kept veils → AreHidden veils → AreBytes other
    → length other ≡ 1
    → NoTwoAlike (stream_blocks seed c.first 1 file ++ blocks_at its.kept.places holds.world.site)
    → StandsThere its.kept.geometry its.kept.places other))
