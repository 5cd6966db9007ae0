-- An example of the frame: what a session does to a block that the session before put.
use Rattle.std.specs.Prelude.{◌≡◌, ℕ, List, [], ◌∷◌, Some, slice_get}
use Rattle.pot_bytes.specs.Digests.{digest_of}
use Rattle.pot_bytes.specs.Lists.{IsBlock}
use Rattle.pot_outside.specs.Counts.{Rose}
use Rattle.pot_machine.specs.Machine.{after}
use Rattle.pot_machine.specs.Making.{empty_table}
use Rattle.pot_machine.specs.Table.{Table}
use Rattle.pot_group.specs.Remaining.{HasServed}
use Rattle.pot_image.specs.Images.{Contents}
use Rattle.pot_session.specs.Desks.{begun}
use Rattle.pot_session.specs.Making.{empty_contents}
use Rattle.pot_promises.specs.Remaining.{HasClosed, HoldsOf, PastSession}
use Rattle.run_examples.specs.OnePut.{put_of}
use Rattle.run_examples.specs.Quiet.{small}

-- the table to which the put leads
abbrev pub full : List ℕ → Table
full block = after (empty_table small 0) (put_of block)

-- and the image that the session of it left
abbrev pub left_by : List ℕ → Contents
left_by block =
    record (begun (empty_contents small)) {
      tables = full block ∷ [];
      group_logs = (put_of block ∷ []) ∷ [];
    }

-- The next session logged nothing in the group, gave each archive back, and archive 0 lost nothing
-- in it.
pub record LogsNothing (block : List ℕ) (x : PastSession) : Type 0 where
  pub first : x.first ≡ begun (left_by block)
  pub closed : HasClosed x
  pub back : x.missing ≡ []
  pub logs : x.last.group_logs ≡ [] ∷ []
  pub lost : Rose (x.room.before.means 0).losses (x.room.after.means 0).losses → ⊥

-- Archive 0 holds a block of that digest when it ended, and the slot of the table that it left is
-- still its own.
pub record IsStillThere (block : List ℕ) (x : PastSession) (written : Table) : Type 0 where
  pub holds : HoldsOf (x.room.after.means 0) 0 (digest_of block)
  pub served : HasServed written 0 0 (digest_of block) 0

-- Archive 0 held the block when it began: so it does when it ended, by the law of one session and
-- by that of an archive that has served the slot.
abbrev pub StillThere : Type 0
StillThere =
    (block : List ℕ) → IsBlock block → (x : PastSession) → LogsNothing block x
    → (x.room.before.means 0).held 0 ≡ Some block
    → HoldsOf (x.room.after.means 0) 0 (digest_of block)
    × ((written : Table) → slice_get x.last.tables 0 ≡ Some written
    → IsStillThere block x written)

-- And by the law of sessions in a row over an older image, which here is that of the put.
abbrev pub OlderFinds : Type 0
OlderFinds =
    (block : List ℕ) → IsBlock block → (x : PastSession) → LogsNothing block x
    → (x.room.before.means 0).held 0 ≡ Some block
    → HoldsOf (x.room.after.means 0) 0 (digest_of block)
