-- A session that was opened, what was known then, and a session that can close.
use Rattle.std.specs.Prelude.{◌≡◌, ◌≤◌, ℕ, List, length}
use Rattle.pot_outside.specs.Rooms.{RoomState}
use Rattle.pot_bytes.specs.declared.rack.Rack.{Rack}
use Rattle.pot_machine.specs.Table.{Table}
use Rattle.pot_index.specs.declared.record.Record.{Record}
use Rattle.pot_image.specs.Images.{Contents}
use Rattle.pot_shared.specs.Groups.{AreLow, AreServed, HaveCome, IsServedFrom, records_read}
use Rattle.pot_shared.specs.Groups.{tables_read}
use Rattle.pot_shared.specs.Opening.{CanEnd, IsOpenedFrom}
use Rattle.pot_shared.specs.Remains.{HasSpace, IsBare}
use Rattle.pot_shared.specs.Works.{Known}
use Rattle.pot_commands.specs.Holding.{AreOut}
use Rattle.pot_session.specs.declared.session.closing.Opened.{Opened}

-- A session was opened with this image: its vault over the tables and the records, and with space
-- for all that it can leave.
pub record IsOpenedWith {A : Type 0} (image : Contents) (o : Opened A) : Type 0 where
  pub session : o.session ≡ image.session
  pub rack : o.rack ≡ image.rack
  pub vault : IsOpenedFrom image.rack image.tables image.records o.vault
      o.passes
  pub places : length o.vault.groups ≤ o.spaces
  pub bare : IsBare o.remains
  pub space : HasSpace (length image.tables) 512 o.remains

-- an image of this session, this rack, these tables and these records
pub record IsSessionBegun (first : Contents) (session : ℕ) (rack : Rack) (tables : List Table)
    (records : List Record) : Type 0 where
  pub is_session : first.session ≡ session
  pub is_rack : first.rack ≡ rack
  pub are_tables : first.tables ≡ tables
  pub are_records : first.records ≡ records

-- what is known of a session when it is opened: what its passes knew, its image, and what the room
-- meant
pub record Start : Type 0 where
  pub old : Known
  pub first : Contents
  pub room : RoomState

-- the start of this session, whose room tells or does not
pub record IsStartOf {A : Type 0} (told : Type 0) (s : Start) (o : Opened A) : Type 0 where
  pub served : IsServedFrom told s.room.means s.old o.passes
  pub begun : IsSessionBegun s.first o.session o.rack (tables_read o.passes.groups)
      (records_read o.passes.index)

-- A session can close: it was served since it was opened, and its archives are those that are out
-- of the room.
pub record CanClose {A : Type 0} (room : RoomState) (o : Opened A) : Type 0 where
  pub old : Known
  pub numbers : List ℕ
  pub served : AreServed old o.passes
  pub come : HaveCome old o.passes numbers
  pub out : AreOut room numbers
  pub low : AreLow numbers
  pub vault : CanEnd o.vault o.passes o.spaces
  pub bare : IsBare o.remains
  pub space : HasSpace (length (tables_read o.passes.groups)) 512 o.remains
  pub rack : o.rack ≡ o.vault.rack
