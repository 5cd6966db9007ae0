-- A closed example: the first session of a small rack, in which nothing was done.
use Rattle.std.specs.Prelude.{◌≡◌, []}
use Rattle.pot_bytes.specs.declared.rack.Rack.{Rack}
use Rattle.pot_session.specs.Desks.{begun}
use Rattle.pot_session.specs.Making.{empty_contents}
use Rattle.pot_theorem.specs.Hard.{HoldsInWorld}
use Rattle.pot_theorem.specs.Sessions.{AreInARow, ClosedSession}

-- one group of one data column, one parity column and one stripe
abbrev pub small : Rack
small =
    record {
      groups = 1;
      columns = 1;
      parity = 1;
      stripes = 1;
      geometry = record { fragments = 2; need = 1; shards = 1; blur = 0 };
    }

-- There is a session that began with the image of a new archive and meets all that is asked, and so
-- the theorem holds of it.
abbrev pub QuietSession : Type 0
QuietSession =
    (c : ClosedSession) × (c.first ≡ begun (empty_contents small)) × AreInARow c []
    × HoldsInWorld c []
