-- Where a group stands.
use Rattle.std.specs.Prelude.{◌≡◌}
use Rattle.pot_machine.specs.Table.{Table}
use Rattle.pot_group.specs.declared.standing.Standing.{Standing}

-- The cursor is the table's. Of the parity block nothing is promised: it changes no answer.
abbrev pub IsCursorStanding : Table → Standing → Type 0
IsCursorStanding t s = s.cursor ≡ t.cursor
