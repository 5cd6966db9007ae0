-- The room that an index keeps, and what it keeps of the records that were brought.
use Rattle.std.specs.Prelude.{◌≡◌, ◌≤◌, ◌+◌, List, Vec, length, map, filter, vec_capacity}
use Rattle.std.specs.Global.{Global}
use Rattle.std.specs.declared.snapshot.Snapshot.{Snapshot}
use Rattle.pot_bytes.specs.Rack.{log_bound}
use Rattle.pot_index.specs.declared.entry.IndexEntry.{IndexEntry}
use Rattle.pot_index.specs.declared.record.Record.{Record}
use Rattle.pot_index.specs.declared.reservation.Reservation.{Reservation}
use Rattle.pot_index.specs.Entries.{brings}

abbrev pub values : List (Snapshot Record) → List Record
values ss = map (λ s. s.value) ss

-- room for a record of each reserved name, and for all entries of the log; a snapshot for each
-- entry that brings a record
pub record HasAllRoom (records : Vec Record Global) (reserved : Vec Reservation Global)
    (log : Vec IndexEntry Global) (brought : Vec (Snapshot Record) Global) : Type 0 where
  pub records_room : length records.items + length reserved.items ≤ vec_capacity records
  pub log_room : log_bound ≤ vec_capacity log
  pub brought_room : log_bound ≤ vec_capacity brought
  pub each : length brought.items ≡ length (filter brings log.items)
