-- A vault that was opened, and one that can end.
use Rattle.std.specs.Prelude.{◌≡◌, ◌≤◌, ℕ, List, length}
use Rattle.pot_bytes.specs.declared.rack.Rack.{Rack}
use Rattle.pot_machine.specs.Table.{Table}
use Rattle.pot_index.specs.declared.record.Record.{Record}
use Rattle.pot_rows.specs.Ends.{HasAllParts}
use Rattle.pot_shared.specs.Callers.{CanCall}
use Rattle.pot_shared.specs.Vaults.{VaultView}
use Rattle.pot_shared.specs.Groups.{AreFirstPasses, records_read, tables_read}
use Rattle.pot_shared.specs.Sharing.{HasAllButKept}
use Rattle.pot_shared.specs.Works.{Known}

-- passes that have all parts of their turns, but for those that the index keeps
pub record HaveAllParts (k : Known) : Type 0 where
  pub groups : HasAllButKept k.groups
  pub index : HasAllParts k.index

-- A vault of this rack was opened over these tables and records. Its passes can call it, have all
-- parts, and know what was read and what the openings of the groups logged.
pub record IsOpenedFrom (rack : Rack) (tables : List Table) (records : List Record)
    (v : VaultView) (k : Known) : Type 0 where
  pub is_rack : v.rack ≡ rack
  pub can_call : CanCall v k
  pub parts : HaveAllParts k
  pub first : AreFirstPasses k.groups k.index
  pub are_tables : tables_read k.groups ≡ tables
  pub are_records : records_read k.index ≡ records

-- A vault can end with passes that can call it and have all parts, and with places for its groups.
pub record CanEnd (v : VaultView) (k : Known) (places : ℕ) : Type 0 where
  pub can_call : CanCall v k
  pub parts : HaveAllParts k
  pub fits : length v.groups ≤ places
