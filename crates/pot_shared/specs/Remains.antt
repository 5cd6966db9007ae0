-- Remains before a vault is opened and after: what is among them, and for how much they have space.
use Rattle.std.specs.Prelude.{◌≡◌, ◌≤◌, ℕ, []}
use Rattle.std.specs.Vec.{vec_capacity}
use Rattle.pot_shared.specs.declared.remains.Remains.{Remains}

-- there is no table, no log and no record among them
pub record AreRemainsFresh {A : Type 0} (r : Remains A) : Type 0 where
  pub tables : r.tables.items ≡ []
  pub logs : r.logs.items ≡ []
  pub records : r.records.items ≡ []
  pub index_log : r.index_log.items ≡ []

-- and no archive either
pub record IsBare {A : Type 0} (r : Remains A) : Type 0 where
  pub fresh : AreRemainsFresh r
  pub hand : r.hand.items ≡ []

-- they have space for the tables and the logs of so many groups, and for so many archives
pub record HasSpace {A : Type 0} (groups archives : ℕ) (r : Remains A) : Type 0 where
  pub tables : groups ≤ vec_capacity r.tables
  pub logs : groups ≤ vec_capacity r.logs
  pub hand : archives ≤ vec_capacity r.hand

-- the space that they had
pub record KeepsSpace {A : Type 0} (old new : Remains A) : Type 0 where
  pub tables : vec_capacity new.tables ≡ vec_capacity old.tables
  pub logs : vec_capacity new.logs ≡ vec_capacity old.logs
  pub hand : vec_capacity new.hand ≡ vec_capacity old.hand
