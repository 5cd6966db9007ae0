-- The rules that every table of a group keeps.
use Rattle.std.specs.Prelude.{◌≡◌, ◌≢◌, ◌<◌, ◌≤◌, ℕ, ◌*◌, None, IfSome, IsTrue, length, All}
use Rattle.std.specs.Prelude.{AllPairs, nat_le}
use Rattle.pot_machine.specs.declared.relay.Relay.{Relay}
use Rattle.pot_machine.specs.Slot.{is_void, is_unsound}
use Rattle.pot_machine.specs.Column.{names}
use Rattle.pot_machine.specs.Table.{Table, width, slot_at, column_at}

-- 1 to 16 data columns, one or two parity columns, 1 to 4,096 stripes, and a slot for each place
pub record HasSize (t : Table) : Type 0 where
  pub data_columns : (1 ≤ t.data_columns) × (t.data_columns ≤ 16)
  pub parity : (1 ≤ t.parity) × (t.parity ≤ 2)
  pub stripes : (1 ≤ t.stripes) × (t.stripes ≤ 4096)
  pub columns : length t.columns ≡ width t
  pub slots : length t.slots ≡ t.stripes * width t
  pub relays : length t.relays ≤ 16

-- the cursor is at a data column of a stripe, or at column 0 behind the last stripe
pub record HasCursor (t : Table) : Type 0 where
  pub stripe : t.cursor.stripe ≤ t.stripes
  pub column : t.cursor.column < t.data_columns
  pub behind : t.cursor.stripe ≡ t.stripes → t.cursor.column ≡ 0

-- which slots are Void
pub record HasVoids (t : Table) : Type 0 where
  -- in each stripe the data slots that are not Void are the first columns
  pub first : (s c k : ℕ) → s < t.stripes → c ≤ k → k < t.data_columns
      → IsTrue (is_void (slot_at t s c)) → IsTrue (is_void (slot_at t s k))
  -- each parity slot is Void exactly where the first data slot is, and so where all data slots are
  pub parity : (s c : ℕ) → s < t.stripes → t.data_columns ≤ c → c < width t
      → is_void (slot_at t s c) ≡ is_void (slot_at t s 0)
  -- all slots of the stripes after the cursor's are Void
  pub after : (s c : ℕ) → t.cursor.stripe < s → s < t.stripes → c < width t
      → IsTrue (is_void (slot_at t s c))
  -- in the cursor's stripe the data slots that are not Void are exactly those before the cursor
  pub cursor : (c : ℕ) → t.cursor.stripe < t.stripes → c < t.data_columns
      → is_void (slot_at t t.cursor.stripe c) ≡ nat_le t.cursor.column c

-- homes and targets are distinct, and no move is past the last stripe
pub record HasColumns (t : Table) : Type 0 where
  pub target : (c : ℕ) → c < width t
      → IfSome (column_at t c).moving (λ m. (m.to ≢ (column_at t c).home) × (m.upto ≤ t.stripes))
  pub distinct : (c k number : ℕ) → c < width t → k < width t
      → IsTrue (names (column_at t c) number) → IsTrue (names (column_at t k) number) → c ≡ k

-- a relay whose target is Lost or Broken. It skips no column, or another than its target, which it
-- can only where there are two parity columns
pub record IsStanding (t : Table) (r : Relay) : Type 0 where
  pub stripe : r.stripe < t.stripes
  pub target : r.target < width t
  pub unsound : IsTrue (is_unsound (slot_at t r.stripe r.target))
  pub skip : IfSome r.skip (λ u. (u < width t) × (u ≢ r.target))
  pub single : t.parity ≡ 1 → r.skip ≡ None
  pub last : IfSome r.last (λ l. l < width t)

-- the relays stand in different stripes
pub record HasRelays (t : Table) : Type 0 where
  pub apart : AllPairs (λ r q. r.stripe ≢ q.stripe) t.relays
  pub standing : All (IsStanding t) t.relays

-- all rules of a table
pub record IsTable (t : Table) : Type 0 where
  pub size : HasSize t
  pub cursor : HasCursor t
  pub voids : HasVoids t
  pub columns : HasColumns t
  pub relays : HasRelays t
