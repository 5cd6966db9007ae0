-- What a count of the slots of a table gives.
use Rattle.std.specs.Prelude.{◌≡◌, ℕ, List, take, count_by}
use Rattle.pot_machine.specs.declared.cursor.Cursor.{Cursor}
use Rattle.pot_machine.specs.declared.slot.SlotState.{SlotState}
use Rattle.pot_machine.specs.Slot.{is_live, is_lost, is_broken}
use Rattle.pot_machine.specs.Table.{Table}
use Rattle.pot_group.specs.declared.counting.Counts.{Counts}

-- so many of these slots are Live, Lost and Broken, and this is the cursor
pub record CountsSlots (slots : List SlotState) (cursor : Cursor) (counts : Counts) : Type 0 where
  pub live : counts.live ≡ count_by is_live slots
  pub lost : counts.lost ≡ count_by is_lost slots
  pub broken : counts.broken ≡ count_by is_broken slots
  pub stripe : counts.stripe ≡ cursor.stripe
  pub column : counts.column ≡ cursor.column

abbrev pub AreSlotsCounted : Table → Counts → Type 0
AreSlotsCounted t counts = CountsSlots t.slots t.cursor counts

-- the same of the first `n` slots
abbrev pub CountsFirst : ℕ → Table → Counts → Type 0
CountsFirst n t counts = CountsSlots (take n t.slots) t.cursor counts
