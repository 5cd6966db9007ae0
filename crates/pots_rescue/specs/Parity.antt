-- The parity slots of the stripes at the cursors.
use Rattle.std.specs.Prelude.{ℕ, ◌+◌, Bool, true, false, nat_lt, if◌then◌else◌, Option, Some, None}
use Rattle.std.specs.Prelude.{List, [], ◌∷◌, flat_map, slice_get}
use Rattle.std.specs.List.{range_with_len}
use Rattle.pot_bytes.specs.declared.digest.Digest.{Digest}
use Rattle.pot_machine.specs.declared.slot.SlotState.{SlotState}
use Rattle.pot_machine.specs.declared.slot.SlotState.TheVariants.{Void, Live, Lost, Broken}
use Rattle.pot_machine.specs.Table.{Table, serving_at, slot_at}
use Rattle.pot_image.specs.Images.{Contents}
use Rattle.pots_rescue.specs.declared.parity.ParitySlot.{ParitySlot}

-- one of them: where it stands, the slot behind all stripes, and its digest
abbrev pub parity_slot : ℕ → ℕ → ℕ → ℕ → Bool → Digest → List ParitySlot
parity_slot g archive s z live d = record {
  group = g;
  archive = archive;
  stripe = s;
  spare = z;
  live = live;
  digest = d;
} ∷ []

-- a slot in this state, if it is not Void
abbrev pub if_filled : ℕ → ℕ → ℕ → ℕ → SlotState → List ParitySlot
if_filled g archive s z Void = []
if_filled g archive s z (Live d) = parity_slot g archive s z true d
if_filled g archive s z (Lost d) = parity_slot g archive s z false d
if_filled g archive s z (Broken d) = parity_slot g archive s z false d

-- the slot of the parity column of number n, from 0: these stand behind the data columns
abbrev pub parity_at : ℕ → Table → ℕ → ℕ → List ParitySlot
parity_at g t s n =
    if_filled g (serving_at t s (t.data_columns + n)) s t.stripes (slot_at t s (t.data_columns + n))

-- those of a stripe, by column
unfoldable pub in_stripe : ℕ → Table → ℕ → List ParitySlot
in_stripe g t s = flat_map (parity_at g t s) (range_with_len 0 t.parity)

-- those of the stripe at a group's cursor, which may stand behind the last one
abbrev pub in_table : ℕ → Table → List ParitySlot
in_table g t = if nat_lt t.cursor.stripe t.stripes then in_stripe g t t.cursor.stripe else []

-- those of a group, which has a table or not
abbrev pub in_group : ℕ → Option Table → List ParitySlot
in_group g None = []
in_group g (Some t) = in_table g t

-- those of the first groups, by group
unfoldable pub in_groups : List Table → ℕ → List ParitySlot
in_groups tables groups = flat_map (λ g. in_group g (slice_get tables g)) (range_with_len 0 groups)

-- those of all groups of the rack
abbrev pub in_image : Contents → List ParitySlot
in_image v = in_groups v.tables v.rack.groups
