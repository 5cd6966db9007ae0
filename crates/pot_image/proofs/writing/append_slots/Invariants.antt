use Rattle.std.proofs.Common.{◌≡◌, ◌++◌, ◌*◌, All, flat_map, take}
use Rattle.pot_machine.specs.Table.{width}
use Rattle.pot_image.specs.Rules.{HasSlotDigest}
use Rattle.pot_image.specs.Spelling.{slot_bytes}
use Rattle.pot_image.proofs.writing.append_slots.Given as goal

abbrev pub invariant-loop-stripe : goal.invariant-loop-stripe
invariant-loop-stripe l = (l.out.items ≡ l.fn.out.items ++ flat_map slot_bytes (take (l.stripe * width l.table) l.table.slots)) × All HasSlotDigest (take (l.stripe * width l.table) l.table.slots)
