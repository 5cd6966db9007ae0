use Rattle.std.proofs.Common.{◌≡◌, ◌++◌, ◌*◌, All, flat_map, take, drop}
use Rattle.pot_machine.specs.Table.{width}
use Rattle.pot_image.specs.Rules.{HasSlotDigest}
use Rattle.pot_image.specs.Spelling.{slot_bytes}
use Rattle.pot_image.proofs.writing.append_stripe.Given as goal

abbrev pub invariant-loop-column : goal.invariant-loop-column
invariant-loop-column l = (l.out.items ≡ l.fn.out.items ++ flat_map slot_bytes (take l.column (drop (l.stripe * width l.table) l.table.slots))) × All HasSlotDigest (take l.column (drop (l.stripe * width l.table) l.table.slots))
