use Rattle.std.proofs.Common.{◌≡◌, ◌+◌, ◌-◌, ◌*◌, length}
use Rattle.pot_image.specs.Reading.{several, reading}
use Rattle.pot_image.specs.Tables.{slot_behind, stripe_slots}
use Rattle.pot_image.proofs.slots.read_stripe.Given as goal

abbrev pub invariant-loop-column : goal.invariant-loop-column
invariant-loop-column l = record {
  reads : reading (several l.column (l.column-end - l.column) (slot_behind l.cursor l.rack.columns (l.rack.columns + l.rack.parity) l.stripe) l.slots.items) l.rest ≡ reading (stripe_slots l.cursor l.rack.columns (l.rack.columns + l.rack.parity) l.stripe l.fn.slots.items) l.bytes;
  count : length l.slots.items ≡ l.stripe * (l.rack.columns + l.rack.parity) + l.column;
}
