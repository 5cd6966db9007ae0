use Rattle.std.proofs.Common.{◌≡◌, ◌+◌, ◌-◌, ◌*◌, length}
use Rattle.pot_image.specs.Reading.{over, reading}
use Rattle.pot_image.specs.Tables.{slots, stripe_slots}
use Rattle.pot_image.proofs.slots.read_slots.Given as goal

abbrev pub invariant-loop-stripe : goal.invariant-loop-stripe
invariant-loop-stripe l = record {
  reads : reading (over l.stripe (l.rack.stripes - l.stripe) (stripe_slots l.cursor l.rack.columns (l.rack.columns + l.rack.parity)) l.slots.items) l.rest ≡ reading (slots l.cursor l.rack.columns (l.rack.columns + l.rack.parity) l.rack.stripes) l.bytes;
  count : length l.slots.items ≡ l.stripe * (l.rack.columns + l.rack.parity);
}
