-- What was written so far are the next bytes of the stream, which stands after them.
use Rattle.std.proofs.Common.{◌≡◌, ◌≤◌, ◌-◌, length, take}
use Rattle.pot_pads.specs.Pads.{next_bytes, moved}
use Rattle.pot_pads.proofs.PadStream.fill_bytewise.Given as goal

abbrev pub invariant-bytes : goal.invariant-bytes
invariant-bytes l = record {
  in_range : l.at ≤ length l.out;
  written : take l.at l.out ≡ next_bytes l.initial.self l.at;
  place : l.self ≡ moved l.initial.self l.at;
}

abbrev pub decreases-bytes : goal.decreases-bytes
decreases-bytes l = length l.out - l.at
