use Rattle.std.proofs.Common.{◌≡◌}
use Rattle.pot_machine.specs.Machine.{hopped}
use Rattle.pot_machine.proofs.Mapped.{mapped}
use Rattle.pot_machine.proofs.changes.hop.Given as goal

abbrev pub invariant-loop-relay : goal.invariant-loop-relay
invariant-loop-relay l = l.relay-items ≡ mapped (hopped l.stripe l.column) l.relay-index l.fn.relays
