use Rattle.std.proofs.Common.{◌≡◌, drop}
use Rattle.pot_machine.specs.Table.{relay_in, relay_at}
use Rattle.pot_machine.proofs.parts.Parts.relay.Given as goal

abbrev pub invariant-loop-relay : goal.invariant-loop-relay
invariant-loop-relay l = relay_in (drop l.relay-index l.relay-items) l.stripe ≡ relay_at l.self l.stripe
