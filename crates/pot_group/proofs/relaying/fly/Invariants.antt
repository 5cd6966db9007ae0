use Rattle.std.proofs.Common.{◌≡◌}
use Rattle.pot_machine.proofs.Mapped.{mapped}
use Rattle.pot_group.specs.Relaying.{flown_to}
use Rattle.pot_group.proofs.relaying.fly.Given as goal

abbrev pub invariant-loop-flight : goal.invariant-loop-flight
invariant-loop-flight l = l.flight-items ≡ mapped (flown_to l.stripe l.last l.fn.sum) l.flight-index l.fn.flights
