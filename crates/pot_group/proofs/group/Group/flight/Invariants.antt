use Rattle.std.proofs.Common.{◌≡◌, drop}
use Rattle.pot_steps.specs.Flights.{flight_in}
use Rattle.pot_group.proofs.group.Group.flight.Given as goal

abbrev pub invariant-loop-flight : goal.invariant-loop-flight
invariant-loop-flight g l = flight_in (drop l.flight-index l.flight-items) l.stripe ≡ flight_in l.self.flights l.stripe
