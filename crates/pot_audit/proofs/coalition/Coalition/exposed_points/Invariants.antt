use Rattle.std.proofs.Common.{◌≡◌, ◌≤◌}
use Rattle.pot_machine.specs.Table.{count}
use Rattle.pot_audit.specs.Exposure.{is_exposed_at}
use Rattle.pot_audit.proofs.coalition.Coalition.exposed_points.Given as goal

abbrev pub invariant-loop-point : goal.invariant-loop-point
invariant-loop-point l = record {
  is : l.count ≡ count l.point (is_exposed_at l.self.rack.now l.self.spots.now (record { geometry = l.geometry; places = l.places }) l.piece l.fragment);
  few : l.count ≤ l.point;
}
