use Rattle.std.proofs.Common.{◌≡◌}
use Rattle.pot_audit.specs.Exposure.{exposed_points}
use Rattle.pot_audit.specs.Veils.{IsLeastOf}
use Rattle.pot_audit.proofs.auditing.veil_of.Given as goal

abbrev pub invariant-loop-fragment : goal.invariant-loop-fragment
invariant-loop-fragment l = record {
  split : l.veil.split ≡ l.split;
  piece : l.veil.piece ≡ l.piece;
  need : l.veil.need ≡ l.geometry.need;
  least : IsLeastOf (exposed_points l.coalition.rack.now l.coalition.spots.now (record { geometry = l.geometry; places = l.places }) l.piece) l.fragment l.veil.fragment l.veil.have;
}
