use Rattle.pot_audit.specs.Veils.{AddsVeils}
use Rattle.pot_audit.proofs.auditing.audit_split.Given as goal

abbrev pub invariant-loop-piece : goal.invariant-loop-piece
invariant-loop-piece l =
    AddsVeils l.coalition.rack.now l.coalition.spots.now (record { geometry = l.geometry; places = l.places }) l.split l.piece l.fn.veils.items l.veils.items
