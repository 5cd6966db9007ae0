use Rattle.std.proofs.Common.{◌+◌, sym, subst}
use Rattle.pot_audit.specs.Veils.{AddsVeils}
use Rattle.pot_audit.proofs.Adding.{one_added}
use Rattle.pot_audit.proofs.auditing.audit_split.Goals as goal

pub loop-piece-preserved : goal.loop-piece-preserved
loop-piece-preserved c =
    subst (λ l. AddsVeils c.args.coalition.now.rack.now c.args.coalition.now.spots.now (record { geometry = c.args.geometry.now; places = c.args.places.now }) c.args.split (c.loop-piece.piece + 1) c.args.veils.now.items l)
    (sym c.in-Ok.ensures.items)
    (one_added c.args.coalition.now.rack.now c.args.coalition.now.spots.now _ c.args.split c.loop-piece.piece c.args.veils.now.items c.loop-piece.veils.items c.veil_of-veil.result c.loop-piece.invariant c.veil_of-veil.ensures)
