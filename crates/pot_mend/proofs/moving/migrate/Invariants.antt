use Rattle.std.proofs.Common.{◌≡◌, ◌-◌, length}
use Rattle.pot_rows.specs.Rows.{view_at}
use Rattle.pot_shared.specs.Ready.{AreReady}
use Rattle.pot_mend.proofs.MoveLemmas.{IsMoving}
use Rattle.pot_mend.proofs.moving.migrate.Given as goal

abbrev pub invariant-steps : goal.invariant-steps
invariant-steps g l =
    AreReady l.vault.rack l.vault.groups l.passes.groups × (l.passes.index ≡ l.fn.passes.index)
    × IsMoving l.job l.group l.column l.copied l.fn.passes.groups l.passes.groups

abbrev pub decreases-steps : goal.decreases-steps
decreases-steps g l = 262145 - length (view_at l.passes.groups l.group).seen
