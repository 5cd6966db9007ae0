use Rattle.std.proofs.Common.{◌≡◌, ◌-◌, IsTrue, length}
use Rattle.pot_rows.specs.Rows.{view_at}
use Rattle.pot_shared.specs.Ready.{AreReady}
use Rattle.pot_shared.proofs.PlaceLemmas.{IsMending}
use Rattle.pot_shared.proofs.vault.Vault.mend_place.Given as goal

abbrev pub invariant-steps : goal.invariant-steps
invariant-steps g l =
    AreReady l.self.rack l.self.groups l.passes.groups × (l.passes.index ≡ l.fn.passes.index)
    × IsMending (IsTrue g.A.Archive.account.tells) l.job l.place l.fn.pads l.fn.passes.groups l.passes.groups l.blind l.pads l.mended l.passed

abbrev pub decreases-steps : goal.decreases-steps
decreases-steps g l = 262145 - length (view_at l.passes.groups l.place.group).seen
