use Rattle.std.proofs.Common.{◌≡◌, ◌+◌, ◌-◌, ◌*◌}
use Rattle.pot_shared.specs.Ready.{AreReady}
use Rattle.pot_mend.proofs.RowLemmas.{Drawing, Repairing}
use Rattle.pot_mend.proofs.repairing.repair_group.Given as goal

abbrev pub invariant-places : goal.invariant-places
invariant-places g l =
    AreReady l.vault.rack l.vault.groups l.passes.groups
    × (l.passes.index ≡ l.fn.passes.index)
    × Repairing l.job l.group l.from.stripe l.from.column l.repaired l.fn.pads l.pads l.fn.passes.groups l.passes.groups
    × Drawing l.job l.from.stripe l.from.column l.fn.pads l.pads l.fn.passes.groups l.passes.groups
    × (l.from.group ≡ l.group)

abbrev pub decreases-places : goal.decreases-places
decreases-places g l = 32 * (4096 - l.from.stripe) + (18 - l.from.column)
