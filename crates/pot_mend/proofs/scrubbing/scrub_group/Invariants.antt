use Rattle.std.proofs.Common.{◌≡◌, ◌-◌, length}
use Rattle.pot_rows.specs.Rows.{view_at}
use Rattle.pot_shared.specs.Ready.{AreReady}
use Rattle.pot_mend.proofs.ScrubLemmas.{ScrubSofar}
use Rattle.pot_mend.proofs.scrubbing.scrub_group.Given as goal

abbrev pub invariant-sweeps : goal.invariant-sweeps
invariant-sweeps g l =
    AreReady l.vault.rack l.vault.groups l.passes.groups
    × (l.passes.index ≡ l.fn.passes.index)
    × (l.from.group ≡ l.group)
    × ScrubSofar l.job l.group l.from.stripe l.from.column l.scrubbed.seen l.scrubbed.gone l.fn.passes.groups l.passes.groups

abbrev pub decreases-sweeps : goal.decreases-sweeps
decreases-sweeps g l = 262145 - length (view_at l.passes.groups l.group).seen
