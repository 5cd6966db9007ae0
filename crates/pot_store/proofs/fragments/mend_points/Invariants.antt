use Rattle.std.proofs.Common.{◌≡◌}
use Rattle.pot_shared.specs.Ready.{GroupPasses, AreReady}
use Rattle.pot_shared.specs.Blinds.{Blinds}
use Rattle.pot_store.specs.Reads.{PointsTried}
use Rattle.pot_store.proofs.fragments.mend_points.Given as goal

abbrev pub invariant-loop-x : goal.invariant-loop-x
invariant-loop-x g l =
    AreReady l.caller.vault.now.rack l.caller.vault.now.groups l.passes.groups
    × (l.passes.index ≡ l.fn.passes.index)
    × ((first : GroupPasses) → PointsTried l.caller.job l.kept.places l.from l.kept.geometry.shards l.kept.geometry.need 0 l.fn.points first l.fn.passes.groups
    → PointsTried l.caller.job l.kept.places l.from l.kept.geometry.shards l.kept.geometry.need l.x l.points first l.passes.groups)
    × Blinds l.caller.job l.x l.fn.pads l.pads l.fn.passes.groups l.passes.groups
