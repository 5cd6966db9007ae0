use Rattle.std.proofs.Common.{◌≡◌}
use Rattle.pot_shared.specs.Ready.{AreReady}
use Rattle.pot_shared.specs.Blinds.{BeganNone}
use Rattle.pot_store.proofs.PointLemmas.{LookSofar}
use Rattle.pot_store.proofs.fragments.look_at_points.Given as goal

abbrev pub invariant-loop-x : goal.invariant-loop-x
invariant-loop-x g l =
    AreReady l.caller.vault.now.rack l.caller.vault.now.groups l.passes.groups
    × (l.passes.index ≡ l.fn.passes.index)
    × LookSofar l.caller.job l.kept.places l.from l.kept.geometry.shards l.kept.geometry.need l.x l.points l.fn.passes.groups l.passes.groups
    × BeganNone l.caller.job l.fn.passes.groups l.passes.groups
