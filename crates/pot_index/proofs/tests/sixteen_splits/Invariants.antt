use Rattle.std.proofs.Common.{◌≡◌}
use Rattle.pot_index.specs.Stories.{HasSmall}
use Rattle.pot_index.proofs.tests.sixteen_splits.Given as goal

abbrev pub invariant-loop-stripe : goal.invariant-loop-stripe
invariant-loop-stripe g l = record { rack : l.index.rack ≡ l.initial.index.rack; there : HasSmall l.index l.a }
