use Rattle.std.proofs.Common.{take}
use Rattle.pot_world.specs.World.{Runs}
use Rattle.pot_actors.specs.Worlds.{world_of}
use Rattle.pot_actors.proofs.world.World.run.Given as goal

abbrev pub invariant-loop-at : goal.invariant-loop-at
invariant-loop-at l = Runs (take l.at l.steps) (world_of l.fn.self) (world_of l.self-inside.parts)
