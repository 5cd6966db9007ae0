-- What a step leaves, and steps one after another.
use Rattle.std.specs.Prelude.{◌≡◌, ◌<◌, ℕ, false, List, Result, Ok, Err}
use Rattle.pot_world.specs.declared.acts.ActFault.{ActFault}
use Rattle.pot_world.specs.declared.acts.ActFault.TheVariants as act_fault
use Rattle.pot_world.specs.declared.step.Step.{Step}
use Rattle.pot_world.specs.World.{Allowed, World, made, store_begun, store_by}
use Rattle.pot_actors.specs.declared.parts.Parts.{Parts}
use Rattle.pot_actors.specs.Worlds.{world_of}

-- The world became v, since this was so; or it is not so, or memory was not found, and the world is
-- as before.
abbrev pub Becomes : Type 0 → World → World → World → Result (Unit {0}) ActFault → Type 0
Becomes P v old new (Ok u) = P × (new ≡ v)
Becomes P v old new (Err act_fault.NotAllowed) = (¬ P) × (new ≡ old)
Becomes P v old new (Err act_fault.NoMemory) = new ≡ old

-- a step was made where it is allowed
abbrev pub ActorSteps : Step → Parts → Parts → Result (Unit {0}) ActFault → Type 0
ActorSteps x old new result =
    Becomes (Allowed x (world_of old)) (made x (world_of old)) (world_of old) (world_of new) result

-- a store was begun; or memory was not found, and the world is as before
abbrev pub BeginsStore : {E : Type 0} → ℕ → List ℕ → List ℕ → List ℕ → Parts → Parts
    → Result (Unit {0}) E → Type 0
BeginsStore a name file random old new (Ok u) =
    world_of new
    ≡ store_by false a (store_begun name file (world_of old).index.rack.geometry random)
    (world_of old)
BeginsStore a name file random old new (Err e) = world_of new ≡ world_of old
