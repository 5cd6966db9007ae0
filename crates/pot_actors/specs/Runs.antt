-- Runs of a world, and what an actor has fetched.
use Rattle.std.specs.Prelude.{◌≡◌, ◌<◌, ℕ, List, Option, Some, None, Result, Ok, Err, length}
use Rattle.std.specs.Prelude.{slice_get, take}
use Rattle.pot_index.specs.declared.record.Record.{Record}
use Rattle.pot_world.specs.declared.step.Step.{Step}
use Rattle.pot_world.specs.World.{Allowed, HasGathered, Runs, World}
use Rattle.pot_world.specs.Worlds.{GatheredGive}
use Rattle.pot_actors.specs.declared.world.WorldFault.{WorldFault}
use Rattle.pot_actors.specs.declared.world.WorldFault.TheVariants as fault

-- All steps were made, each allowed in its turn; or those before the first that is not allowed; or
-- those before one for which memory was not found.
abbrev pub RunsTo : List Step → World → World → Result (Unit {0}) WorldFault → Type 0
RunsTo steps w v (Ok u) = Runs steps w v
RunsTo steps w v (Err (fault.NotLegal at)) =
    Runs (take at steps) w v × ((x : Step) × (slice_get steps at ≡ Some x) × (¬ Allowed x v))
RunsTo steps w v (Err (fault.NoMemory at)) = Runs (take at steps) w v × (at < length steps)

-- The file that the blocks give that the actor gathered since its last fetch, which is that of the
-- Store that was published under the name; none exactly where they are not m of each fragment of
-- the record found, or none was found.
abbrev pub ActorFetched : World → ℕ → Option (List ℕ) → Type 0
ActorFetched w a None =
    (r : Record) → (w.actors a).found ≡ Some r → ¬ HasGathered r (w.actors a).gathered
ActorFetched w a (Some file) =
    (r : Record) × ((w.actors a).found ≡ Some r) × HasGathered r (w.actors a).gathered
    × GatheredGive r (w.actors a).gathered file
    × (file ≡ (w.originals r.name).file)
