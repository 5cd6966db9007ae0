-- The world that a program has.
use Rattle.std.specs.Prelude.{◌≡◌, ℕ, Bool, true, false, List, [], ◌∷◌, ◌++◌, map}
use Rattle.std.specs.Prelude.{if◌then◌else◌}
use Rattle.std.specs.declared.snapshot.Snapshot.{Snapshot}
use Rattle.pot_bytes.specs.declared.rack.Rack.{Rack}
use Rattle.pot_bytes.specs.Rack.{IsRack}
use Rattle.pot_index.specs.Index.{same_name}
use Rattle.pot_world.specs.declared.step.Step.{Step}
use Rattle.pot_world.specs.Data.{site_of}
use Rattle.pot_world.specs.World.{Original, Runs, UnderWay, World, first_world, kept_of}
use Rattle.pot_actors.specs.declared.split.OpenSplit.{OpenSplit}
use Rattle.pot_actors.specs.declared.parts.Parts.{Parts}
use Rattle.pot_actors.specs.Ledgers.{index_of}
use Rattle.pot_actors.specs.Seats.{actor_at}
use Rattle.pot_actors.specs.Splits.{under_way_of}

-- the splits that were begun, and what is kept of them
abbrev pub split_values : List (Snapshot OpenSplit) → List UnderWay
split_values ss = map (λ s. under_way_of s.value) ss

-- what a name has once a split is published: a store begins it anew, and a renewal adds its random
-- bytes
abbrev pub ended_by : Bool → UnderWay → Original → Original
ended_by false u o = record { file = u.file; randoms = u.random ∷ [] }
ended_by true u o = record o { randoms = o.randoms ++ u.random ∷ [] }

abbrev pub with_ended : UnderWay → (List ℕ → Original) → List ℕ → Original
with_ended u o name = if same_name name u.name then ended_by u.renews u (o u.name) else o name

-- the originals after splits that were published, one after another
unfoldable pub originals_from : (List ℕ → Original) → List UnderWay → List ℕ → Original
originals_from o [] = o
originals_from o (u ∷ us) = originals_from (with_ended u o) us

abbrev pub originals_of : List UnderWay → List ℕ → Original
originals_of us = originals_from (λ name. record { file = []; randoms = [] }) us

abbrev pub world_of : Parts → World
world_of p = record {
  site = site_of p.groups;
  index = index_of p.names;
  actors = actor_at p.seats.items;
  kept = map kept_of (split_values p.begun.items);
  originals = originals_of (split_values p.ended.items);
}

-- steps lead to it from the world that a rack begins with
abbrev pub IsWorldReached : World → Type 0
IsWorldReached w = (rack : Rack) × (steps : List Step) × IsRack rack × Runs steps (first_world rack) w
