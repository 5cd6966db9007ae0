-- What the laws of runs say of the file of one byte while it is stored, and behind it.
use Rattle.std.specs.Prelude.{◌≡◌, ℕ, Some, List, [], ◌∷◌, slice_get}
use Rattle.pot_machine.specs.Machine as machine
use Rattle.pot_shard.specs.FileLaws.{IsStore}
use Rattle.pot_shard.specs.Places.{block_in}
use Rattle.pot_veil.specs.Veiled as veil
use Rattle.pot_veil.specs.Veiled.{explained_split}
use Rattle.pot_index.specs.Index.{ReplaysIndex, names_read}
use Rattle.pot_world.specs.declared.step.Step.{Step}
use Rattle.pot_world.specs.declared.step.Step.TheVariants as step
use Rattle.pot_world.specs.Forward.{HasSplit, WasPublished, number_of}
use Rattle.pot_world.specs.Reached.{NoneOddly}
use Rattle.pot_world.specs.World.{UnderWay, World, Runs, first_world, group_at}
use Rattle.law_examples.specs.Sessions.{rack}
use Rattle.law_examples.specs.Stored.{file, geometry, loses, name, place_in}
use Rattle.law_examples.specs.Audited.{other_file, split}

-- HALF A STORE

-- the store with its first block, and then the rest of it
abbrev pub half : List ℕ → List Step
half random = step.Store 1 name file random ∷ step.PutNext 1 ∷ []

abbrev pub rest : List Step
rest = step.PutNext 1 ∷ step.Publish 1 ∷ []

-- The place of the first block is the first one of the record that is published later.
pub record IsPublishedAt (w v : World) : Type 0 where
  pub u : UnderWay
  pub under_way : (w.actors 1).under_way ≡ Some u
  pub published : WasPublished v u (number_of 1 rest w)
  pub first : slice_get published.split.places 0 ≡ Some (place_in 0)

abbrev pub PlaceIsPublished : Type 0
PlaceIsPublished =
    (random : List ℕ) → IsStore geometry file random
    → (w : World) × Runs (half random) (first_world rack) w
    × ((v : World) × Runs rest w v × IsPublishedAt w v)

-- A published split stays when a block of it is lost.
abbrev pub SplitStays : Type 0
SplitStays =
    (random : List ℕ) → IsStore geometry file random
    → (v : World) × Runs (loses random) (first_world rack) v
    × HasSplit v name file random 0 split

-- WHAT EACH WORLD KEEPS

-- The log of each group leads to its table, with no relay that ended oddly, and that of the index
-- to its names.
pub record IsReplayed (v : World) : Type 0 where
  pub first : machine.Replays (group_at v 0).first (group_at v 0).state.log
      (group_at v 0).state.table
  pub none_odd : NoneOddly (group_at v 1).state.log
  pub index : ReplaysIndex rack (names_read []) v.index.log v.index.now

abbrev pub StoreIsReplayed : Type 0
StoreIsReplayed =
    (random : List ℕ) → IsStore geometry file random
    → (v : World) × Runs (loses random) (first_world rack) v × IsReplayed v

-- THE VEIL OF A FILE

-- what the holder of column 0 of group 1 sees
abbrev pub coalition : List veil.Spot
coalition = record { group = 1; column = 0 } ∷ []

abbrev pub veil_split : veil.Split
veil_split = record { geometry = geometry; places = split.places }

-- the random bytes with which the other file has its second block
abbrev pub explained : List ℕ → List ℕ → List ℕ → List ℕ
explained of other random = explained_split coalition veil_split (λ i. 0) of other random

-- The other file has the very second block; a store takes its random bytes; and with the files
-- exchanged they give the first ones back.
abbrev pub VeilHides : Type 0
VeilHides =
    (random : List ℕ) → IsStore geometry file random
    → (block_in geometry other_file (explained file other_file random) 0 1 0
    ≡ block_in geometry file random 0 1 0)
    × IsStore geometry other_file (explained file other_file random)
    × (explained other_file file (explained file other_file random) ≡ random)
