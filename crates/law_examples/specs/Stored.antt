-- A file of one byte in two groups: stored, its first block lost and mended, and fetched.
use Rattle.std.specs.Prelude.{◌≡◌, ◌≤◌, ℕ, zero, suc, false, Some, List, [], ◌∷◌, ◌++◌, Contains}
use Rattle.pot_bytes.specs.declared.rack.Geometry.{Geometry}
use Rattle.pot_bytes.specs.declared.rack.Place.{Place}
use Rattle.pot_bytes.specs.Lists.{IsBlock}
use Rattle.pot_machine.specs.Slot.{is_void}
use Rattle.pot_machine.specs.Table.{slot_at}
use Rattle.pot_shard.specs.FileLaws.{IsStore}
use Rattle.pot_shard.specs.Places.{block_in}
use Rattle.pot_index.specs.declared.record.Record.{Record}
use Rattle.pot_world.specs.declared.step.Step.{Step}
use Rattle.pot_world.specs.declared.step.Step.TheVariants as step
use Rattle.pot_world.specs.Group.{WorldGroup, look, mend, sound_block}
use Rattle.pot_world.specs.World.{World, Runs, first_world, group_at}
use Rattle.pot_world.specs.Worlds.{GatheredGive}
use Rattle.law_examples.specs.Sessions.{rack}

abbrev pub geometry : Geometry
geometry = rack.geometry

abbrev pub name : List ℕ
name = 97 ∷ []

abbrev pub file : List ℕ
file = 104 ∷ []

-- block 0 comes to group 0, and block 1 to group 1
abbrev pub place_in : ℕ → Place
place_in group = record { group = group; column = 0; stripe = 0 }

-- actor 1 stores the file with these random bytes
abbrev pub stores : List ℕ → List Step
stores random =
    step.Store 1 name file random ∷ step.PutNext 1 ∷ step.PutNext 1 ∷ step.Publish 1 ∷ []

-- and archive 0 loses its block
abbrev pub loses : List ℕ → List Step
loses random = stores random ++ step.Lose 0 0 ∷ []

-- or actor 2 fetches it
abbrev pub fetches : List ℕ → List Step
fetches random =
    stores random
    ++ step.Fetch 2 name ∷ step.LookAt 2 (place_in 0) ∷ step.LookAt 2 (place_in 1) ∷ []

-- The blocks of the file were written to their places, which are in use.
pub record AreBlocksWritten (random : List ℕ) (v : World) : Type 0 where
  pub first : (group_at v 0).written 0 0 ≡ block_in geometry file random 0 0 0
  pub second : (group_at v 1).written 0 0 ≡ block_in geometry file random 0 1 0
  pub used : is_void (slot_at (group_at v 0).state.table 0 0) ≡ false

-- So it is after a store, and when a block was lost.
abbrev pub StoreIsWritten : Type 0
StoreIsWritten =
    (random : List ℕ) → IsStore geometry file random
    → (v : World) × Runs (loses random) (first_world rack) v × AreBlocksWritten random v

-- so many mends of the first place by job 2
abbrev pub mended : ℕ → List ℕ → WorldGroup → WorldGroup
mended zero blind g = g
mended (suc n) blind g = mended n blind (mend 2 0 0 blind g)

-- After seven mends at most the place has the block that was written there.
pub record IsBack (blind : List ℕ) (g : WorldGroup) : Type 0 where
  pub mends : ℕ
  pub few : mends ≤ 7
  pub back : sound_block (mended mends blind g) 0 0 ≡ Some ((mended mends blind g).written 0 0)

-- So it is of the lost block, behind a look at it.
abbrev pub LossIsMended : Type 0
LossIsMended =
    (random blind : List ℕ) → IsStore geometry file random → IsBlock blind
    → (v : World) × Runs (loses random) (first_world rack) v
    × IsBack blind (look 2 0 0 (group_at v 0))

-- What actor 2 gathered gives the file, and nothing but the file.
pub record GivesFile (v : World) : Type 0 where
  pub found : Record
  pub is : (v.actors 2).found ≡ Some found
  pub gives : GatheredGive found (v.actors 2).gathered file
  pub alone : (other : List ℕ) → GatheredGive found (v.actors 2).gathered other → other ≡ file

abbrev pub FetchGivesFile : Type 0
FetchGivesFile =
    (random : List ℕ) → IsStore geometry file random
    → (v : World) × Runs (fetches random) (first_world rack) v × GivesFile v

-- and whatever it gathered at the first place is the first block
abbrev pub GatheredIsBlock : Type 0
GatheredIsBlock =
    (random : List ℕ) → IsStore geometry file random
    → (v : World) × Runs (fetches random) (first_world rack) v
    × ((b : List ℕ) → Contains (v.actors 2).gathered (record { place = place_in 0; block = b })
    → b ≡ block_in geometry file random 0 0 0)
