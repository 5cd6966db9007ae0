-- The file of one byte, as who has column 0 of group 1 sees it: the block of its second fragment,
-- and none of the first.
use Rattle.std.specs.Prelude.{◌≡◌, ℕ, Some, List, [], ◌∷◌}
use Rattle.pot_shard.specs.FileLaws.{IsStore}
use Rattle.pot_shard.specs.Places.{block_in}
use Rattle.pot_index.specs.declared.record.Split.{Split}
use Rattle.pot_world.specs.declared.step.Step.TheVariants as step
use Rattle.pot_world.specs.SameShape.{Other, with_other}
use Rattle.pot_world.specs.World.{World, Runs, first_world, group_at}
use Rattle.pot_audit.specs.declared.spot.Spot.{Spot}
use Rattle.pot_audit.specs.Hiding.{other_random}
use Rattle.law_examples.specs.Sessions.{rack}
use Rattle.law_examples.specs.Stored.{file, geometry, name, place_in}

-- what the holder has: archive 3
abbrev pub spots : List Spot
spots = record { group = 1; column = 0 } ∷ []

-- another file of that length
abbrev pub other_file : List ℕ
other_file = 105 ∷ []

abbrev pub split : Split
split = record { geometry = geometry; places = place_in 0 ∷ place_in 1 ∷ [] }

-- Another store leaves another file under the name, and in archive 3 the very block that the first
-- one leaves there.
pub record LooksAlike (random : List ℕ) (v : World) : Type 0 where
  pub other : (v.originals name).file ≡ other_file
  pub held : (group_at v 1).state.held 3 0 ≡ Some (block_in geometry file random 0 1 0)

abbrev pub HolderSeesTheSame : Type 0
HolderSeesTheSame =
    (random : List ℕ) → IsStore geometry file random
    → (o : Other) × (v : World)
    × Runs (with_other o (step.Store 1 name file random) ∷ step.PutNext 1 ∷ step.PutNext 1
    ∷ step.Publish 1 ∷ []) (first_world rack) v
    × LooksAlike random v

-- The random bytes with which the other file has that block: a store takes them, and with the files
-- exchanged they give the first ones back.
abbrev pub BytesComeBack : Type 0
BytesComeBack =
    (random : List ℕ) → IsStore geometry file random
    → IsStore geometry other_file (other_random rack spots split file other_file random)
    × (other_random rack spots split other_file file
    (other_random rack spots split file other_file random) ≡ random)
