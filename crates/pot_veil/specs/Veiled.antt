-- Which points of a split a coalition of data archives sees, and when it learns nothing of the
-- file.
use Rattle.std.specs.Prelude.{◌≡◌, ◌<◌, ◌≤◌, ℕ, ◌+◌, ◌&&◌, ◌==◌, Bool, true, List, length, map}
use Rattle.std.specs.Prelude.{filter}
use Rattle.std.specs.List.{list_any, range_with_len}
use Rattle.pot_bytes.specs.declared.rack.Geometry.{Geometry}
use Rattle.pot_bytes.specs.declared.rack.Place.{Place}
use Rattle.pot_object.specs.Pieces.{pieces_of}
use Rattle.pot_shard.specs.FileLaws.{IsStore}
use Rattle.pot_shard.specs.Places.{block_in, place_at}
use Rattle.pot_veil.specs.Explained.{explained_file}

-- a data column of a group
pub record Spot : Type 0 where
  pub group : ℕ
  pub column : ℕ

-- how a file is split, and the places of its blocks by piece, fragment and point
pub record Split : Type 0 where
  pub geometry : Geometry
  pub places : List Place

-- whether a place lies in the coalition
abbrev pub is_seen : List Spot → Place → Bool
is_seen coalition place =
    list_any (λ c. (c.group == place.group) && (c.column == place.column)) coalition

-- the points of fragment j of piece i that the coalition sees
abbrev pub seen_points : List Spot → Split → ℕ → ℕ → List ℕ
seen_points coalition s i j =
    map (λ p. p
    + 1) (filter (λ p. is_seen coalition (place_at s.geometry s.places i j p))
    (range_with_len 0 s.geometry.shards))

-- fragment j is the least of piece i of which fewer points are seen than are needed
pub record IsHiddenAt (coalition : List Spot) (s : Split) (i j : ℕ) : Type 0 where
  pub fragment : j < s.geometry.fragments
  pub few : length (seen_points coalition s i j) < s.geometry.need
  pub least : (l : ℕ) → l < j → s.geometry.need ≤ length (seen_points coalition s i l)

-- Each piece has such a fragment. A record of a file is veiled where each of its splits is.
abbrev pub IsVeiledSplit : List Spot → Split → ℕ → (ℕ → ℕ) → Type 0
IsVeiledSplit coalition s pieces hidden = (i : ℕ) → i < pieces → IsHiddenAt coalition s i (hidden i)

-- the random bytes with which another file has the same seen blocks
abbrev pub explained_split : List Spot → Split → (ℕ → ℕ) → List ℕ → List ℕ → List ℕ → List ℕ
explained_split coalition s hidden file other random =
    explained_file s.geometry file other hidden (λ i. seen_points coalition s i (hidden i)) random

-- a store of a file whose split is veiled, and another file of its length
pub record IsVeiledStore (coalition : List Spot) (s : Split) (hidden : ℕ → ℕ)
    (file other random : List ℕ) : Type 0 where
  pub store : IsStore s.geometry file random
  pub other_store : IsStore s.geometry other random
  pub same_length : length other ≡ length file
  pub veiled : IsVeiledSplit coalition s (pieces_of (length file)) hidden

-- Whatever a veiled coalition sees, any other file of that length gives it too, under other random
-- bytes, one for one.
pub record VeilLaws : Type 0 where
  pub store : (coalition : List Spot) (s : Split) (hidden : ℕ → ℕ) (file other random : List ℕ)
      → IsVeiledStore coalition s hidden file other random
      → IsStore s.geometry other (explained_split coalition s hidden file other random)
  pub blocks : (coalition : List Spot) (s : Split) (hidden : ℕ → ℕ) (file other random : List ℕ)
      (i j p : ℕ)
      → IsVeiledStore coalition s hidden file other random → i < pieces_of (length file)
      → j < s.geometry.fragments → p < s.geometry.shards
      → is_seen coalition (place_at s.geometry s.places i j p) ≡ true
      → block_in s.geometry other (explained_split coalition s hidden file other random) i j p
      ≡ block_in s.geometry file random i j p
  pub back : (coalition : List Spot) (s : Split) (hidden : ℕ → ℕ) (file other random : List ℕ)
      → IsVeiledStore coalition s hidden file other random
      → explained_split coalition s hidden other file
      (explained_split coalition s hidden file other random) ≡ random
