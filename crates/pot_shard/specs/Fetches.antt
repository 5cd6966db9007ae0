-- What a fetch makes of the blocks of m points of each fragment.
use Rattle.std.specs.Prelude.{◌≡◌, ◌≤◌, ◌<◌, ℕ, ◌-◌, List, length, take, drop, nat_eq}
use Rattle.std.specs.List.{flat_map, range_with_len, IsDistinct, Contains}
use Rattle.pot_bytes.specs.declared.rack.Geometry.{Geometry}
use Rattle.pot_object.specs.Pieces.{content_size, pieces_of}
use Rattle.pot_split.specs.Threshold.{IsJoin}
use Rattle.pot_shard.specs.FileLaws.{content_in, object_in, xor_of, IsStore}
use Rattle.pot_shard.specs.Places.{block_in}

-- m distinct points of the n of a fragment
pub record AreChosen (g : Geometry) (points : List ℕ) : Type 0 where
  pub enough : length points ≡ g.need
  pub distinct : IsDistinct nat_eq points
  pub each : (x : ℕ) → Contains points x → (1 ≤ x) × (x ≤ g.shards)

-- what stands from byte 32 on in the blocks of some points of a fragment
abbrev pub shares_in : Geometry → List ℕ → List ℕ → ℕ → ℕ → List ℕ → List ℕ
shares_in g file random i j points =
    flat_map (λ x. drop 32 (block_in g file random i j (x - 1))) points

-- what these shares are joined to
pub record IsJoinedAt (g : Geometry) (file random : List ℕ) (i j : ℕ)
    (points joined : List ℕ) : Type 0 where
  pub chosen : AreChosen g points
  pub wide : length joined ≡ content_size
  pub join : IsJoin points (shares_in g file random i j points) joined

-- the shares at some points of each fragment are joined to contents, and the contents of each piece
-- are XORed to an object
pub record IsFetched (g : Geometry) (file random : List ℕ) (points contents : ℕ → ℕ → List ℕ)
    (objects : ℕ → List ℕ) : Type 0 where
  pub joined : (i j : ℕ) → i < pieces_of (length file) → j < g.fragments
      → IsJoinedAt g file random i j (points i j) (contents i j)
  pub whole : (i : ℕ) → i < pieces_of (length file) → objects i ≡ xor_of (contents i) g.fragments

-- what stands in these objects behind their heads, one after another, cut to a length
abbrev pub cut_to : ℕ → (ℕ → List ℕ) → List ℕ
cut_to long objects =
    take long (flat_map (λ i. drop 64 (objects i)) (range_with_len 0 (pieces_of long)))

-- Whatever the points and the random bytes, a fetch gives the file.
pub record FetchLaws : Type 0 where
  pub contents : (g : Geometry) (file random : List ℕ) (i j : ℕ) (points joined : List ℕ)
      → IsStore g file random
      → i < pieces_of (length file) → j < g.fragments → IsJoinedAt g file random i j points joined
      → joined ≡ content_in g file random i j
  pub cuts : (g : Geometry) (file random : List ℕ) → IsStore g file random
      → cut_to (length file) (object_in file random) ≡ file
  pub file : (g : Geometry) (file random : List ℕ) (points contents : ℕ → ℕ → List ℕ)
      (objects : ℕ → List ℕ)
      → IsStore g file random → IsFetched g file random points contents objects
      → cut_to (length file) objects ≡ file
