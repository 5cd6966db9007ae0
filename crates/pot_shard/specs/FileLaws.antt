-- What the shards of a file are good for: any m shards of each fragment give the file back.
use Rattle.std.specs.Prelude.{◌≡◌, ◌≤◌, ◌<◌, ℕ, List, length, map, take, drop, nat_eq}
use Rattle.std.specs.List.{flat_map, range_with_len, Contains, IsDistinct}
use Rattle.pot_bytes.specs.Lists.{AreBytes}
use Rattle.pot_bytes.specs.declared.rack.Geometry.{Geometry}
use Rattle.pot_bytes.specs.Rack.{IsGeometry}
use Rattle.pot_object.specs.Assembly.{AreObjectsOf, IsLeastMissing, IsSeries}
use Rattle.pot_object.specs.Objects.{object}
use Rattle.pot_object.specs.Pieces.{content_size, longest, object_size, pieces_of}
use Rattle.pot_shard.specs.FileBlocks.{content_of, fragment_shards, fragments_of, piece_len}
use Rattle.pot_shard.specs.FileBlocks.{piece_random, random_len}
use Rattle.pot_shard.specs.declared.shard.Shard.{Shard}
use Rattle.pot_split.specs.Secrecy.{meaning}
use Rattle.pot_split.specs.Threshold.{IsJoin}

-- a file and random bytes that a store of it takes
pub record IsStore (g : Geometry) (file random : List ℕ) : Type 0 where
  pub geometry : IsGeometry g
  pub fits : length file ≤ longest
  pub taken : length random ≡ random_len (pieces_of (length file)) g
  pub file_bytes : AreBytes file
  pub random_bytes : AreBytes random

-- an object and random bytes that a piece takes
pub record IsPiece (g : Geometry) (object random : List ℕ) : Type 0 where
  pub geometry : IsGeometry g
  pub long : length object ≡ object_size
  pub taken : length random ≡ piece_len g
  pub object_bytes : AreBytes object
  pub random_bytes : AreBytes random

-- the object of piece i, from 0
abbrev pub object_in : List ℕ → List ℕ → ℕ → List ℕ
object_in file random i = object (take 16 random) file i

-- the content of fragment j of piece i, both from 0
abbrev pub content_in : Geometry → List ℕ → List ℕ → ℕ → ℕ → List ℕ
content_in g file random i j =
    content_of g (fragments_of g (object_in file random i) (piece_random g i random))
    (piece_random g i random) j

-- the shards of fragment j of piece i, both from 0
abbrev pub shards_in : Geometry → List ℕ → List ℕ → ℕ → ℕ → List Shard
shards_in g file random i j =
    fragment_shards g (fragments_of g (object_in file random i) (piece_random g i random))
    (piece_random g i random) j

-- m of these shards, at distinct points
pub record AreEnough (m : ℕ) (shards held : List Shard) : Type 0 where
  pub enough : length held ≡ m
  pub distinct : IsDistinct nat_eq (map (λ s. s.x) held)
  pub each : (s : Shard) → Contains held s → Contains shards s

-- what the shares of these shards are joined to
pub record IsJoined (held : List Shard) (joined : List ℕ) : Type 0 where
  pub wide : length joined ≡ content_size
  pub join : IsJoin (map (λ s. s.x) held) (flat_map (λ s. s.share) held) joined

-- the XOR of the fragments that stand in k contents from byte 64 on
abbrev pub xor_of : (ℕ → List ℕ) → ℕ → List ℕ
xor_of contents k = meaning object_size (flat_map (λ j. drop 64 (contents j)) (range_with_len 0 k))

-- m shards of each fragment are held; their shares are joined to contents, and the contents of a
-- piece are XORed to an object
pub record IsRestored (g : Geometry) (file random : List ℕ) (held : ℕ → ℕ → List Shard)
    (contents : ℕ → ℕ → List ℕ) (objects : ℕ → List ℕ)
    : Type 0 where
  pub enough : (i j : ℕ) → i < pieces_of (length file) → j < g.fragments
      → AreEnough g.need (shards_in g file random i j) (held i j)
  pub joined : (i j : ℕ) → i < pieces_of (length file) → j < g.fragments
      → IsJoined (held i j) (contents i j)
  pub whole : (i : ℕ) → i < pieces_of (length file) → objects i ≡ xor_of (contents i) g.fragments

-- objects that may be assembled, of which none is missing, and that are those of this file alone
pub record AreAssembledTo (file objects : List ℕ) : Type 0 where
  pub series : IsSeries objects
  pub none_missing : (piece : ℕ) → ¬ IsLeastMissing objects piece
  pub only : (other : List ℕ) → AreObjectsOf objects other → other ≡ file

-- Whatever the random bytes, any m shards of each fragment give the file back.
pub record FileLaws : Type 0 where
  pub contents : (g : Geometry) (file random : List ℕ) (i j : ℕ) (held : List Shard)
      (joined : List ℕ)
      → IsStore g file random → i < pieces_of (length file) → j < g.fragments
      → AreEnough g.need (shards_in g file random i j) held → IsJoined held joined
      → joined ≡ content_in g file random i j
  pub objects : (g : Geometry) (file random : List ℕ) (i : ℕ) → IsStore g file random
      → i < pieces_of (length file)
      → xor_of (content_in g file random i) g.fragments ≡ object_in file random i
  pub restores : (g : Geometry) (file random : List ℕ) (held : ℕ → ℕ → List Shard)
      (contents : ℕ → ℕ → List ℕ) (objects : ℕ → List ℕ)
      → IsStore g file random → IsRestored g file random held contents objects
      → AreAssembledTo file (flat_map objects (range_with_len 0 (pieces_of (length file))))
