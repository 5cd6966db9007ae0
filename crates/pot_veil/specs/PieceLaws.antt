-- What explained random bytes of a piece keep.
use Rattle.std.specs.Prelude.{◌≡◌, ◌≢◌, ◌<◌, ℕ, ◌+◌, List, length, slice_index}
use Rattle.pot_bytes.specs.Lists.{AreBytes}
use Rattle.pot_bytes.specs.declared.rack.Geometry.{Geometry}
use Rattle.pot_split.specs.Threshold.{AreNonzero}
use Rattle.pot_shard.specs.FileBlocks.{fragments_of, fragment_shards, fragment_len, head_len}
use Rattle.pot_shard.specs.FileBlocks.{part_at, shard_at_place}
use Rattle.pot_shard.specs.FileLaws.{IsPiece}
use Rattle.pot_veil.specs.Explained.{content_at, explained}

-- a piece, another object, and fewer seen points of fragment j than are needed
pub record IsPieceVeiled (g : Geometry) (object other : List ℕ) (j : ℕ) (seen random : List ℕ) : Type
    0 where
  pub piece : IsPiece g object random
  pub other_piece : IsPiece g other random
  pub fragment : j < g.fragments
  pub points : AreNonzero seen
  pub bytes : AreBytes seen
  pub few : length seen < g.need

pub record PieceLaws : Type 0 where
  -- they are random bytes that the other object's piece takes
  pub piece : (g : Geometry) (object other : List ℕ) (j : ℕ) (seen random : List ℕ)
      → IsPieceVeiled g object other j seen random
      → IsPiece g other (explained g object other j seen random)
  -- all shards of the other fragments stay
  pub others : (g : Geometry) (object other : List ℕ) (j i : ℕ) (seen random : List ℕ)
      → IsPieceVeiled g object other j seen random
      → i < g.fragments → i ≢ j
      → fragment_shards g (fragments_of g other (explained g object other j seen random))
      (explained g object other j seen random) i
      ≡ fragment_shards g (fragments_of g object random) random i
  -- and so do the shards of fragment j at the seen points
  pub seen : (g : Geometry) (object other : List ℕ) (j : ℕ) (seen random : List ℕ) (i place : ℕ)
      → IsPieceVeiled g object other j seen random
      → i < length seen → slice_index seen i ≡ place + 1
      → shard_at_place g (content_at g other (explained g object other j seen random) j)
      (part_at (head_len g) (fragment_len g) j (explained g object other j seen random)) place
      ≡ shard_at_place g (content_at g object random j)
      (part_at (head_len g) (fragment_len g) j random) place
  -- with the objects exchanged they give the first random bytes back
  pub back : (g : Geometry) (object other : List ℕ) (j : ℕ) (seen random : List ℕ)
      → IsPieceVeiled g object other j seen random
      → explained g other object j seen (explained g object other j seen random) ≡ random
