-- What explained random bytes of a file keep.
use Rattle.std.specs.Prelude.{◌≡◌, ◌≢◌, ◌<◌, ℕ, ◌+◌, List, length, slice_index}
use Rattle.pot_bytes.specs.Lists.{AreBytes}
use Rattle.pot_bytes.specs.declared.rack.Geometry.{Geometry}
use Rattle.pot_object.specs.Pieces.{pieces_of}
use Rattle.pot_split.specs.Threshold.{AreNonzero}
use Rattle.pot_shard.specs.FileLaws.{IsStore, shards_in}
use Rattle.pot_shard.specs.Places.{shard_in}
use Rattle.pot_veil.specs.Explained.{explained_file}

-- fewer seen points than are needed
pub record AreFewPoints (g : Geometry) (seen : List ℕ) : Type 0 where
  pub points : AreNonzero seen
  pub bytes : AreBytes seen
  pub few : length seen < g.need

-- a store of a file, another file of its length, and of each piece a hidden fragment, of which few
-- points are seen
pub record IsVeiledFile (g : Geometry) (file other : List ℕ) (hidden : ℕ → ℕ) (seen : ℕ → List ℕ)
    (random : List ℕ) : Type 0 where
  pub store : IsStore g file random
  pub other_store : IsStore g other random
  pub same_length : length other ≡ length file
  pub fragment : (i : ℕ) → i < pieces_of (length file) → hidden i < g.fragments
  pub points : (i : ℕ) → i < pieces_of (length file) → AreFewPoints g (seen i)

pub record FileVeilLaws : Type 0 where
  -- they are random bytes that a store of the other file takes
  pub store : (g : Geometry) (file other : List ℕ) (hidden : ℕ → ℕ) (seen : ℕ → List ℕ)
      (random : List ℕ)
      → IsVeiledFile g file other hidden seen random
      → IsStore g other (explained_file g file other hidden seen random)
  -- all shards of each fragment but the hidden one of its piece stay
  pub others : (g : Geometry) (file other : List ℕ) (hidden : ℕ → ℕ) (seen : ℕ → List ℕ)
      (random : List ℕ) (i j : ℕ)
      → IsVeiledFile g file other hidden seen random → i < pieces_of (length file) → j < g.fragments
      → j ≢ hidden i
      → shards_in g other (explained_file g file other hidden seen random) i j
      ≡ shards_in g file random i j
  -- and so do the shards of the hidden one at its seen points
  pub seen : (g : Geometry) (file other : List ℕ) (hidden : ℕ → ℕ) (seen : ℕ → List ℕ)
      (random : List ℕ) (i k p : ℕ)
      → IsVeiledFile g file other hidden seen random → i < pieces_of (length file)
      → k < length (seen i) → slice_index (seen i) k ≡ p + 1
      → shard_in g other (explained_file g file other hidden seen random) i (hidden i) p
      ≡ shard_in g file random i (hidden i) p
  -- with the files exchanged they give the first random bytes back: so it is a bijection of random
  -- bytes
  pub back : (g : Geometry) (file other : List ℕ) (hidden : ℕ → ℕ) (seen : ℕ → List ℕ)
      (random : List ℕ)
      → IsVeiledFile g file other hidden seen random
      → explained_file g other file hidden seen (explained_file g file other hidden seen random)
      ≡ random
