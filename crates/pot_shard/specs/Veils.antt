-- What hides a fragment: other random bytes with which another file has the same blocks but for
-- those that nobody sees.
use Rattle.std.specs.Prelude.{◌≡◌, ◌≢◌, ◌<◌, ℕ, ◌-◌, List, length, take, slice_index}
use Rattle.pot_bytes.specs.Lists.{AreBytes}
use Rattle.pot_bytes.specs.Rack.{IsGeometry}
use Rattle.pot_bytes.specs.Sums.{xor}
use Rattle.pot_bytes.specs.declared.rack.Geometry.{Geometry}
use Rattle.pot_object.specs.Pieces.{content_size, object_size}
use Rattle.pot_split.specs.Secrecy.{changed_pads}
use Rattle.pot_split.specs.Threshold.{explaining, AreNonzero}
use Rattle.pot_shard.specs.FileBlocks.{coefficients_in, fragment_len, fragment_shards, fragments_of}
use Rattle.pot_shard.specs.FileBlocks.{head_len, names_in, pads_in, part_at, shard_at_place}
use Rattle.pot_shard.specs.FileLaws.{content_in, shards_in, IsPiece}
use Rattle.pot_shard.specs.Places.{fragment_random}

-- Random bytes of a piece, changed so that another object has the same fragments but for fragment
-- f, from 0: the object id stays, and the difference of the objects is added to that pad.
pub record ExplainsObject (g : Geometry) (object other random changed : List ℕ) (f : ℕ) : Type
    0 where
  pub piece : IsPiece g object random
  pub same_length : length other ≡ object_size
  pub fragment : f < g.fragments
  pub id : take 16 changed ≡ take 16 random
  pub pads : pads_in g changed ≡ changed_pads object_size f (xor object other) (pads_in g random)

-- a content and the random bytes of its fragment, another content, and fewer seen points than are
-- needed
pub record IsVeiledContent (g : Geometry) (content other random seen : List ℕ) : Type 0 where
  pub geometry : IsGeometry g
  pub long : length content ≡ content_size
  pub same_length : length other ≡ content_size
  pub content_bytes : AreBytes content
  pub other_bytes : AreBytes other
  pub taken : length random ≡ fragment_len g
  pub random_bytes : AreBytes random
  pub points : AreNonzero seen
  pub seen_bytes : AreBytes seen
  pub few : length seen < g.need

-- Random bytes of a fragment, changed so that another content has the same shares at the seen
-- points: the names stay, and the coefficients are those that explain it.
pub record ExplainsContent (g : Geometry) (content other random changed seen : List ℕ) : Type
    0 where
  pub veiled : IsVeiledContent g content other random seen
  pub names : names_in g changed ≡ names_in g random
  pub rows : coefficients_in g changed ≡ explaining content other seen (coefficients_in g random)

-- What stays.
pub record ShardVeilLaws : Type 0 where
  -- two stores, of other files and other random bytes too, have the same shards of a fragment where
  -- its content is the same and its random bytes are
  pub same : (g : Geometry) (file other random changed : List ℕ) (i j : ℕ)
      → content_in g file random i j ≡ content_in g other changed i j
      → fragment_random g random i j ≡ fragment_random g changed i j
      → shards_in g file random i j ≡ shards_in g other changed i j
  -- the shards of each fragment but the hidden one stay where its own random bytes do
  pub others : (g : Geometry) (object other random changed : List ℕ) (f j : ℕ)
      → ExplainsObject g object other random changed f
      → j < g.fragments → j ≢ f
      → part_at (head_len g) (fragment_len g) j changed
      ≡ part_at (head_len g) (fragment_len g) j random
      → fragment_shards g (fragments_of g other changed) changed j
      ≡ fragment_shards g (fragments_of g object random) random j
  -- and so do the shards of the hidden one at the seen points
  pub seen : (g : Geometry) (content other random changed seen : List ℕ) (i : ℕ)
      → ExplainsContent g content other random changed seen
      → i < length seen
      → shard_at_place g other changed (slice_index seen i - 1)
      ≡ shard_at_place g content random (slice_index seen i - 1)
