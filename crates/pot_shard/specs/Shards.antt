-- The block of a shard.
use Rattle.std.specs.Prelude.{◌≡◌, ◌≤◌, ◌<◌, ℕ, ◌%◌, ◌^◌, List, [], ◌∷◌, ◌++◌, length, take, drop}
use Rattle.std.specs.Prelude.{replicate, slice_index}
use Rattle.byteorder.specs.Endian.{big_bytes, big_number}
use Rattle.pot_object.specs.Pieces.{content_size}
use Rattle.pot_shard.specs.declared.shard.Shard.{Shard}

-- `PSH1`
abbrev pub magic : List ℕ
magic = 0x50 ∷ 0x53 ∷ 0x48 ∷ 0x31 ∷ []

-- the magic, x, m, n and the blur, the name and the pointer with the highest byte first, zeros up
-- to 32 bytes, and the share
unfoldable pub shard_bytes : Shard → List ℕ
shard_bytes s =
    magic ++ (s.x ∷ s.m ∷ s.n ∷ s.blur ∷ []) ++ big_bytes 8 s.name ++ big_bytes 8 s.pointer
    ++ replicate 8 0 ++ s.share

-- a shard of a ring: its point x and the m shares that are needed are 1 to n, of at most 16, and
-- the pointer has its low bits cleared
pub record IsShard (s : Shard) : Type 0 where
  pub x_first : 1 ≤ s.x
  pub x_last : s.x ≤ s.n
  pub m_first : 1 ≤ s.m
  pub m_last : s.m ≤ s.n
  pub n_last : s.n ≤ 16
  pub blur_last : s.blur ≤ 63
  pub cleared : s.pointer % 2 ^ s.blur ≡ 0

-- the widths that the types of the fields have
pub record HasWidths (s : Shard) : Type 0 where
  pub name : s.name < 2 ^ 64
  pub pointer : s.pointer < 2 ^ 64
  pub share : length s.share ≡ content_size

-- these bytes are the block of this shard
pub record IsShardBlock (s : Shard) (bytes : List ℕ) : Type 0 where
  pub widths : HasWidths s
  pub shard : IsShard s
  pub spelled : bytes ≡ shard_bytes s

-- the fields where a shard has them
abbrev pub shard_at : List ℕ → Shard
shard_at bytes = record {
  x = slice_index bytes 4;
  m = slice_index bytes 5;
  n = slice_index bytes 6;
  blur = slice_index bytes 7;
  name = big_number 8 (drop 8 bytes);
  pointer = big_number 8 (drop 16 bytes);
  share = drop 32 bytes;
}

-- what stands round the fields: the magic, and the zeros before the share
abbrev pub HasShardFrame : List ℕ → Type 0
HasShardFrame bytes = (take 4 bytes ≡ magic) × (take 8 (drop 24 bytes) ≡ replicate 8 0)
