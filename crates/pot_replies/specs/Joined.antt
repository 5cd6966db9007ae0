-- What the blocks that were read of a file give.
use Rattle.std.specs.Prelude.{◌≡◌, ◌<◌, ℕ, ◌+◌, List, [], ◌∷◌, Option, Some, None, length, drop}
use Rattle.std.specs.List.{flat_map, range_with_len}
use Rattle.pot_object.specs.Pieces.{content_size, pieces_of}
use Rattle.pot_split.specs.Threshold.{IsJoin}
use Rattle.pot_shard.specs.FileLaws.{xor_of}
use Rattle.pot_shard.specs.Fetches.{cut_to}
use Rattle.pot_index.specs.declared.record.Record.{Record}

-- the blocks of a fragment that were read, by point from 0
abbrev pub Read : Type 0
Read = ℕ → Option (List ℕ)

abbrev pub point_in : ℕ → Option (List ℕ) → List ℕ
point_in x None = []
point_in x (Some b) = (x + 1) ∷ []

abbrev pub share_in : Option (List ℕ) → List ℕ
share_in None = []
share_in (Some b) = drop 32 b

-- the points, from 1, of those that were read of the first n, in order, and the shares that stand
-- in them from byte 32 on
abbrev pub points_read : ℕ → Read → List ℕ
points_read n read = flat_map (λ x. point_in x (read x)) (range_with_len 0 n)

abbrev pub shares_read : ℕ → Read → List ℕ
shares_read n read = flat_map (λ x. share_in (read x)) (range_with_len 0 n)

-- The shares of each fragment are joined to a content; the contents of a piece from byte 64 on are
-- XORed to an object; and what stands in the objects from byte 64 on, one after another, is cut to
-- the length of the file. No digest of theirs is looked at.
pub record AreJoined (kept : Record) (block : ℕ → ℕ → Read) (bytes : List ℕ) : Type 0 where
  pub contents : ℕ → ℕ → List ℕ
  pub long : (i j : ℕ) → i < pieces_of kept.length → j < kept.geometry.fragments
      → length (contents i j) ≡ content_size
  pub joined : (i j : ℕ) → i < pieces_of kept.length → j < kept.geometry.fragments
      → IsJoin (points_read kept.geometry.shards (block i j))
      (shares_read kept.geometry.shards (block i j)) (contents i j)
  pub bytes_are : bytes ≡ cut_to kept.length (λ i. xor_of (contents i) kept.geometry.fragments)
