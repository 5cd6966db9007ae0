-- What a drill sees of the blocks of a file, and what it answers.
use Rattle.std.specs.Prelude.{◌≡◌, ◌≤◌, ◌<◌, ◌+◌, ◌*◌, ◌/◌, ◌%◌, ◌||◌, ℕ, Bool, List, [], length}
use Rattle.std.specs.Prelude.{map, filter, not, nat_eq, slice_index_or}
use Rattle.std.specs.List.{flat_map, list_any, range_with_len}
use Rattle.pot_bytes.specs.Digests.{digest_bytes}
use Rattle.pot_bytes.specs.declared.rack.Geometry.{Geometry}
use Rattle.pot_object.specs.Pieces.{pieces_of}
use Rattle.pot_shard.specs.FileBlocks.{blocks_at}
use Rattle.pot_veil.specs.Explained.{explained_file}
use Rattle.pot_veil.specs.declared.drilling.DrillFault.{DrillFault}
use Rattle.pot_veil.specs.declared.drilling.DrillFault.TheVariants.{Exposed, NoMemory}
use Rattle.pot_veil.specs.declared.drilling.DrillReport.{DrillReport}

-- whether the block at a place of a piece is seen: each of another fragment than the hidden one,
-- from 0, and those of the hidden one whose point is among these
abbrev pub is_seen_at : Geometry → ℕ → List ℕ → ℕ → Bool
is_seen_at g hidden seen place =
    not (nat_eq (place / g.shards) hidden) || list_any (λ x. nat_eq x (place % g.shards + 1)) seen

-- the seen ones of the blocks of a piece, which stand by fragment and point
abbrev pub seen_in : Geometry → ℕ → List ℕ → List (List ℕ) → List (List ℕ)
seen_in g hidden seen blocks =
    map (λ place. slice_index_or blocks place [])
    (filter (is_seen_at g hidden seen) (range_with_len 0 (g.fragments * g.shards)))

-- the seen blocks of the first pieces of a file
abbrev pub seen_upto : Geometry → List ℕ → List ℕ → ℕ → List ℕ → ℕ → List (List ℕ)
seen_upto g file random hidden seen n =
    flat_map (λ i. seen_in g hidden seen (blocks_at g file random i)) (range_with_len 0 n)

-- blocks one after another
abbrev pub text_of : List (List ℕ) → List ℕ
text_of blocks = flat_map (λ b. b) blocks

-- The report of a drill: all pieces are explained by the random bytes that it leaves, and so many
-- blocks were seen, of this digest.
pub record IsReport (g : Geometry) (file other : List ℕ) (hidden : ℕ)
    (seen random explained : List ℕ) (r : DrillReport) : Type 0 where
  pub few : length seen < g.need
  pub pieces : r.pieces ≡ pieces_of (length file)
  pub blocks : r.blocks ≡ length (seen_upto g file random hidden seen (pieces_of (length file)))
  pub digest : r.digest.bytes
      ≡ digest_bytes (text_of (seen_upto g file random hidden seen (pieces_of (length file))))
  pub random_bytes : explained ≡ explained_file g file other (λ i. hidden) (λ i. seen) random

-- It is exposed exactly where as many points are seen as are needed or more, and else memory was
-- not found. The random bytes are then as they were.
abbrev pub IsDrillFault : Geometry → ℕ → List ℕ → List ℕ → List ℕ → DrillFault → Type 0
IsDrillFault g number seen random now (Exposed f h n) =
    (g.need ≤ length seen) × (f ≡ number) × (h ≡ length seen) × (n ≡ g.need) × (now ≡ random)
IsDrillFault g number seen random now NoMemory = (length seen < g.need) × (now ≡ random)
