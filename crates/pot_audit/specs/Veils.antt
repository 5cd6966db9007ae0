-- The fragment of each piece with the fewest exposed points.
use Rattle.std.specs.Prelude.{◌≡◌, ◌≤◌, ◌<◌, ℕ, ◌+◌, ◌-◌, ◌*◌, List, Some, length, slice_get}
use Rattle.pot_bytes.specs.declared.rack.Rack.{Rack}
use Rattle.pot_object.specs.Pieces.{pieces_of}
use Rattle.pot_index.specs.declared.record.Record.{Record}
use Rattle.pot_index.specs.declared.record.Split.{Split}
use Rattle.pot_index.specs.Records.{splits_of}
use Rattle.pot_audit.specs.declared.spot.Spot.{Spot}
use Rattle.pot_audit.specs.declared.veil.Veil.{Veil}
use Rattle.pot_audit.specs.Exposure.{exposed_points}

-- Of the first k values of a function this is the least, and it comes first at number n, from 1.
pub record IsLeastOf (f : ℕ → ℕ) (k n value : ℕ) : Type 0 where
  pub number : (1 ≤ n) × (n ≤ k)
  pub is : value ≡ f (n - 1)
  pub fewest : (j : ℕ) → j < k → value ≤ f j
  pub first : (j : ℕ) → j + 1 < n → value < f j

-- The veil of piece i of a split with this number: the first fragment, from 1, of those that have
-- the fewest exposed points.
pub record IsVeil (rack : Rack) (spots : List Spot) (s : Split) (number i : ℕ) (v : Veil) : Type
    0 where
  pub split : v.split ≡ number
  pub piece : v.piece ≡ i
  pub least : IsLeastOf (exposed_points rack spots s i) s.geometry.fragments v.fragment v.have
  pub need : v.need ≡ s.geometry.need

-- The veils of a record: one for each split, the oldest first, and piece.
pub record AreVeils (rack : Rack) (spots : List Spot) (r : Record) (veils : List Veil) : Type
    0 where
  pub count : length veils ≡ length (splits_of r) * pieces_of r.length
  pub each : (n i : ℕ) (s : Split) (v : Veil) → slice_get (splits_of r) n ≡ Some s
      → i < pieces_of r.length → slice_get veils (n * pieces_of r.length + i) ≡ Some v
      → IsVeil rack spots s n i v

-- with the veils of the pieces of one more split
pub record AddsVeils (rack : Rack) (spots : List Spot) (s : Split) (number pieces : ℕ)
    (old new : List Veil) : Type 0 where
  pub count : length new ≡ length old + pieces
  pub kept : (b : ℕ) → b < length old → slice_get new b ≡ slice_get old b
  pub added : (i : ℕ) (v : Veil) → i < pieces → slice_get new (length old + i) ≡ Some v
      → IsVeil rack spots s number i v
