-- Which points of a fragment were gathered, and what is joined of them.
use Rattle.std.specs.Prelude.{◌≡◌, ◌<◌, ◌≤◌, ℕ, zero, suc, ◌+◌, ◌*◌, ◌-◌, ◌++◌, Bool, true}
use Rattle.std.specs.Prelude.{List, [], ◌∷◌, Option, Some, Contains, drop, find, length}
use Rattle.std.specs.Prelude.{nat_lt, option_map}
use Rattle.std.specs.List.{flat_map, range_with_len}
use Rattle.pot_bytes.specs.Rack.{IsGeometry}
use Rattle.pot_bytes.specs.declared.rack.Place.{Place}
use Rattle.pot_index.specs.declared.record.Record.{Record}
use Rattle.pot_object.specs.Pieces.{content_size, longest, pieces_of}
use Rattle.pot_split.specs.Threshold.{IsJoin}
use Rattle.pot_shard.specs.Fetches.{AreChosen}
use Rattle.pot_shard.specs.FileLaws.{xor_of}
use Rattle.pot_shard.specs.Places.{place_at}
use Rattle.pot_world.specs.World.{FragmentGathered, Gathered, same_place}

-- a record whose current split is within its limits
pub record IsReadable (r : Record) : Type 0 where
  pub geometry : IsGeometry r.geometry
  pub long : r.length ≤ longest
  pub count : length r.places ≡ pieces_of r.length * (r.geometry.fragments * r.geometry.shards)

-- the block that was gathered first at a place
abbrev pub gathered_at : List Gathered → Place → Option (List ℕ)
gathered_at gathered place =
    option_map (λ y. y.block) (find (λ y. same_place y.place place) gathered)

-- some points and, one after another, the shares in the blocks there
pub record Shared : Type 0 where
  pub points : List ℕ
  pub rows : List ℕ

-- with one point more, if more are needed and its block is at hand
abbrev pub with_point : Bool → ℕ → Option (List ℕ) → Shared → Shared
with_point true x (Some block) s =
    record { points = s.points ++ x ∷ []; rows = s.rows ++ drop 32 block }
with_point _ x _ s = s

-- the first of the first n points that are at hand, and no more than are needed
unfoldable pub shared_by : (ℕ → Option (List ℕ)) → ℕ → ℕ → Shared
shared_by f need zero = record { points = []; rows = [] }
shared_by f need (suc n) =
    with_point (nat_lt (length (shared_by f need n).points) need) (suc n) (f n) (shared_by f need n)

-- the block of a point of a fragment, counted from 0, if it was gathered
abbrev pub block_of_point : Record → List Gathered → ℕ → ℕ → ℕ → Option (List ℕ)
block_of_point r gathered i j p = gathered_at gathered (place_at r.geometry r.places i j p)

abbrev pub shared_to : Record → List Gathered → ℕ → ℕ → ℕ → Shared
shared_to r gathered i j n = shared_by (block_of_point r gathered i j) r.geometry.need n

-- What the shares of m gathered points of a fragment are joined to.
pub record FragmentJoined (r : Record) (gathered : List Gathered) (i j : ℕ)
    (content : List ℕ) : Type 0 where
  pub points : List ℕ
  pub blocks : ℕ → List ℕ
  pub chosen : AreChosen r.geometry points
  pub from : (x : ℕ) → Contains points x
      → Contains gathered (record {
        place = place_at r.geometry r.places i j (x - 1);
        block = blocks
            x;
      })
  pub wide : length content ≡ content_size
  pub join : IsJoin points (flat_map (λ x. drop 32 (blocks x)) points) content

-- the contents of the first fragments of a piece, and what stands in them behind their heads
pub record FragmentsJoined (r : Record) (gathered : List Gathered) (i n : ℕ) (bytes : List ℕ) : Type
    0 where
  pub contents : ℕ → List ℕ
  pub each : (j : ℕ) → j < n → FragmentJoined r gathered i j (contents j)
  pub all : bytes ≡ flat_map (λ j. drop 64 (contents j)) (range_with_len 0 n)

-- what the contents of a piece are joined to
pub record PieceJoined (r : Record) (gathered : List Gathered) (i : ℕ) (object : List ℕ) : Type
    0 where
  pub contents : ℕ → List ℕ
  pub each : (j : ℕ) → j < r.geometry.fragments → FragmentJoined r gathered i j (contents j)
  pub whole : object ≡ xor_of contents r.geometry.fragments

-- the objects of the first pieces, and what stands in them behind their heads
pub record PiecesJoined (r : Record) (gathered : List Gathered) (n : ℕ) (bytes : List ℕ) : Type
    0 where
  pub objects : ℕ → List ℕ
  pub each : (i : ℕ) → i < n → PieceJoined r gathered i (objects i)
  pub all : bytes ≡ flat_map (λ i. drop 64 (objects i)) (range_with_len 0 n)

-- m blocks of each fragment of a piece were gathered
abbrev pub PieceGathered : Record → List Gathered → ℕ → Type 0
PieceGathered r gathered i = (j : ℕ) → j < r.geometry.fragments → FragmentGathered r gathered i j
