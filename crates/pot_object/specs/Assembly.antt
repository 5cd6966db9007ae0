-- Objects of one file, one after another, and the file that they carry.
use Rattle.std.specs.Prelude.{◌≡◌, ◌≢◌, ◌<◌, ◌≤◌, ℕ, zero, suc, ◌+◌, ◌*◌, ◌/◌, List, [], ◌++◌}
use Rattle.std.specs.Prelude.{length, take, drop}
use Rattle.pot_object.specs.Pieces.{longest, object_size, pieces_of}
use Rattle.pot_object.specs.Objects.{head_at, object, part_length, IsObject}
use Rattle.pot_object.specs.declared.object.ObjectHead.{ObjectHead}
use Rattle.pot_object.specs.declared.assembly.AssembleFault.{AssembleFault}
use Rattle.pot_object.specs.declared.assembly.AssembleFault.TheVariants.{Incomplete, NoMemory}

-- how many objects stand there
abbrev pub count_of : List ℕ → ℕ
count_of objects = length objects / object_size

-- object number k
abbrev pub object_at : List ℕ → ℕ → List ℕ
object_at objects k = take object_size (drop (k * object_size) objects)

-- the piece that object number k carries
abbrev pub piece_at : List ℕ → ℕ → ℕ
piece_at objects k = (head_at (object_at objects k)).piece

-- whole objects of one file, whose head but for the piece is this one; their pieces ascend
pub record AreObjects (h : ObjectHead) (objects : List ℕ) : Type 0 where
  pub long : length objects ≡ count_of objects * object_size
  pub each : (k : ℕ) → k < count_of objects
      → IsObject (record h { piece = piece_at objects k }) (object_at objects k)
  pub ascending : (k : ℕ) → k + 1 < count_of objects → piece_at objects k < piece_at objects (k + 1)

-- one or more objects of one file
pub record IsSeries (objects : List ℕ) : Type 0 where
  pub some : 0 < count_of objects
  pub objects_are : AreObjects (head_at objects) objects

-- the objects of some pieces of a file, from one on
abbrev pub objects_from : List ℕ → List ℕ → ℕ → ℕ → List ℕ
objects_from id file piece zero = []
objects_from id file piece (suc n) = object id file piece ++ objects_from id file (suc piece) n

-- the objects of all pieces of a file, in order
abbrev pub objects_of : List ℕ → List ℕ → List ℕ
objects_of id file = objects_from id file 0 (pieces_of (length file))

-- these are the objects of all pieces of this file, in order
pub record AreObjectsOf (objects : List ℕ) (file : List ℕ) : Type 0 where
  pub fits : length file ≤ longest
  pub all : objects ≡ objects_of (take 16 objects) file

-- no object carries this piece
abbrev pub IsPieceMissing : List ℕ → ℕ → Type 0
IsPieceMissing objects piece = (k : ℕ) → k < count_of objects → piece_at objects k ≢ piece

-- this piece of the file is missing, and none before it
pub record IsLeastMissing (objects : List ℕ) (piece : ℕ) : Type 0 where
  pub exists : piece < (head_at objects).pieces
  pub missing : IsPieceMissing objects piece
  pub least : (q : ℕ) → q < piece → (k : ℕ) × (k < count_of objects) × (piece_at objects k ≡ q)

-- the piece that a refusal names is the least that is missing; want of memory comes where none is
abbrev pub NamesLeast : List ℕ → AssembleFault → Type 0
NamesLeast objects (Incomplete piece) = IsLeastMissing objects piece
NamesLeast objects NoMemory =
    (piece : ℕ) → piece < (head_at objects).pieces → ¬ IsPieceMissing objects piece

-- object number k is there and carries piece k
abbrev pub IsInPlace : List ℕ → ℕ → Type 0
IsInPlace objects k = (k < count_of objects) × (piece_at objects k ≡ k)

-- the first pieces are there, each in its place
abbrev pub BeginsWhole : List ℕ → ℕ → Type 0
BeginsWhole objects n = (k : ℕ) → k < n → IsInPlace objects k

-- the part that object number k carries
abbrev pub part_at : List ℕ → ℕ → List ℕ
part_at objects k =
    take (part_length (head_at (object_at objects k))) (drop 64 (object_at objects k))

-- the first lists of these, one after another
abbrev pub joined : (ℕ → List ℕ) → ℕ → List ℕ
joined f zero = []
joined f (suc n) = joined f n ++ f n
