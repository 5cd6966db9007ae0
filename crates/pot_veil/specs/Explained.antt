-- The random bytes with which another object, or another file, has the same seen blocks.
use Rattle.std.specs.Prelude.{ℕ, zero, suc, ◌+◌, ◌-◌, ◌*◌, List, ◌++◌, length, take, drop}
use Rattle.pot_bytes.specs.declared.rack.Geometry.{Geometry}
use Rattle.pot_bytes.specs.Sums.{xor}
use Rattle.pot_object.specs.Pieces.{content_size, object_size, pieces_of}
use Rattle.pot_split.specs.Secrecy.{changed_pads}
use Rattle.pot_split.specs.Threshold.{explaining}
use Rattle.pot_shard.specs.FileBlocks.{content_of, fragments_of, fragment_len, head_len, pads_in}
use Rattle.pot_shard.specs.FileBlocks.{piece_random}
use Rattle.pot_shard.specs.FileLaws.{object_in}
use Rattle.pot_shard.specs.Stretches.{piece_start}

-- bytes in which others stand from one place on
abbrev pub with_part : ℕ → List ℕ → List ℕ → List ℕ
with_part at new bytes = take at bytes ++ (new ++ drop (at + length new) bytes)

-- where the coefficients of fragment j begin, from 0, and how many bytes they are
abbrev pub rows_start : Geometry → ℕ → ℕ
rows_start g j = head_len g + j * fragment_len g

abbrev pub rows_len : Geometry → ℕ
rows_len g = (g.need - 1) * content_size

-- the content of fragment j of an object, by the random bytes of its piece
abbrev pub content_at : Geometry → List ℕ → List ℕ → ℕ → List ℕ
content_at g object random j = content_of g (fragments_of g object random) random j

-- The sum of both objects is added to pad j, and to none where j is the last fragment.
abbrev pub with_pads : Geometry → List ℕ → List ℕ → ℕ → List ℕ → List ℕ
with_pads g object other j random =
    with_part 16 (changed_pads object_size j (xor object other) (pads_in g random)) random

-- And then to the coefficients of fragment j, at each place, the difference of its two contents
-- times the polynomial that is 1 at 0 and 0 at the seen points. Ids and names stay.
abbrev pub explained : Geometry → List ℕ → List ℕ → ℕ → List ℕ → List ℕ → List ℕ
explained g object other j seen random =
    let changed : List ℕ = with_pads g object other j random in
    with_part (rows_start g j)
    (explaining (content_at g object random j) (content_at g other changed j) seen
    (take (rows_len g) (drop (rows_start g j) random)))
    changed

-- the random bytes of a file whose first n pieces are explained, each with a hidden fragment and
-- seen points of its own
unfoldable pub explained_upto : Geometry → List ℕ → List ℕ → (ℕ → ℕ) → (ℕ → List ℕ) → List ℕ → ℕ
    → List ℕ
explained_upto g file other hidden seen random zero = random
explained_upto g file other hidden seen random (suc n) =
    with_part (piece_start g n)
    (explained g (object_in file random n) (object_in other random n) (hidden n) (seen n)
    (piece_random g n random))
    (explained_upto g file other hidden seen random n)

-- the random bytes of a file, all pieces explained
abbrev pub explained_file : Geometry → List ℕ → List ℕ → (ℕ → ℕ) → (ℕ → List ℕ) → List ℕ → List ℕ
explained_file g file other hidden seen random =
    explained_upto g file other hidden seen random (pieces_of (length file))
