-- What `recover` writes of the objects that it found, which stand in byte order.
use Rattle.std.specs.Prelude.{◌≡◌, ◌⊎◌, ◌++◌, ◌&&◌, ℕ, Bool, not, List, [], Option, Some, None}
use Rattle.std.specs.Prelude.{Result, Ok, Err, codes, if◌then◌else◌, length, take, drop, flat_map}
use Rattle.std.specs.Prelude.{find, is_none, is_some, IsTrue}
use Rattle.std.specs.List.{list_any, range_with_len, slice_index_or}
use Rattle.std.specs.Str.{bytes_eq}
use Rattle.byteorder.specs.Endian.{big_bytes}
use Rattle.hex.specs.Hex.{encode_lower}
use Rattle.pot_outside.specs.Accounts.{Transition}
use Rattle.pot_object.specs.Objects.{head_at, part_length}
use Rattle.pot_recover.specs.Fronts.{has_front}
use Rattle.pot_script.specs.Replies.{spaced}
use Rattle.pot_commands.specs.Streams.{Wrote}
use Rattle.pot_session.specs.declared.ending.status.Status.{Status}
use Rattle.pot_session.specs.declared.ending.status.Status.TheVariants as status
use Rattle.pot_session.specs.declared.recovery.listing.ListFault.{ListFault}
use Rattle.pot_session.specs.Telling.{told_status}

-- THE FILE OF AN OBJECT

-- the file: its id, its number of pieces and its length, as they stand in the object
abbrev pub file_of : List ℕ → List ℕ
file_of object = take 16 object ++ take 12 (drop 20 object)

abbrev pub are_of_one_file : List ℕ → List ℕ → Bool
are_of_one_file object other = bytes_eq (file_of other) (file_of object)

-- how the objects of a piece of the file begin
abbrev pub front_at : List ℕ → ℕ → List ℕ
front_at object piece = take 16 object ++ big_bytes 4 piece ++ take 12 (drop 20 object)

-- the least object of a piece of the file
abbrev pub least_of : List (List ℕ) → List ℕ → ℕ → Option (List ℕ)
least_of objects object piece = find (has_front (front_at object piece)) objects

-- the numbers of its pieces
abbrev pub pieces_in : List ℕ → List ℕ
pieces_in object = range_with_len 0 (head_at object).pieces

-- the least piece of which there is no object
abbrev pub first_gap : List (List ℕ) → List ℕ → Option ℕ
first_gap objects object =
    find (λ piece. is_none (least_of objects object piece)) (pieces_in object)

-- the bytes of the file that an object carries
abbrev pub part_in : List ℕ → List ℕ
part_in object = take (part_length (head_at object)) (drop 64 object)

-- those that are told of a piece
abbrev pub part_of : Option (List ℕ) → List ℕ
part_of (Some object) = part_in object
part_of None = []

-- THE TEXT

-- a space and a file id, as 32 hexadecimal digits of lower case
abbrev pub id_in_hex : List ℕ → List ℕ
id_in_hex object = codes " " ++ encode_lower (take 16 object)

abbrev pub count_line : ℕ → List ℕ
count_line count = codes "objects" ++ spaced count ++ codes "\n"

abbrev pub object_line : List ℕ → List ℕ
object_line object =
    codes "object" ++ id_in_hex object ++ spaced (head_at object).piece
    ++ spaced (head_at object).pieces ++ spaced (head_at object).length ++ codes "\n"

abbrev pub file_line : List ℕ → List ℕ
file_line object = codes "file" ++ id_in_hex object ++ spaced (head_at object).length ++ codes "\n"

abbrev pub partial_line : List ℕ → ℕ → List ℕ
partial_line object piece = codes "partial" ++ id_in_hex object ++ spaced piece ++ codes "\n"

-- the parts of all pieces, each of its least object
abbrev pub parts_of : List (List ℕ) → List ℕ → List ℕ
parts_of objects object =
    flat_map (λ piece. part_of (least_of objects object piece)) (pieces_in object)

-- the file where there are all pieces, and else the least one that is missing
abbrev pub file_or_gap : List (List ℕ) → List ℕ → Option ℕ → List ℕ
file_or_gap objects object None = file_line object ++ parts_of objects object ++ codes "\n"
file_or_gap objects object (Some piece) = partial_line object piece

abbrev pub file_text : List (List ℕ) → List ℕ → List ℕ
file_text objects object = file_or_gap objects object (first_gap objects object)

-- EACH FILE ONCE

abbrev pub object_at : List (List ℕ) → ℕ → List ℕ
object_at objects place = slice_index_or objects place []

-- an object before this place is of the same file
abbrev pub has_earlier : List (List ℕ) → ℕ → Bool
has_earlier objects place =
    list_any (are_of_one_file (object_at objects place)) (take place objects)

-- the file is told at its first object
abbrev pub text_at : List (List ℕ) → ℕ → List ℕ
text_at objects place =
    if has_earlier objects place then [] else file_text objects (object_at objects place)

-- and it is partial
abbrev pub is_partial_at : List (List ℕ) → ℕ → Bool
is_partial_at objects place =
    not (has_earlier objects place) && is_some (first_gap objects (object_at objects place))

abbrev pub places_in : List (List ℕ) → List ℕ
places_in objects = range_with_len 0 (length objects)

-- THE WHOLE

-- the number of objects, a line for each, and each file at its first object
abbrev pub listing : List (List ℕ) → List ℕ
listing objects =
    count_line (length objects) ++ flat_map object_line objects
    ++ flat_map (text_at objects) (places_in objects)

-- some file is partial
abbrev pub has_partial : List (List ℕ) → Bool
has_partial objects = list_any (is_partial_at objects) (places_in objects)

-- some first bytes of the text were written
abbrev pub IsTextBegun : List ℕ → List ℕ → List ℕ → Type 0
IsTextBegun before after text =
    (first : List ℕ) × (rest : List ℕ) × (text ≡ first ++ rest) × (after ≡ before ++ first)

abbrev pub Began : Transition (List ℕ) → List ℕ → Type 0
Began sink text = IsTrue sink.tells → IsTextBegun sink.before sink.after text

-- the text was written; or some first bytes of it, since the sink failed or memory ran out
abbrev pub PutsText : {T : Type 0} → Transition (List ℕ) → List ℕ → Result T ListFault → Type 0
PutsText sink text (Ok t) = Wrote sink text
PutsText sink text (Err e) = Began sink text

-- The listing was written, and the answer says whether some file is partial; or some first bytes of
-- it were written, and the sink failed or memory ran out.
abbrev pub ListsObjects : Transition (List ℕ) → List (List ℕ) → Status → Type 0
ListsObjects sink objects answer =
    ((answer ≡ told_status (has_partial objects)) × Wrote sink (listing objects))
    ⊎ (((answer ≡ status.SinkFault) ⊎ (answer ≡ status.NoMemory)) × Began sink (listing objects))
