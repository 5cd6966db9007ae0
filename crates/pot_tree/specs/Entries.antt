-- The list of a snapshot: its text, in the format of mtree(5), and what may stand in it.
use Rattle.std.specs.Prelude.{◌≡◌, ◌≢◌, ◌+◌, ◌/◌, ◌%◌, ◌<◌, ◌++◌, ◌∷◌, [], ◌==◌, ◌||◌, ◌&&◌}
use Rattle.std.specs.Prelude.{ℕ, List, Bool, nat_le, if◌then◌else◌, codes, decimal, flat_map, All}
use Rattle.std.specs.List.{slice_split}
use Rattle.hex.specs.Hex.{encode_lower}
use Rattle.pot_bytes.specs.declared.digest.Digest.{Digest}
use Rattle.pot_tree.specs.declared.entry.Content.{Content}
use Rattle.pot_tree.specs.declared.entry.Content.TheVariants as contents
use Rattle.pot_tree.specs.declared.entry.Entry.{Entry}

-- a byte that stands for itself: a visible character of ASCII, but for `#`, `=` and the backslash
abbrev pub is_plain : ℕ → Bool
is_plain b =
    (nat_le 33 b && nat_le b 34) || (nat_le 36 b && nat_le b 60) || (nat_le 62 b && nat_le b 91)
    || (nat_le 93 b && nat_le b 126)

-- the digit of this place in octal
abbrev pub octal : ℕ → ℕ
octal n = 48 + n % 8

-- a byte as it is written: itself, or a backslash and three octal digits
abbrev pub spelled_byte : ℕ → List ℕ
spelled_byte b =
    if is_plain b then b ∷ [] else 92 ∷ octal (b / 64) ∷ octal (b / 8) ∷ octal b ∷ []

-- the bytes of a path or of a link's target as they are written
abbrev pub spelled : List ℕ → List ℕ
spelled bytes = flat_map spelled_byte bytes

-- the four octal digits of a mode
abbrev pub mode_digits : ℕ → List ℕ
mode_digits n = octal (n / 512) ∷ octal (n / 64) ∷ octal (n / 8) ∷ octal n ∷ []

-- texts one after another
abbrev pub joined : List (List ℕ) → List ℕ
joined texts = flat_map (λ text. text) texts

-- the line of a folder
abbrev pub folder_text : List ℕ → ℕ → ℕ → List ℕ
folder_text path mode time = joined
    (codes "./" ∷ spelled path ∷ codes " type=dir mode=" ∷ mode_digits mode ∷ codes " time="
    ∷ decimal time ∷ codes ".0\n" ∷ [])

-- the line of a link
abbrev pub link_text : List ℕ → ℕ → ℕ → List ℕ → List ℕ
link_text path mode time target = joined
    (codes "./" ∷ spelled path ∷ codes " type=link mode=" ∷ mode_digits mode ∷ codes " time="
    ∷ decimal time ∷ codes ".0 link=" ∷ spelled target ∷ codes "\n" ∷ [])

-- the line of a file, with its size, its digest, and the pack that holds its bytes
abbrev pub file_text : List ℕ → ℕ → ℕ → ℕ → Digest → List ℕ → List ℕ
file_text path mode time size digest pack = joined
    (codes "./" ∷ spelled path ∷ codes " type=file mode=" ∷ mode_digits mode ∷ codes " time="
    ∷ decimal time ∷ codes ".0 size=" ∷ decimal size ∷ codes " sha256digest="
    ∷ encode_lower digest.bytes ∷ codes " contents=" ∷ pack ∷ codes "/"
    ∷ encode_lower digest.bytes ∷ codes "\n" ∷ [])

-- the line of a path at which this stands
abbrev pub line_of : Content → List ℕ → ℕ → ℕ → List ℕ
line_of contents.Folder path mode time = folder_text path mode time
line_of (contents.Link target) path mode time = link_text path mode time target
line_of (contents.File size digest pack) path mode time =
    file_text path mode time size digest pack

-- the line of an entry, with its LF
abbrev pub entry_text : Entry → List ℕ
entry_text e = line_of e.content e.path e.mode e.time

-- the text of a list
abbrev pub list_text : List Entry → List ℕ
list_text entries = codes "#mtree\n" ++ flat_map entry_text entries

-- a part of a path that leads nowhere else: it has a byte and no NUL, and is neither `.` nor `..`
pub record IsSafePart (part : List ℕ) : Type 0 where
  pub some : part ≢ []
  pub here : part ≢ codes "."
  pub up : part ≢ codes ".."
  pub each : All (λ b. b ≢ 0) part

-- a path that stays in its folder: each part between its slashes (47) is safe, so none is empty,
-- and the path does not begin at the root
abbrev pub IsSafe : List ℕ → Type 0
IsSafe path = All IsSafePart (slice_split (λ b. b == 47) path)

-- what a list may name: a path that stays in its folder, and a mode of twelve bits
pub record IsEntry (e : Entry) : Type 0 where
  pub safe : IsSafe e.path
  pub mode : e.mode < 4096

-- these bytes are the text of these entries, which a list may name
pub record IsList (text : List ℕ) (entries : List Entry) : Type 0 where
  pub text_is : text ≡ list_text entries
  pub each : All IsEntry entries
