-- The catalog of a vault: how the desks of its racks stood, and what lists tell of their files.
use Rattle.std.specs.Prelude.{◌≡◌, ◌||◌, ◌<◌, ◌^◌, ◌++◌, ◌∷◌, ◌==◌, [], ℕ, List, Bool, true, false, length, get_or}
use Rattle.std.specs.Prelude.{◌≤◌, Option, Some, None, All, IfSome, codes, decimal, flat_map}
use Rattle.std.specs.List.{starts_with}
use Rattle.hex.specs.Hex.{IsBytes, encode_lower}
use Rattle.pot_bytes.specs.Digests.{digest_bytes}
use Rattle.pot_bytes.specs.Names.{IsName}
use Rattle.pot_bytes.specs.declared.digest.Digest.{Digest}
use Rattle.pots_racks.specs.declared.catalog.Listed.{Listed}
use Rattle.pots_racks.specs.declared.catalog.RackDesk.{RackDesk}
use Rattle.pots_racks.specs.declared.catalog.Line.{Line}
use Rattle.pots_racks.specs.declared.catalog.Line.TheVariants.{OfRack, OfFile}

-- `potshards-catalog 1`, that it is a cache, and LF
abbrev pub head : List ℕ
head = codes "potshards-catalog 1: a cache of pots list, which may be deleted at any time\n"

-- a space and a number
abbrev pub spaced : ℕ → List ℕ
spaced n = 32 ∷ decimal n

-- the length of the file of just a name, or a dash
abbrev pub size : Option ℕ → List ℕ
size None = 45 ∷ []
size (Some n) = decimal n

-- whether the list of parts is there, as a digit
abbrev pub flag : Bool → ℕ
flag true = 49
flag false = 48

-- `rack`, the number, how its desk stood, and LF
abbrev pub rack_line : RackDesk → List ℕ
rack_line r =
    codes "rack" ++ spaced r.rack ++ spaced r.generation ++ spaced r.length
    ++ 32 ∷ encode_lower r.digest.bytes ++ 10 ∷ []

-- `file`, the name, what is stored under it, and LF
abbrev pub file_line : Listed → List ℕ
file_line f =
    codes "file " ++ f.name ++ 32 ∷ size f.direct ++ spaced f.parts ++ spaced f.bytes
    ++ 32 ∷ flag f.complete ∷ 10 ∷ []

abbrev pub line_text : Line → List ℕ
line_text (OfRack r) = rack_line r
line_text (OfFile f) = file_line f

-- what stands before the last line
unfoldable pub body : List Line → List ℕ
body lines = head ++ flat_map line_text lines

-- the last line: `sum`, a digest and LF
abbrev pub sum_line : List ℕ → List ℕ
sum_line digest = codes "sum " ++ encode_lower digest ++ 10 ∷ []

-- the text of a catalog
unfoldable pub catalog_text : List Line → List ℕ
catalog_text lines = body lines ++ sum_line (digest_bytes (body lines))

-- each value of these types is one of these

abbrev pub IsRackDigest : Digest → Type 0
IsRackDigest d = (length d.bytes ≡ 32) × IsBytes d.bytes

abbrev pub IsRackDesk : RackDesk → Type 0
IsRackDesk r =
    (r.rack < 2 ^ 64) × (r.generation < 2 ^ 64) × (r.length < 2 ^ 64)
    × IsRackDigest r.digest

abbrev pub IsListedFile : Listed → Type 0
IsListedFile f =
    IsName f.name × IfSome f.direct (λ n. n < 2 ^ 64) × (f.parts < 2 ^ 64) × (f.bytes < 2 ^ 64)

abbrev pub IsCatalogLine : Line → Type 0
IsCatalogLine (OfRack r) = IsRackDesk r
IsCatalogLine (OfFile f) = IsListedFile f

-- this is the text of these lines
pub record IsCatalogOf (lines : List Line) (text : List ℕ) : Type 0 where
  pub each : All IsCatalogLine lines
  pub text_is : text ≡ catalog_text lines

-- it is empty, or begins with `potshards-catalog` and a space
abbrev pub may_be_catalog : List ℕ → Bool
may_be_catalog text =
    (length text == 0) || starts_with ◌==◌ text (codes "potshards-catalog ")

-- no two catalogs have one text
abbrev pub TellsOne : Type 0
TellsOne =
    (a b : List Line) (text : List ℕ) → IsCatalogOf a text → IsCatalogOf b text → a ≡ b

-- the line is that of this rack
abbrev pub is_of : ℕ → Line → Bool
is_of rack (OfRack r) = r.rack == rack
is_of rack (OfFile f) = false

-- it is that of a file
abbrev pub is_file : Line → Bool
is_file (OfRack r) = false
is_file (OfFile f) = true

-- there are no lines, or the first is that of a rack
abbrev pub BeginsWithNoFile : List Line → Type 0
BeginsWithNoFile [] = Unit
BeginsWithNoFile (l ∷ _) = is_file l ≡ false

-- The first line of a rack has this desk, and these are all lines of files behind it, up to the
-- next line of a rack.
pub record IsSection (lines : List Line) (rack : ℕ) (desk : RackDesk) (files : List Line) : Type 0 where
  pub front : List Line
  pub back : List Line
  pub whole : lines ≡ front ++ OfRack desk ∷ (files ++ back)
  pub own : desk.rack ≡ rack
  pub before : All (λ l. is_of rack l ≡ false) front
  pub each : All (λ l. is_file l ≡ true) files
  pub next : BeginsWithNoFile back

-- no line is that of this rack
abbrev pub HasNone : List Line → ℕ → Type 0
HasNone lines rack = All (λ l. is_of rack l ≡ false) lines

-- the first line of this rack stands here
pub record IsPlaceOf (lines : List Line) (rack at : ℕ) : Type 0 where
  pub within : at < length lines
  pub is : (d : Line) → is_of rack (get_or lines at d) ≡ true
  pub before : (j : ℕ) (d : Line) → j < at → is_of rack (get_or lines j d) ≡ false

-- so many lines of files stand at the front
pub record IsCount (lines : List Line) (count : ℕ) : Type 0 where
  pub within : count ≤ length lines
  pub each : (j : ℕ) (d : Line) → j < count → is_file (get_or lines j d) ≡ true
  pub next : (d : Line) → count < length lines → is_file (get_or lines count d) ≡ false
