-- The places of a vault: their names, and the text of the file that names them.
use Rattle.std.specs.Prelude.{◌≡◌, ◌≢◌, ◌≤◌, ◌<◌, ◌++◌, ◌∷◌, [], ◌==◌, ◌||◌, ◌&&◌, not}
use Rattle.std.specs.Prelude.{ℕ, List, Bool, true, false, nat_le, IsTrue, All, length, get_or}
use Rattle.std.specs.Prelude.{codes, flat_map}
use Rattle.std.specs.Cmp.Lexicographic.{pointwise}
use Rattle.pot_bytes.specs.Names.{IsName}

-- it begins with a letter of `a-z`
abbrev pub begins_with_letter : List ℕ → Bool
begins_with_letter [] = false
begins_with_letter (b ∷ _) = nat_le 97 b && nat_le b 122

-- a name that a place may have: that of a file, and its first byte is a letter
pub record IsPlaceName (bytes : List ℕ) : Type 0 where
  pub name : IsName bytes
  pub letter : IsTrue (begins_with_letter bytes)

-- one of these names is this one
abbrev pub is_among : List ℕ → List (List ℕ) → Bool
is_among name [] = false
is_among name (other ∷ others) = pointwise ◌==◌ other name || is_among name others

-- no name stands twice
abbrev pub are_apart : List (List ℕ) → Bool
are_apart [] = true
are_apart (name ∷ others) = not (is_among name others) && are_apart others

-- the names of the places of a vault
pub record ArePlaces (names : List (List ℕ)) : Type 0 where
  pub some : 2 ≤ length names
  pub few : length names ≤ 16
  pub each : All IsPlaceName names
  pub apart : IsTrue (are_apart names)

-- this is the first place of the name
pub record IsPlaceAt (names : List (List ℕ)) (name : List ℕ) (at : ℕ) : Type 0 where
  pub within : at < length names
  pub is : get_or names at [] ≡ name
  pub before : (j : ℕ) → j < at → get_or names j [] ≢ name

-- no place has this name
abbrev pub IsNowhere : List (List ℕ) → List ℕ → Type 0
IsNowhere names name = (j : ℕ) → j < length names → get_or names j [] ≢ name

-- `potshards-places 1` and LF
abbrev pub head : List ℕ
head = codes "potshards-places 1\n"

-- the line of a place: `place`, a space, its name and LF
abbrev pub line : List ℕ → List ℕ
line name = (codes "place " ++ name) ++ 10 ∷ []

-- `end` and LF
abbrev pub tail : List ℕ
tail = codes "end\n"

-- the text that names these places, in order
abbrev pub places_text : List (List ℕ) → List ℕ
places_text names = (head ++ flat_map line names) ++ tail

-- the text names these places
pub record NamesPlaces (text : List ℕ) (names : List (List ℕ)) : Type 0 where
  pub are : ArePlaces names
  pub text_is : text ≡ places_text names

-- it names those of no vault
abbrev pub NamesNone : List ℕ → Type 0
NamesNone text = (names : List (List ℕ)) → NamesPlaces text names → ⊥

-- the text is cut at its first LF
pub record CutsLine (text front behind : List ℕ) : Type 0 where
  pub whole : text ≡ front ++ 10 ∷ behind
  pub first : All (λ b. b ≢ 10) front

-- the first line names this place, and the rest stands behind it
pub record BeginsWith (text name behind : List ℕ) : Type 0 where
  pub is : IsPlaceName name
  pub whole : text ≡ line name ++ behind

-- the first line names no place
abbrev pub BeginsWithNone : List ℕ → Type 0
BeginsWithNone text = (name behind : List ℕ) → BeginsWith text name behind → ⊥
