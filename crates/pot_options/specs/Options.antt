-- Words that spell options, each as `--name value` or as `--name=value`.
use Rattle.std.specs.Prelude.{◌≡◌, ◌⊎◌, ℕ, Bool, true, false, not, nat_eq, ⊤, List, [], ◌∷◌, ◌++◌}
use Rattle.std.specs.Prelude.{Option, find, option_map}
use Rattle.std.specs.List.{list_any}
use Rattle.std.specs.Str.{bytes_eq}

-- the bytes of a text
abbrev pub Text : Type 0
Text = List ℕ

-- `--name`
abbrev pub dashed : Text → Text
dashed name = 45 ∷ 45 ∷ name

-- The words spell the uses in turn. A use is the name of an option and the value that it is given.
abbrev pub AreSpelled : List (Text × Text) → List Text → Type 0
AreSpelled [] words = words ≡ []
AreSpelled (use_here ∷ others) words = (left : List Text) × AreSpelled others left
    × ((words ≡ dashed use_here.0 ∷ use_here.1 ∷ left)
    ⊎ (words ≡ (dashed use_here.0 ++ 61 ∷ use_here.1) ∷ left))

abbrev pub is_among : List Text → Text → Bool
is_among names name = list_any (λ known. bytes_eq known name) names

abbrev pub is_used : List (Text × Text) → Text → Bool
is_used uses name = list_any (λ u. bytes_eq u.0 name) uses

-- each use is of one of the names, and of none that was used before
abbrev pub AreNewOptions : List Text → List (Text × Text) → List (Text × Text) → Type 0
AreNewOptions names before [] = ⊤
AreNewOptions names before (u ∷ others) = (is_among names u.0 ≡ true) × (is_used before u.0 ≡ false)
    × AreNewOptions names (before ++ u ∷ []) others

-- the words spell these uses of the options `names`, each option at most once
abbrev pub SpellUses : List Text → List Text → List (Text × Text) → Type 0
SpellUses names words uses = AreSpelled uses words × AreNewOptions names [] uses

-- the value that the uses give an option
abbrev pub given : List (Text × Text) → Text → Option Text
given uses name = option_map (λ u. u.1) (find (λ u. bytes_eq u.0 name) uses)

-- the text does not begin with a hyphen
abbrev pub IsUnhyphened : Text → Type 0
IsUnhyphened [] = ⊤
IsUnhyphened (b ∷ rest) = nat_eq b 45 ≡ false

abbrev pub AreUnhyphened : List (Text × Text) → Type 0
AreUnhyphened [] = ⊤
AreUnhyphened (u ∷ others) = IsUnhyphened u.1 × AreUnhyphened others

-- the words spell the uses that were read, and no others whose values begin with no hyphen
abbrev pub AreOptionsRead : List Text → List Text → List (Text × Text) → Type 0
AreOptionsRead names words read = SpellUses names words read
    × ((uses : List (Text × Text)) → SpellUses names words uses → AreUnhyphened uses → read ≡ uses)

-- the words spell no uses whose values begin with no hyphen
abbrev pub IsUnread : List Text → List Text → Type 0
IsUnread names words =
    (uses : List (Text × Text)) → SpellUses names words uses → AreUnhyphened uses → ⊥

-- a name is not empty and has no `=`
abbrev pub has_no_equals : Text → Bool
has_no_equals name = not (list_any (λ b. nat_eq b 61) name)

abbrev pub IsOptionName : Text → Type 0
IsOptionName [] = ⊥
IsOptionName (b ∷ rest) = has_no_equals (b ∷ rest) ≡ true

abbrev pub AreOptionNames : List Text → Type 0
AreOptionNames [] = ⊤
AreOptionNames (name ∷ others) = IsOptionName name × AreOptionNames others

-- a word is just `--`
abbrev pub has_delimiter : List Text → Bool
has_delimiter words = list_any (λ word. bytes_eq word (45 ∷ 45 ∷ [])) words
