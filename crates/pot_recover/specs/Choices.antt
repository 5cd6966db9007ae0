-- Choices, by the content that they begin with.
use Rattle.std.specs.Prelude.{◌≡◌, ◌<◌, ℕ, ◌-◌, ◌==◌, if◌then◌else◌, List, [], ◌∷◌, ◌++◌, map}
use Rattle.std.specs.Prelude.{filter, take, length, slice_index}
use Rattle.std.specs.Borrow.{Bor}
use Rattle.std.specs.List.{flat_map, range_with_len}
use Rattle.pot_chains.specs.Listed.{IsIn}
use Rattle.pot_chains.specs.Picks.{picks, pick_at}
use Rattle.pot_object.specs.Objects.{IsObject}
use Rattle.pot_object.specs.declared.object.ObjectHead.{ObjectHead}
use Rattle.pot_recover.specs.Contents.{begins_with}
use Rattle.pot_recover.specs.Recovered.{object_of}
use Rattle.pot_recover.specs.Rings.{IsAnyContent}

-- each is a content of the grammar
abbrev pub AreContents : List (List ℕ) → Type 0
AreContents contents = (c : List ℕ) → IsIn contents c → IsAnyContent c

-- an object of the grammar, whatever its head
abbrev pub IsSomeObject : List ℕ → Type 0
IsSomeObject object = (h : ObjectHead) × IsObject h object

abbrev pub items_of : Bor (List (List ℕ)) → List (List ℕ)
items_of part = part.now

-- the head of a content with another number
abbrev pub numbered : List ℕ → ℕ → List ℕ
numbered first number = take 16 first ++ number ∷ slice_index first 17 ∷ []

-- the contents of fragment `number` of the same object and count
abbrev pub list_of : List (List ℕ) → List ℕ → ℕ → List (List ℕ)
list_of contents first number = filter (begins_with (numbered first number)) contents

-- those of the fragments 2 to k
abbrev pub lists_of : List (List ℕ) → List ℕ → List (List (List ℕ))
lists_of contents first = map (list_of contents first) (range_with_len 2 (slice_index first 17 - 1))

-- the choices that begin with this content
abbrev pub choices_of : List (List ℕ) → List ℕ → List (List (List ℕ))
choices_of contents first =
    if slice_index first 16 == 1 then map (λ c. first ∷ c) (picks (lists_of contents first)) else []

-- an object that one of these choices gives
abbrev pub IsGivenBy : List (List (List ℕ)) → List ℕ → Type 0
IsGivenBy choices object =
    IsSomeObject object
    × ((choice : List (List ℕ)) × IsIn choices choice × (object_of choice ≡ object))

-- an object that a choice gives that begins with one of these contents
abbrev pub IsGiven : List (List ℕ) → List (List ℕ) → List ℕ → Type 0
IsGiven contents firsts object = IsGivenBy (flat_map (choices_of contents) firsts) object

-- an object that one of the first picks gives
abbrev pub IsPicked : List ℕ → List (List (List ℕ)) → ℕ → List ℕ → Type 0
IsPicked first lists count object =
    IsSomeObject object
    × ((t : ℕ) × (t < count) × (object_of (first ∷ pick_at [] lists t) ≡ object))

-- all of them have 992 bytes
abbrev pub AreAllWhole : List (List (List ℕ)) → Type 0
AreAllWhole lists =
    (list : List (List ℕ)) → IsIn lists list → (c : List ℕ) → IsIn list c → length c ≡ 992
