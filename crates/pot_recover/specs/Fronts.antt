-- Objects by their first bytes.
use Rattle.std.specs.Prelude.{ℕ, Bool, IsTrue, List, take, AllPairs}
use Rattle.std.specs.Ordering.{nat_cmp, is_le, is_lt}
use Rattle.std.specs.Cmp.Lexicographic.{slice_cmp}
use Rattle.std.specs.Str.{bytes_eq}

-- bytes 0..32 of an object: its file id, its piece, the number of pieces and the length
abbrev pub front_of : List ℕ → List ℕ
front_of object = take 32 object

-- whether an object begins with these bytes
abbrev pub has_front : List ℕ → List ℕ → Bool
has_front front object = bytes_eq (front_of object) front

-- whether its front is below this one
abbrev pub is_below : List ℕ → List ℕ → Bool
is_below front object = is_lt (slice_cmp nat_cmp (front_of object) front)

-- the fronts do not fall
abbrev pub FrontsRise : List (List ℕ) → Type 0
FrontsRise objects =
    AllPairs (λ a b. IsTrue (is_le (slice_cmp nat_cmp (front_of a) (front_of b)))) objects
