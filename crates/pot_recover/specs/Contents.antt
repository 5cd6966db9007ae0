-- The heads of contents, and contents in their order.
use Rattle.std.specs.Prelude.{◌≡◌, ◌≤◌, ℕ, Bool, IsTrue, List, take, drop, replicate, slice_index}
use Rattle.std.specs.Prelude.{AllPairs}
use Rattle.std.specs.Ordering.{nat_cmp, is_eq, is_le}
use Rattle.std.specs.Cmp.Lexicographic.{slice_cmp}

-- the object id, the fragment's number and the number of fragments
abbrev pub head_of : List ℕ → List ℕ
head_of content = take 18 content

abbrev pub begins_with : List ℕ → List ℕ → Bool
begins_with head content = is_eq (slice_cmp nat_cmp (head_of content) head)

-- the heads do not fall
abbrev pub HeadsRise : List (List ℕ) → Type 0
HeadsRise contents =
    AllPairs (λ a b. IsTrue (is_le (slice_cmp nat_cmp (head_of a) (head_of b)))) contents

-- a number and a count that a fragment may have
pub record IsNumbering (number count : ℕ) : Type 0 where
  pub two : 2 ≤ count
  pub eight : count ≤ 8
  pub first : 1 ≤ number
  pub last : number ≤ count

-- a number, a count and zeros, as a content has them at its places 16 to 31
abbrev pub IsTail : List ℕ → Type 0
IsTail tail = IsNumbering (slice_index tail 0) (slice_index tail 1) × (drop 2 tail ≡ replicate 14 0)
