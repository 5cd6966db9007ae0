-- The XOR of lists of bytes, place by place, and the zero block.
use Rattle.std.specs.Prelude.{ℕ, List, [], ◌∷◌, replicate, bit_xor}

-- the XOR of two lists, as long as the shorter one
abbrev pub xor : List ℕ → List ℕ → List ℕ
xor [] ys = []
xor (x ∷ xs) [] = []
xor (x ∷ xs) (y ∷ ys) = bit_xor x y ∷ xor xs ys

-- 1,024 zeros
unfoldable pub zero_block : List ℕ
zero_block = replicate 1024 0

-- the XOR of some lists of this length, zeros for none
abbrev pub sum_of : ℕ → List (List ℕ) → List ℕ
sum_of n [] = replicate n 0
sum_of n (b ∷ bs) = xor b (sum_of n bs)
