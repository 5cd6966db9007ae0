-- Laws of the XOR of blocks.
use Rattle.std.proofs.Common.{◌≡◌, ◌<◌, ◌≤◌, ℕ, zero, suc, List, [], ◌∷◌, ◌++◌, length, take, drop, get_or, replicate, refl, ap, sym, ◌∙◌, arith}
use Rattle.std.proofs.Math.ListN.{set}
use Rattle.std.proofs.lemmas.List.{length-replicate}
use Rattle.std.specs.Prelude.{bit_xor}
use Rattle.std.specs.Int.Bits.{xor_assoc as bits_assoc, xor_self as bits_self}
use Rattle.std.proofs.lemmas.Nat.{xor_comm as bits_comm}
use Rattle.pot_bytes.specs.Sums.{xor, sum_of, zero_block}

-- one more place of the XOR is in place
pub xor-step : (xs ys : List ℕ) (i : ℕ) → i < length xs → i < length ys
    → take (suc i) (set xs i (bit_xor (get_or xs i 0) (get_or ys i 0)))
    ++ xor (drop (suc i) (set xs i (bit_xor (get_or xs i 0) (get_or ys i 0)))) (drop (suc i) ys)
    ≡ take i xs ++ xor (drop i xs) (drop i ys)
xor-step [] ys i a b = absurd (omega arith)
xor-step (x ∷ xs) [] i a b = absurd (omega arith)
xor-step (x ∷ xs) (y ∷ ys) zero a b = refl
xor-step (x ∷ xs) (y ∷ ys) (suc i) a b = ap (λ r. x ∷ r) (xor-step xs ys i (omega arith) (omega arith))

-- past the end all places are in place
pub xor-end : (xs ys : List ℕ) (i : ℕ) → length xs ≤ i → take i xs ++ xor (drop i xs) (drop i ys) ≡ xs
xor-end [] ys zero a = refl
xor-end [] ys (suc i) a = refl
xor-end (x ∷ xs) ys zero a = absurd (omega arith)
xor-end (x ∷ xs) [] (suc i) a = ap (λ r. x ∷ r) (at_nil xs i (omega arith))
  where
    at_nil : (xs : List ℕ) (i : ℕ) → length xs ≤ i → take i xs ++ xor (drop i xs) [] ≡ xs
    at_nil [] zero a = refl
    at_nil [] (suc i) a = refl
    at_nil (x ∷ xs) zero a = absurd (omega arith)
    at_nil (x ∷ xs) (suc i) a = ap (λ r. x ∷ r) (at_nil xs i (omega arith))
xor-end (x ∷ xs) (y ∷ ys) (suc i) a = ap (λ r. x ∷ r) (xor-end xs ys i (omega arith))

-- the order does not matter
pub xor_comm : (a b : List ℕ) → xor a b ≡ xor b a
xor_comm [] [] = refl
xor_comm [] (y ∷ b) = refl
xor_comm (x ∷ a) [] = refl
xor_comm (x ∷ a) (y ∷ b) = rw (bits_comm x y, xor_comm a b)

pub xor_assoc : (a b c : List ℕ) → xor (xor a b) c ≡ xor a (xor b c)
xor_assoc [] b c = refl
xor_assoc (x ∷ a) [] c = refl
xor_assoc (x ∷ a) (y ∷ b) [] = refl
xor_assoc (x ∷ a) (y ∷ b) (z ∷ c) = rw (bits_assoc x y z, xor_assoc a b c)

-- a block and itself make zeros
pub xor_self : (a : List ℕ) → xor a a ≡ replicate (length a) 0
xor_self [] = refl
xor_self (x ∷ a) = rw (bits_self x, xor_self a)

pub xor_zeros : (a : List ℕ) → xor (replicate (length a) 0) a ≡ a
xor_zeros [] = refl
xor_zeros (x ∷ a) = ap (λ r. x ∷ r) (xor_zeros a)

pub length-xor : (a b : List ℕ) → length a ≡ length b → length (xor a b) ≡ length a
length-xor [] b e = refl
length-xor (x ∷ a) [] e = absurd (omega arith)
length-xor (x ∷ a) (y ∷ b) e = ap suc (length-xor a b (omega arith))

pub length-xor_le : (a b : List ℕ) → length (xor a b) ≤ length b
length-xor_le [] b = omega arith
length-xor_le (x ∷ a) [] = omega arith
length-xor_le (x ∷ a) (y ∷ b) = let h : length (xor a b) ≤ length b = length-xor_le a b in omega arith

-- zeros that are long enough change nothing
pub xor_replicate : (n : ℕ) (a : List ℕ) → length a ≤ n → xor (replicate n 0) a ≡ a
xor_replicate zero [] h = refl
xor_replicate zero (x ∷ a) h = absurd (omega arith)
xor_replicate (suc n) [] h = refl
xor_replicate (suc n) (x ∷ a) h = ap (λ r. x ∷ r) (xor_replicate n a (omega arith))

pub length-zero_block : length zero_block ≡ 1024
unfolding zero_block
length-zero_block = length-replicate {A = ℕ} 1024 0

pub xor_zero : (a : List ℕ) → length a ≤ 1024 → xor zero_block a ≡ a
unfolding zero_block
xor_zero a h = xor_replicate 1024 a h

pub xor_twice : (a : List ℕ) → length a ≡ 1024 → xor a a ≡ zero_block
unfolding zero_block
xor_twice a h = xor_self a ∙ ap (λ n. replicate n 0) h

-- what makes zeros with a block is that block
pub xor_unique : (a r : List ℕ) → length a ≡ 1024 → length r ≤ 1024 → xor a r ≡ zero_block → r ≡ a
xor_unique a r la lr e =
    sym (xor_zero r lr) ∙ ap (λ z. xor z r) (sym (xor_twice a la)) ∙ xor_assoc a a r
    ∙ ap (λ z. xor a z) e ∙ xor_comm a zero_block ∙ xor_zero a (omega arith)

-- a list that comes twice falls out of a sum
pub xor_again : (a b c : List ℕ) → length c ≤ length a → xor (xor a b) (xor a c) ≡ xor b c
xor_again a b c h =
    ap (λ z. xor z (xor a c)) (xor_comm a b) ∙ xor_assoc b a (xor a c) ∙ ap (λ z. xor b z) (sym (xor_assoc a a c))
    ∙ ap (λ z. xor b (xor z c)) (xor_self a) ∙ ap (λ z. xor b z) (xor_replicate (length a) c h)

-- a summand that changes from `old` to `new` changes the sum by `xor old new`
pub sum_of-changed : (n : ℕ) (before after : List (List ℕ)) (old new : List ℕ) → length new ≤ length old
    → sum_of n (before ++ new ∷ after) ≡ xor (sum_of n (before ++ old ∷ after)) (xor old new)
sum_of-changed n [] after old new h =
    xor_comm new (sum_of n after) ∙ sym (xor_again old (sum_of n after) new h)
sum_of-changed n (b ∷ before) after old new h =
    ap (λ z. xor b z) (sum_of-changed n before after old new h)
    ∙ sym (xor_assoc b (sum_of n (before ++ old ∷ after)) (xor old new))
