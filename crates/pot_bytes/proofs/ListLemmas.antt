-- What is made of bytes is bytes.
use Rattle.std.proofs.Common.{◌<◌, ◌++◌, ◌∷◌, [], ℕ, zero, suc, List, take, drop, replicate, lit<}
use Rattle.std.proofs.lemmas.Nat.{xor_of_8}
use Rattle.pot_bytes.specs.Lists.{AreBytes}
use Rattle.pot_bytes.specs.Sums.{xor}

pub AreBytes-cons : (b : ℕ) (bytes : List ℕ) → b < 256 → AreBytes bytes → AreBytes (b ∷ bytes)
AreBytes-cons b bytes first rest zero = first
AreBytes-cons b bytes first rest (suc k) = rest k

pub AreBytes-append : (front back : List ℕ) → AreBytes front → AreBytes back → AreBytes (front ++ back)
AreBytes-append [] back f b k = b k
AreBytes-append (x ∷ front) back f b zero = f 0
AreBytes-append (x ∷ front) back f b (suc k) = AreBytes-append front back (λ i. f (suc i)) b k

pub AreBytes-take : (n : ℕ) (bytes : List ℕ) → AreBytes bytes → AreBytes (take n bytes)
AreBytes-take zero bytes h k = lit< tt
AreBytes-take (suc n) [] h k = h k
AreBytes-take (suc n) (b ∷ bytes) h zero = h 0
AreBytes-take (suc n) (b ∷ bytes) h (suc k) = AreBytes-take n bytes (λ i. h (suc i)) k

pub AreBytes-drop : (n : ℕ) (bytes : List ℕ) → AreBytes bytes → AreBytes (drop n bytes)
AreBytes-drop zero bytes h k = h k
AreBytes-drop (suc n) [] h k = h k
AreBytes-drop (suc n) (b ∷ bytes) h k = AreBytes-drop n bytes (λ i. h (suc i)) k

pub AreBytes-zeros : (n : ℕ) → AreBytes (replicate n 0)
AreBytes-zeros zero k = lit< tt
AreBytes-zeros (suc n) zero = lit< tt
AreBytes-zeros (suc n) (suc k) = AreBytes-zeros n k

pub AreBytes-xor : (a b : List ℕ) → AreBytes a → AreBytes b → AreBytes (xor a b)
AreBytes-xor [] b h i k = lit< tt
AreBytes-xor (x ∷ a) [] h i k = lit< tt
AreBytes-xor (x ∷ a) (y ∷ b) h i zero = xor_of_8 x y (h 0) (i 0)
AreBytes-xor (x ∷ a) (y ∷ b) h i (suc k) = AreBytes-xor a b (λ n. h (suc n)) (λ n. i (suc n)) k
