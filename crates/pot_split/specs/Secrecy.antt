-- The split by XOR: an object is pads, and one fragment more that XORs with them to the object.
use Rattle.std.specs.Prelude.{◌≡◌, ◌≢◌, ◌<◌, ◌≤◌, ◌+◌, ◌*◌, ◌/◌, ◌++◌, ℕ, zero, suc, List, [], ◌∷◌}
use Rattle.std.specs.Prelude.{length, take, drop}
use Rattle.pot_bytes.specs.Lists.{AreBytes}
use Rattle.pot_bytes.specs.Sums.{xor, sum_of}

-- the first rows of this size
abbrev pub rows_of : ℕ → ℕ → List ℕ → List (List ℕ)
rows_of zero size bytes = []
rows_of (suc count) size bytes = take size bytes ∷ rows_of count size (drop size bytes)

-- whole rows of this size, and nothing behind them
abbrev pub IsRows : ℕ → List ℕ → Type 0
IsRows size bytes = length bytes ≡ length bytes / size * size

-- what fragments mean that stand row by row: their XOR
abbrev pub meaning : ℕ → List ℕ → List ℕ
meaning size fragments = sum_of size (rows_of (length fragments / size) size fragments)

-- the fragments of an object: the pads, and the object XOR all pads
abbrev pub secrecy : List ℕ → List ℕ → List ℕ
secrecy object pads = pads ++ xor object (meaning (length object) pads)

-- row j, from 0, of rows of this size
abbrev pub row_at : ℕ → ℕ → List ℕ → List ℕ
row_at size j rows = take size (drop (j * size) rows)

-- The pads with which another object has the same fragments but for fragment f, from 0: the
-- difference of the two objects is added to pad f, and to none where f is the last fragment.
abbrev pub changed_pads : ℕ → ℕ → List ℕ → List ℕ → List ℕ
changed_pads size f difference pads =
    take (f * size) pads ++ (xor (row_at size f pads) difference ++ drop (f * size + size) pads)

-- an object and its pads, another object as long, and one of the fragments, from 0
pub record IsHidden (object other pads : List ℕ) (f : ℕ) : Type 0 where
  pub some : 0 < length object
  pub same_length : length other ≡ length object
  pub rows : IsRows (length object) pads
  pub fragment : f ≤ length pads / length object

-- What makes it a sharing of a secret.
pub record SecrecyLaws : Type 0 where
  -- whatever the pads, all fragments together give the object
  pub joins : (object pads : List ℕ) → 0 < length object → IsRows (length object) pads
      → meaning (length object) (secrecy object pads) ≡ object
  -- all fragments but one are those of any other object too
  pub hides : (object other pads : List ℕ) (f j : ℕ) → IsHidden object other pads f
      → j ≤ length pads / length object → j ≢ f
      → row_at (length object) j
      (secrecy other (changed_pads (length object) f (xor object other) pads))
      ≡ row_at (length object) j (secrecy object pads)
  -- by pads that are as long and are bytes, and that give the first ones back with the objects
  -- exchanged: so by a bijection
  pub as_long : (object other pads : List ℕ) (f : ℕ) → IsHidden object other pads f
      → length (changed_pads (length object) f (xor object other) pads) ≡ length pads
  pub bytes : (object other pads : List ℕ) (f : ℕ) → AreBytes object → AreBytes other
      → AreBytes pads
      → AreBytes (changed_pads (length object) f (xor object other) pads)
  pub back : (object other pads : List ℕ) (f : ℕ) → IsHidden object other pads f
      → changed_pads (length object) f (xor other object)
      (changed_pads (length object) f (xor object other) pads) ≡ pads
