-- Lists of bytes, and the list that a block is.
use Rattle.std.specs.Prelude.{◌≡◌, ◌<◌, ℕ, List, length, slice_index}

-- each element is a byte
abbrev pub AreBytes : List ℕ → Type 0
AreBytes bytes = (k : ℕ) → slice_index bytes k < 256

-- 1,024 bytes
pub record IsBlock (block : List ℕ) : Type 0 where
  pub size : length block ≡ 1024
  pub bytes : AreBytes block
