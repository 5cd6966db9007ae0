-- How the fields of a `PadStream` stand for a place of its stream.
use Rattle.std.specs.Prelude.{◌≡◌, ℕ, ◌+◌, ◌-◌, ◌*◌, ◌%◌, ◌^◌, ◌<◌, List}
use Rattle.std.specs.Int.{w32, to_le_bytes}
use Rattle.rand_chacha.specs.ChaCha.{word_at}

-- the place of the next byte, where the generator stands before word `next` and the last `left`
-- bytes of the word before it were not given yet
abbrev pub place_of : ℕ → ℕ → ℕ
place_of next left = (4 * next + (2 ^ 70 - left)) % 2 ^ 70

-- fewer than four bytes are left, and they are the last of the word before `next`
pub record HoldsRest (key : List ℕ) (number next : ℕ) (word : List ℕ) (left : ℕ) : Type 0 where
  pub in_stream : next < 2 ^ 68
  pub in_word : left < 4
  pub last_word : 0 < left
      → word ≡ to_le_bytes w32 (word_at 10 key number ((next + (2 ^ 68 - 1)) % 2 ^ 68))
