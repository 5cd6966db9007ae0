-- The random bytes of a job: a ChaCha20 key stream (RFC 8439, 2.3 and 2.4), in Bernstein's layout
-- of a 64-bit counter of blocks and a 64-bit number of the stream.
use Rattle.std.specs.Prelude.{◌≡◌, ℕ, zero, suc, ◌+◌, ◌*◌, ◌/◌, ◌%◌, ◌^◌, List, [], ◌∷◌, ◌++◌}
use Rattle.std.specs.Prelude.{length, slice_index}
use Rattle.std.specs.Int.{w32, to_le_bytes}
use Rattle.pot_bytes.specs.Lists.{AreBytes}
use Rattle.rand_chacha.specs.ChaCha.{word_at, key_of}

-- the byte at a place of the key stream of a key and a stream number: the words one after another
-- from word 0 on, each with its low byte first. Ten double rounds are ChaCha20's twenty rounds.
-- The counter of blocks has 64 bits, so the stream repeats after 2 ^ 68 words.
unfoldable pub key_stream : List ℕ → ℕ → ℕ → ℕ
key_stream key number place =
    slice_index (to_le_bytes w32 (word_at 10 key number (place / 4 % 2 ^ 68))) (place % 4)

-- stream(seed, session, job): the endless list of bytes of a job, from a place to its byte
abbrev pub stream : List ℕ → ℕ → ℕ → ℕ → ℕ
stream seed session job = key_stream (key_of seed) (session * 2 ^ 32 + job)

-- a count of bytes of an endless list, from a place on
unfoldable pub bytes_from : (ℕ → ℕ) → ℕ → ℕ → List ℕ
bytes_from bytes place zero = []
bytes_from bytes place (suc count) = bytes place ∷ bytes_from bytes (suc place) count

-- what a contract sees of a `PadStream`: the seed's eight words, the number of the stream, and the
-- place of the next byte, which is below 2 ^ 70, the length after which the stream repeats
pub record Pads : Type 0 where
  pub key : List ℕ
  pub number : ℕ
  pub place : ℕ

-- the stream of a seed, a session and a job, at its first byte
abbrev pub pads_of : List ℕ → ℕ → ℕ → Pads
pads_of seed session job = record { key = key_of seed; number = session * 2 ^ 32 + job; place = 0 }

-- the next bytes of the stream
abbrev pub next_bytes : Pads → ℕ → List ℕ
next_bytes pads count = bytes_from (key_stream pads.key pads.number) pads.place count

-- the same stream, a count of bytes further on
abbrev pub moved : Pads → ℕ → Pads
moved pads count = record pads { place = (pads.place + count) % 2 ^ 70 }

-- What holds of each stream, for those who cut it.

-- as many bytes as were asked for
abbrev pub GivesThatMany : Type 0
GivesThatMany = (pads : Pads) (count : ℕ) → length (next_bytes pads count) ≡ count

-- each of them a byte
abbrev pub GivesBytes : Type 0
GivesBytes = (pads : Pads) (count : ℕ) → AreBytes (next_bytes pads count)

-- a cut changes nothing: the next a + b bytes are the next a and then the next b
abbrev pub CutsAnywhere : Type 0
CutsAnywhere =
    (pads : Pads) (a b : ℕ)
    → next_bytes pads (a + b) ≡ next_bytes pads a ++ next_bytes (moved pads a) b

-- two steps are one
abbrev pub StepsAddUp : Type 0
StepsAddUp = (pads : Pads) (a b : ℕ) → moved (moved pads a) b ≡ moved pads (a + b)

-- after `place` bytes the stream of a job goes on with its bytes from `place` on
abbrev pub GoesOnFrom : Type 0
GoesOnFrom =
    (seed : List ℕ) (session job place count : ℕ)
    → next_bytes (moved (pads_of seed session job) place) count
    ≡ bytes_from (stream seed session job) place count
