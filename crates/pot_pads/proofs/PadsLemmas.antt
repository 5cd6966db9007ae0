-- Laws of a stream and of cuts of it.
use Rattle.std.proofs.Common.{◌≡◌, ℕ, zero, suc, ◌+◌, ◌*◌, ◌/◌, ◌%◌, ◌^◌, ◌<◌, List, ◌∷◌, ◌++◌, length, get_or, refl, ap, ◌∙◌, arith, lit<}
use Rattle.std.specs.Int.{w32, to_le_bytes}
use Rattle.pot_bytes.specs.Lists.{AreBytes}
use Rattle.rand_chacha.specs.ChaCha.{key_of, word_at}
use Rattle.pot_pads.specs.Pads.{key_stream, stream, bytes_from, Pads, pads_of, next_bytes, moved}

-- that many bytes
pub length-bytes_from : (f : ℕ → ℕ) (place count : ℕ) → length (bytes_from f place count) ≡ count
unfolding bytes_from
length-bytes_from f place zero = refl
length-bytes_from f place (suc count) = ap suc (length-bytes_from f (suc place) count)

-- the bytes of a cut and then those after it
pub bytes_from-append : (f : ℕ → ℕ) (place a b : ℕ)
    → bytes_from f place (a + b) ≡ bytes_from f place a ++ bytes_from f (place + a) b
unfolding bytes_from
bytes_from-append f place zero b =
    ap (λ n. bytes_from f place n) (omega arith) ∙ ap (λ p. bytes_from f p b) (omega arith)
bytes_from-append f place (suc a) b =
    let more : suc a + b ≡ suc (a + b) = omega arith in
    let start : suc place + a ≡ place + suc a = omega arith in
    ap (λ n. bytes_from f place n) more
    ∙ ap (λ l. f place ∷ l) (bytes_from-append f (suc place) a b)
    ∙ ap (λ p. f place ∷ (bytes_from f (suc place) a ++ bytes_from f p b)) start

-- the stream repeats
pub key_stream-repeats : (key : List ℕ) (number p q : ℕ) → p % 2 ^ 70 ≡ q % 2 ^ 70
    → key_stream key number p ≡ key_stream key number q
unfolding key_stream
key_stream-repeats key number p q same =
    let word : p / 4 % 2 ^ 68 ≡ q / 4 % 2 ^ 68 = omega arith in
    let byte : p % 4 ≡ q % 4 = omega arith in
    cc

-- a byte of a stream is below 256
byte_of_word : (word i : ℕ) → get_or (to_le_bytes w32 word) i 0 < 256
byte_of_word word zero = omega arith
byte_of_word word (suc zero) = omega arith
byte_of_word word (suc (suc zero)) = omega arith
byte_of_word word (suc (suc (suc zero))) = omega arith
byte_of_word word (suc (suc (suc (suc i)))) = omega arith

pub key_stream-byte : (key : List ℕ) (number place : ℕ) → key_stream key number place < 256
unfolding key_stream
key_stream-byte key number place = byte_of_word (word_at 10 key number (place / 4 % 2 ^ 68)) (place % 4)

-- bytes of a list of bytes without end
pub AreBytes-bytes_from : (f : ℕ → ℕ) (place count : ℕ) → ((p : ℕ) → f p < 256) → AreBytes (bytes_from f place count)
unfolding bytes_from
AreBytes-bytes_from f place zero below k = lit< tt
AreBytes-bytes_from f place (suc count) below zero = below place
AreBytes-bytes_from f place (suc count) below (suc k) = AreBytes-bytes_from f (suc place) count below k

-- bytes from two places that are the same in a stream that repeats
pub bytes_from-repeats : (key : List ℕ) (number p q count : ℕ) → p % 2 ^ 70 ≡ q % 2 ^ 70
    → bytes_from (key_stream key number) p count ≡ bytes_from (key_stream key number) q count
unfolding bytes_from
bytes_from-repeats key number p q zero same = refl
bytes_from-repeats key number p q (suc count) same =
    let next : suc p % 2 ^ 70 ≡ suc q % 2 ^ 70 = omega arith in
    let first : key_stream key number p ≡ key_stream key number q = key_stream-repeats key number p q same in
    let rest : bytes_from (key_stream key number) (suc p) count ≡ bytes_from (key_stream key number) (suc q) count =
    bytes_from-repeats key number (suc p) (suc q) count next in
    cc

-- the next a + b bytes are the next a and then the next b
pub next_bytes-append : (pads : Pads) (a b : ℕ)
    → next_bytes pads (a + b) ≡ next_bytes pads a ++ next_bytes (moved pads a) b
next_bytes-append pads a b =
    let same : (pads.place + a) % 2 ^ 70 ≡ (pads.place + a) % 2 ^ 70 % 2 ^ 70 = omega arith in
    bytes_from-append (key_stream pads.key pads.number) pads.place a b
    ∙ ap (λ l. bytes_from (key_stream pads.key pads.number) pads.place a ++ l)
    (bytes_from-repeats pads.key pads.number (pads.place + a) ((pads.place + a) % 2 ^ 70) b same)

-- moving on twice
pub moved-moved : (pads : Pads) (a b : ℕ) → moved (moved pads a) b ≡ moved pads (a + b)
moved-moved pads a b =
    let same : ((pads.place + a) % 2 ^ 70 + b) % 2 ^ 70 ≡ (pads.place + (a + b)) % 2 ^ 70 = omega arith in
    ap (λ p. record pads { place = p }) same

-- moving on by nothing
pub moved-zero : (pads : Pads) → pads.place < 2 ^ 70 → pads ≡ moved pads 0
moved-zero pads in_stream =
    let same : pads.place ≡ (pads.place + 0) % 2 ^ 70 = omega arith in
    ap (λ p. record pads { place = p }) same

-- as many bytes as were asked for
pub length-next_bytes : (pads : Pads) (count : ℕ) → length (next_bytes pads count) ≡ count
length-next_bytes pads count = length-bytes_from (key_stream pads.key pads.number) pads.place count

-- each of them a byte
pub AreBytes-next_bytes : (pads : Pads) (count : ℕ) → AreBytes (next_bytes pads count)
AreBytes-next_bytes pads count =
    AreBytes-bytes_from (key_stream pads.key pads.number) pads.place count (key_stream-byte pads.key pads.number)

-- after `place` bytes the stream of a job goes on with its bytes from `place` on
pub next_bytes-moved : (seed : List ℕ) (session job place count : ℕ)
    → next_bytes (moved (pads_of seed session job) place) count ≡ bytes_from (stream seed session job) place count
next_bytes-moved seed session job place count =
    bytes_from-repeats (key_of seed) (session * 2 ^ 32 + job) ((0 + place) % 2 ^ 70) place count (omega arith)

-- three cuts one after another
pub three_cuts : (p q r : Pads) (a b d : List ℕ) (i j k n : ℕ) → a ≡ next_bytes p i → q ≡ moved p i → b ≡ next_bytes q j → r ≡ moved q j
    → d ≡ next_bytes r k → i + (j + k) ≡ n → a ++ (b ++ d) ≡ next_bytes p n
three_cuts p q r a b d i j k n ea eq eb er ed en =
    rw (ea, eb, ed, er, ← next_bytes-append q j k, eq, ← next_bytes-append p i (j + k), en) refl
