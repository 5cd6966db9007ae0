-- What is made of bytes is bytes.
use Rattle.std.proofs.Common.{[], ◌<◌, ◌*◌, ◌++◌, ◌∷◌, ℕ, zero, suc, List, length, take, drop, map, replicate, get_or, arith, lit<}
use Rattle.std.specs.List.{range_with_len}
use Rattle.std.specs.Int.{w32, byte_at, bytes_high_first, to_be_bytes}
use Rattle.byteorder.specs.Endian.{big_bytes}
use Rattle.sha2.specs.Sha256.{sha256}
use Rattle.sha2.specs.Sha256.{digest_bytes as hash_bytes}
use Rattle.pot_bytes.specs.Lists.{AreBytes}
use Rattle.pot_bytes.proofs.ListLemmas.{AreBytes-append, AreBytes-cons, AreBytes-drop, AreBytes-take, AreBytes-xor, AreBytes-zeros}
use Rattle.pot_bytes.specs.Digests.{digest_bytes}
use Rattle.pot_bytes.specs.Sums.{sum_of}
use Rattle.pot_object.specs.Sealing.{sealed}
use Rattle.pot_object.specs.Contents.{content_bytes, fragment_head_bytes}
use Rattle.pot_object.specs.Objects.{head_bytes, object, object_bytes}
use Rattle.pot_object.specs.Pieces.{part_of}
use Rattle.pot_object.specs.declared.content.FragmentHead.{FragmentHead}
use Rattle.pot_object.specs.declared.object.ObjectHead.{ObjectHead}
use Rattle.pot_gf.specs.Polynomials.{value}
use Rattle.pot_gf.proofs.Values.{value-below}
use Rattle.pot_shard.specs.Shards.{magic, shard_bytes}
use Rattle.pot_shard.specs.declared.shard.Shard.{Shard}
use Rattle.pot_split.specs.Secrecy.{rows_of}
use Rattle.pot_split.specs.Threshold.{polynomial_at, share}

byte_at-small : (k n : ℕ) → byte_at k n < 256
byte_at-small zero n = omega arith
byte_at-small (suc k) n = omega arith

number-bytes : (n x : ℕ) → AreBytes (bytes_high_first n x)
number-bytes zero x k = lit< tt
number-bytes (suc n) x zero = byte_at-small n x
number-bytes (suc n) x (suc k) = number-bytes n x k

words-bytes : (h : List ℕ) (n : ℕ) → AreBytes (hash_bytes h n)
unfolding hash_bytes
words-bytes h zero k = lit< tt
words-bytes h (suc n) k = AreBytes-append (hash_bytes h n) (to_be_bytes w32 (get_or h n 0)) (words-bytes h n) (number-bytes 4 (get_or h n 0)) k

digest-bytes : (bytes : List ℕ) → AreBytes (digest_bytes bytes)
unfolding digest_bytes sha256
digest-bytes bytes = words-bytes _ 8

sealed-bytes : (head rest : List ℕ) → AreBytes head → AreBytes rest → AreBytes (sealed head rest)
sealed-bytes head rest a b =
    AreBytes-append (head ++ digest_bytes (head ++ rest)) rest (AreBytes-append head (digest_bytes (head ++ rest)) a (digest-bytes (head ++ rest))) b

pub content-bytes : (h : FragmentHead) (part : List ℕ) → AreBytes h.object_id → h.number < 256 → h.count < 256 → AreBytes part → AreBytes (content_bytes h part)
unfolding content_bytes fragment_head_bytes
content-bytes h part id number count bytes =
    sealed-bytes (fragment_head_bytes h) part
    (AreBytes-append h.object_id (h.number ∷ h.count ∷ replicate 14 0) id
    (AreBytes-cons h.number (h.count ∷ replicate 14 0) number (AreBytes-cons h.count (replicate 14 0) count (AreBytes-zeros 14)))) bytes

head-bytes : (h : ObjectHead) → AreBytes h.file_id → AreBytes (head_bytes h)
unfolding head_bytes
head-bytes h id =
    AreBytes-append ((h.file_id ++ big_bytes 4 h.piece) ++ big_bytes 4 h.pieces) (big_bytes 8 h.length)
    (AreBytes-append (h.file_id ++ big_bytes 4 h.piece) (big_bytes 4 h.pieces)
    (AreBytes-append h.file_id (big_bytes 4 h.piece) id (number-bytes 4 h.piece)) (number-bytes 4 h.pieces)) (number-bytes 8 h.length)

pub object-bytes : (id file : List ℕ) (piece : ℕ) → AreBytes id → AreBytes file → AreBytes (object id file piece)
unfolding object object_bytes
object-bytes id file piece a b =
    sealed-bytes _ _ (head-bytes _ a)
    (AreBytes-append (part_of file piece) _ (AreBytes-take 864 (drop (piece * 864) file) (AreBytes-drop (piece * 864) file b)) (AreBytes-zeros _))

pub sum-bytes : (n size : ℕ) (bytes : List ℕ) → AreBytes bytes → AreBytes (sum_of size (rows_of n size bytes))
sum-bytes zero size bytes a = AreBytes-zeros size
sum-bytes (suc n) size bytes a =
    AreBytes-xor (take size bytes) (sum_of size (rows_of n size (drop size bytes))) (AreBytes-take size bytes a)
    (sum-bytes n size (drop size bytes) (AreBytes-drop size bytes a))

four-bytes : (a b c d : ℕ) → a < 256 → b < 256 → c < 256 → d < 256 → AreBytes (a ∷ b ∷ c ∷ d ∷ [])
four-bytes a b c d h i j l =
    AreBytes-cons a (b ∷ c ∷ d ∷ []) h
    (AreBytes-cons b (c ∷ d ∷ []) i (AreBytes-cons c (d ∷ []) j (AreBytes-cons d [] l (AreBytes-zeros 0))))

-- the block of a shard is bytes where its fields are
pub shard-bytes : (s : Shard) → s.x < 256 → s.m < 256 → s.n < 256 → s.blur < 256 → AreBytes s.share → AreBytes (shard_bytes s)
unfolding shard_bytes
shard-bytes s x m n bits share =
    let four : List ℕ = s.x ∷ s.m ∷ s.n ∷ s.blur ∷ [] in
    let name : List ℕ = big_bytes 8 s.name in
    let pointer : List ℕ = big_bytes 8 s.pointer in
    let zeros : List ℕ = replicate 8 0 in
    let first : AreBytes magic = four-bytes 0x50 0x53 0x48 0x31 (lit< tt) (lit< tt) (lit< tt) (lit< tt) in
    let fields : AreBytes four = four-bytes s.x s.m s.n s.blur x m n bits in
    AreBytes-append ((((magic ++ four) ++ name) ++ pointer) ++ zeros) s.share
    (AreBytes-append (((magic ++ four) ++ name) ++ pointer) zeros
    (AreBytes-append ((magic ++ four) ++ name) pointer
    (AreBytes-append (magic ++ four) name (AreBytes-append magic four first fields) (number-bytes 8 s.name)) (number-bytes 8 s.pointer)) (AreBytes-zeros 8)) share

-- a share is bytes
values-bytes : (f : ℕ → ℕ) (xs : List ℕ) → ((x : ℕ) → f x < 256) → AreBytes (map f xs)
values-bytes f [] small k = lit< tt
values-bytes f (x ∷ xs) small zero = small x
values-bytes f (x ∷ xs) small (suc k) = values-bytes f xs small k

pub share-bytes : (content coefficients : List ℕ) (x : ℕ) → AreBytes (share content coefficients x)
unfolding share
share-bytes content coefficients x =
    values-bytes (λ k. value (polynomial_at content coefficients k) x) (range_with_len 0 (length content))
    (λ k. value-below (polynomial_at content coefficients k) x)
