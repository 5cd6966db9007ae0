-- The bytes of a share.
use Rattle.std.specs.Prelude.{◌≡◌, ◌≤◌, ◌<◌, ◌^◌, ◌+◌, ◌-◌, ◌++◌, ◌∷◌, ℕ, List, [], length, take}
use Rattle.std.specs.Prelude.{drop, slice_index}
use Rattle.byteorder.specs.Endian.{big_bytes, big_number}
use Rattle.pot_bytes.specs.Digests.{digest_bytes}
use Rattle.pot_desk_shares.specs.declared.share.ShareHead.{ShareHead}

-- `PDSH`, and 1 as the number of the format
abbrev pub magic : List ℕ
magic = 0x50 ∷ 0x44 ∷ 0x53 ∷ 0x48 ∷ 1 ∷ []

-- the magic, how many shares are needed and how many there are, the point, and the generation, the
-- number of the set and the length of the text with the highest byte first
unfoldable pub head_bytes : ShareHead → List ℕ
head_bytes h =
    magic ++ (h.need ∷ h.count ∷ h.point ∷ []) ++ big_bytes 8 h.generation ++ big_bytes 8 h.set
    ++ big_bytes 8 h.length

-- bytes with their SHA-256 behind them
abbrev pub with_digest : List ℕ → List ℕ
with_digest bytes = bytes ++ digest_bytes bytes

-- the head, the values at its point, and the SHA-256 of both
unfoldable pub share_bytes : ShareHead → List ℕ → List ℕ
share_bytes h body = with_digest (head_bytes h ++ body)

-- the bytes of the longest text
abbrev pub longest : ℕ
longest = 1073741824

-- a head that a share has: its point is 1 to n, m is 1 to n, n is at most 16, and the text is at
-- most 2^30 bytes
pub record IsShareHead (h : ShareHead) : Type 0 where
  pub need_first : 1 ≤ h.need
  pub need_last : h.need ≤ h.count
  pub count : h.count ≤ 16
  pub point_first : 1 ≤ h.point
  pub point_last : h.point ≤ h.count
  pub fits : h.length ≤ longest
  pub generation : h.generation < 2 ^ 64
  pub set : h.set < 2 ^ 64

-- these bytes are the share of this head and these values, of which there are 32 more than bytes of
-- the text
pub record IsShare (h : ShareHead) (body bytes : List ℕ) : Type 0 where
  pub head : IsShareHead h
  pub whole : length body ≡ h.length + 32
  pub spelled : bytes ≡ share_bytes h body

-- what stands round the fields: the magic first, and last the SHA-256 of all before it
abbrev pub HasShareFrame : List ℕ → Type 0
HasShareFrame bytes =
    (take 5 bytes ≡ magic)
    × (drop (length bytes - 32) bytes ≡ digest_bytes (take (length bytes - 32) bytes))

-- what stands between the head and the digest
abbrev pub body_of : List ℕ → List ℕ
body_of bytes = take (length bytes - 64) (drop 32 bytes)

-- the fields where a share has them
abbrev pub head_at : List ℕ → ShareHead
head_at bytes = record {
  need = slice_index bytes 5;
  count = slice_index bytes 6;
  point = slice_index bytes 7;
  generation = big_number 8 (drop 8 bytes);
  set = big_number 8 (drop 16 bytes);
  length = big_number 8 (drop 24 bytes);
}
