-- What shares tell of their text.
use Rattle.std.specs.Prelude.{◌≡◌, ◌≤◌, ◌<◌, ◌++◌, ℕ, List, length, take, drop, nat_eq, slice_index}
use Rattle.std.specs.List.{flat_map, IsDistinct}
use Rattle.pot_bytes.specs.Lists.{AreBytes}
use Rattle.pot_split.specs.Threshold.{explaining, AreNonzero, IsJoin}
use Rattle.pot_desk_shares.specs.Making.{head_of, share_of, values_at, IsShareSet}
use Rattle.pot_desk_shares.specs.Shares.{with_digest, IsShare}
use Rattle.pot_desk_shares.specs.declared.making.Terms.{Terms}
use Rattle.pot_desk_shares.specs.declared.share.ShareHead.{ShareHead}

-- The random bytes with which another text has the same shares at the seen points: the number of
-- the set stays, and the coefficients are those that explain the other text and its digest.
abbrev pub explained : List ℕ → List ℕ → List ℕ → List ℕ → List ℕ
explained text other seen random =
    take 8 random ++ explaining (with_digest text) (with_digest other) seen (drop 8 random)

-- a set of a text, another text as long, and fewer seen points than are needed
pub record IsTextVeiled (t : Terms) (text other seen random : List ℕ) : Type 0 where
  pub set : IsShareSet t text random
  pub other_bytes : AreBytes other
  pub same_length : length other ≡ length text
  pub points : AreNonzero seen
  pub seen_bytes : AreBytes seen
  pub few : length seen < t.need

-- Fewer shares than are needed are those of every other text of that length too, byte for byte,
-- under other random bytes, one for one.
pub record DeskVeilLaws : Type 0 where
  pub set : (t : Terms) (text other seen random : List ℕ) → IsTextVeiled t text other seen random
      → IsShareSet t other (explained text other seen random)
  pub shares : (t : Terms) (text other seen random : List ℕ) (i : ℕ)
      → IsTextVeiled t text other seen random → i < length seen
      → share_of t other (explained text other seen random) (slice_index seen i)
      ≡ share_of t text random (slice_index seen i)
  pub back : (t : Terms) (text other seen random : List ℕ) → IsTextVeiled t text other seen random
      → explained other text seen (explained text other seen random) ≡ random

-- What is made is a share, and a share has one head and one body. Any shares of a set at as many
-- distinct points as are needed are joined to its text and the digest of that, and to nothing else.
pub record ShareLaws : Type 0 where
  pub made : (t : Terms) (text random : List ℕ) (x : ℕ) → IsShareSet t text random → 1 ≤ x
      → x ≤ t.count
      → IsShare (head_of t text random x) (values_at text random x) (share_of t text random x)
  pub one_share : (h g : ShareHead) (body other bytes : List ℕ) → IsShare h body bytes
      → IsShare g other bytes → (h ≡ g) × (body ≡ other)
  pub joins : (t : Terms) (text random points joined : List ℕ) → IsShareSet t text random
      → AreBytes points → IsDistinct nat_eq points → length points ≡ t.need
      → length joined ≡ length (with_digest text)
      → IsJoin points (flat_map (values_at text random) points) joined
      → joined ≡ with_digest text
