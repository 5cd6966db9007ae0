-- The shares of a text (Shamir 1979).
use Rattle.std.specs.Prelude.{◌≡◌, ◌≤◌, ◌<◌, ◌^◌, ◌+◌, ◌-◌, ◌*◌, ℕ, List, length, drop}
use Rattle.byteorder.specs.Endian.{big_number}
use Rattle.pot_bytes.specs.Lists.{AreBytes}
use Rattle.pot_split.specs.Threshold.{share}
use Rattle.pot_desk_shares.specs.Shares.{longest, share_bytes, with_digest}
use Rattle.pot_desk_shares.specs.declared.making.Terms.{Terms}
use Rattle.pot_desk_shares.specs.declared.share.ShareHead.{ShareHead}

-- at least one share is needed, no more than there are, and there are at most 16
pub record AreTerms (t : Terms) : Type 0 where
  pub need_first : 1 ≤ t.need
  pub need_last : t.need ≤ t.count
  pub count : t.count ≤ 16

-- a set takes 8 random bytes for its number, and m - 1 rows of coefficients, each as long as what
-- is shared
abbrev pub random_len : Terms → ℕ → ℕ
random_len t long = 8 + (t.need - 1) * (long + 32)

-- the head of the share at a point: the number of the set is the first 8 random bytes
abbrev pub head_of : Terms → List ℕ → List ℕ → ℕ → ShareHead
head_of t text random x = record {
  need = t.need;
  count = t.count;
  point = x;
  generation = t.generation;
  set = big_number 8 random;
  length = length text;
}

-- What is shared is the text and its digest. The values at the point x are those of Shamir's share
-- there, by the random bytes behind the number.
abbrev pub values_at : List ℕ → List ℕ → ℕ → List ℕ
values_at text random x = share (with_digest text) (drop 8 random) x

-- the share of a text at a point
abbrev pub share_of : Terms → List ℕ → List ℕ → ℕ → List ℕ
share_of t text random x = share_bytes (head_of t text random x) (values_at text random x)

-- a text, and random bytes that a set of it takes
pub record IsShareSet (t : Terms) (text random : List ℕ) : Type 0 where
  pub terms : AreTerms t
  pub generation : t.generation < 2 ^ 64
  pub fits : length text ≤ longest
  pub taken : length random ≡ random_len t (length text)
  pub text_bytes : AreBytes text
  pub random_bytes : AreBytes random
