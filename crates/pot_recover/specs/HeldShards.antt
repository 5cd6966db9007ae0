-- What a held shard stands for, and where it stands in the order of shards.
use Rattle.std.specs.Prelude.{◌≡◌, ℕ, Bool, IsTrue, List, [], ◌∷◌, length, take, drop, map}
use Rattle.std.specs.Prelude.{slice_index, ◌<◌, AllPairs}
use Rattle.std.specs.Ordering.{nat_cmp, is_eq, is_le}
use Rattle.std.specs.Cmp.Lexicographic.{slice_cmp}
use Rattle.pot_chains.specs.Listed.{IsIn}
use Rattle.pot_joins.specs.Joins.{IsJoinAt}
use Rattle.pot_bytes.specs.Lists.{AreBytes}
use Rattle.pot_recover.specs.declared.held.Held.{Held}
use Rattle.pot_shard.specs.declared.shard.Shard.{Shard}

-- the shard of this blur, without where its share lies
abbrev pub shard_of : ℕ → Held → Shard
shard_of bits h =
    record {
      x = h.x;
      m = h.m;
      n = h.n;
      blur = bits;
      name = h.name;
      pointer = h.pointer;
      share = h.share.now;
    }

abbrev pub share_of : Held → List ℕ
share_of h = h.share.now

-- each has 992 bytes of share
abbrev pub AreWhole : List Held → Type 0
AreWhole chain = (h : Held) → IsIn chain h → length (share_of h) ≡ 992

-- what each has as its share is bytes
abbrev pub HaveBytes : List Held → Type 0
HaveBytes held = (h : Held) → IsIn held h → AreBytes h.share.now

-- m, n and x
abbrev pub place_of : Held → List ℕ
place_of h = h.m ∷ h.n ∷ h.x ∷ []

abbrev pub stands_at : List ℕ → Held → Bool
stands_at place h = is_eq (slice_cmp nat_cmp (place_of h) place)

-- the places do not fall
abbrev pub PlacesRise : List Held → Type 0
PlacesRise held =
    AllPairs (λ a b. IsTrue (is_le (slice_cmp nat_cmp (place_of a) (place_of b)))) held

-- so many bytes of a share, from one on
abbrev pub piece_of : ℕ → ℕ → Held → List ℕ
piece_of start size h = take size (drop start h.share.now)

abbrev pub point_of : Held → ℕ
point_of h = h.x

-- what the shares have at place k
abbrev pub bytes_held : ℕ → List Held → List ℕ
bytes_held k chain = map (λ (h : Held). slice_index h.share.now k) chain

-- what the shares of some shards fix at the point y
abbrev pub IsFixedBy : List Held → ℕ → List ℕ → Type 0
IsFixedBy chain y share =
    (k : ℕ) → k < 992 → IsJoinAt (map point_of chain) (bytes_held k chain) y (slice_index share k)
