-- Rings of which some shares were altered, and with what they close robustly.
use Rattle.std.specs.Prelude.{◌≡◌, ◌<◌, ◌≤◌, ℕ, ◌+◌, List, [], ◌∷◌, map, length, nat_eq}
use Rattle.std.specs.Prelude.{if◌then◌else◌}
use Rattle.std.specs.Str.{bytes_eq}
use Rattle.pot_bytes.specs.Lists.{AreBytes}
use Rattle.pot_chains.specs.Paths.{AreAll}
use Rattle.pot_recover.specs.Held.{IsHeld}
use Rattle.pot_recover.specs.Recovered.{IsClosedIn}
use Rattle.pot_recover.specs.Rings.{IsRing, bytes_at, need_of, ClosesRing}
use Rattle.pot_recover.specs.Robust.{ClosesRobustlyAsRing, IsRobustlyClosedIn}
use Rattle.pot_robust.specs.Robust.{borne}
use Rattle.pot_shard.specs.declared.shard.Shard.{Shard}

-- a shard without its share
abbrev pub without_share : Shard → Shard
without_share s =
    record {
      x = s.x;
      m = s.m;
      n = s.n;
      blur = s.blur;
      name = s.name;
      pointer = s.pointer;
      share = [];
    }

-- The shards are those of the ring in all but their shares: points, m, n, blurs, names and pointers
-- are as written.
abbrev pub HasOtherShares : List Shard → List Shard → Type 0
HasOtherShares ring altered = map without_share altered ≡ map without_share ring

-- at how many places two lists differ (Hamming 1950)
abbrev pub distance : List ℕ → List ℕ → ℕ
distance [] ys = 0
distance (x ∷ xs) [] = 0
distance (x ∷ xs) (y ∷ ys) = (if nat_eq x y then 0 else 1) + distance xs ys

-- how many of the shares were altered
abbrev pub altered_shares : List Shard → List Shard → ℕ
altered_shares [] ts = 0
altered_shares (s ∷ ss) [] = 0
altered_shares (s ∷ ss) (t ∷ ts) =
    (if bytes_eq s.share t.share then 0 else 1) + altered_shares ss ts

-- how many shares of a ring may be wrong: half of those beyond m
abbrev pub borne_of : List Shard → ℕ
borne_of ring = borne (length ring) (need_of ring)

pub record AlteredLaws : Type 0 where
  -- A ring of which no more shares were altered than may be wrong closes robustly with the content
  -- with which it closed.
  pub shares : (ring altered : List Shard) (content : List ℕ) → HasOtherShares ring altered
      → altered_shares ring altered ≤ borne_of ring
      → IsRing ring → ClosesRing ring content → ClosesRobustlyAsRing altered content
  -- So does one of which no more were altered at each of the 992 places: all its shares may then
  -- have wrong bytes.
  pub places : (ring altered : List Shard) (content : List ℕ) → HasOtherShares ring altered
      → ((k : ℕ) → k < 992 → distance (bytes_at k ring) (bytes_at k altered) ≤ borne_of ring)
      → IsRing ring → ClosesRing ring content → ClosesRobustlyAsRing altered content
  -- A ring of held shards closes robustly with one content at most.
  pub only : (blocks : List (List ℕ)) (bits : ℕ) (ring : List Shard) (a b : List ℕ)
      → ((s : Shard) → IsHeld blocks bits s → AreBytes s.share) → AreAll (IsHeld blocks bits) ring
      → ClosesRobustlyAsRing ring a → ClosesRobustlyAsRing ring b → a ≡ b
  -- Each fragment that closes also closes robustly.
  pub plain : (blocks : List (List ℕ)) (bits : ℕ) (content : List ℕ)
      → IsClosedIn blocks bits content → IsRobustlyClosedIn blocks bits content
