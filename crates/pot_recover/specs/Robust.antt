-- What rings give that close although some of their shares are wrong.
use Rattle.std.specs.Prelude.{◌≡◌, ◌↔◌, ◌<◌, ◌≤◌, ◌⊎◌, ◌+◌, ℕ, List, [], ◌∷◌, map, length}
use Rattle.std.specs.Prelude.{slice_index, AllPairs}
use Rattle.pot_chains.specs.Listed.{IsIn}
use Rattle.pot_chains.specs.Paths.{AreLinked, AreAll}
use Rattle.pot_recover.specs.Counts.{widest, IsCounted, IsCountedTo}
use Rattle.pot_recover.specs.Held.{IsHeld}
use Rattle.pot_recover.specs.HeldShards.{point_of, bytes_held}
use Rattle.pot_recover.specs.Recovered.{IsBytesBefore, IsChoice, IsRecovered}
use Rattle.pot_recover.specs.Rings.{IsRing, points_of, bytes_at, need_of, IsAnyContent}
use Rattle.pot_recover.specs.declared.held.Held.{Held}
use Rattle.pot_recover.specs.declared.top.RecoverFault.{RecoverFault}
use Rattle.pot_recover.specs.declared.top.RecoverFault.TheVariants.{Wide, NoMemory}
use Rattle.pot_robust.specs.Robust.{IsRobust}
use Rattle.pot_shard.specs.LinkedRings.{IsLinked}
use Rattle.pot_shard.specs.declared.shard.Shard.{Shard}

-- the values at the points have a robust polynomial, whose constant term is this byte
abbrev pub IsRobustAt : ℕ → List ℕ → List ℕ → ℕ → Type 0
IsRobustAt m points values byte =
    (p : List ℕ) × IsRobust m points values p × (slice_index p 0 ≡ byte)

-- A ring closes robustly with a content where at each of the 992 places its shares have a robust
-- polynomial, whose constant term is that byte of the content, and the content is in the grammar.
pub record ClosesRobustly (ring : List Shard) (content : List ℕ) : Type 0 where
  pub places : (k : ℕ) → k < 992
      → IsRobustAt (need_of ring) (points_of ring) (bytes_at k ring) (slice_index content k)
  pub grammar : IsAnyContent content

-- A robustly closed fragment is a content with which a ring of held shards closes robustly.
abbrev pub IsRobustlyClosed : (Shard → Type 0) → List ℕ → Type 0
IsRobustlyClosed held content =
    (ring : List Shard) × AreAll held ring × IsRing ring × ClosesRobustly ring content

abbrev pub IsRobustlyClosedIn : List (List ℕ) → ℕ → List ℕ → Type 0
IsRobustlyClosedIn blocks bits = IsRobustlyClosed (IsHeld blocks bits)

-- These are the objects that the blocks give by rings that close robustly, by their bytes and each
-- once.
pub record AreRobustlyRecovered (blocks : List (List ℕ)) (bits : ℕ) (objects : List (List ℕ)) : Type
    0 where
  pub each : (object : List ℕ)
      → IsIn objects object ↔ IsRecovered (IsRobustlyClosedIn blocks bits) object
  pub order : AllPairs IsBytesBefore objects

-- A chain here is a list of 1 to n held shards that begins at x = 1, in which each is linked to the
-- next.
abbrev pub IsLongChain : (Shard → Type 0) → List Shard → Type 0
IsLongChain held [] = ⊥
IsLongChain held (s ∷ rest) =
    (s.x ≡ 1) × AreAll held (s ∷ rest) × AreLinked IsLinked s rest × (length (s ∷ rest) ≤ s.n)

-- a ring that closes robustly with a content
abbrev pub ClosesRobustlyAsRing : List Shard → List ℕ → Type 0
ClosesRobustlyAsRing chain content = IsRing chain × ClosesRobustly chain content

-- the two counts, in the order of the plain recovery
abbrev pub IsRobustlyTooWide : ℕ → List (List ℕ) → ℕ → RecoverFault → Type 0
IsRobustlyTooWide most blocks bits (Wide chains choices) =
    IsCountedTo most (IsLongChain (IsHeld blocks bits)) chains
    × (((most < chains) × (choices ≡ 0))
    ⊎ ((chains ≤ most) × IsCounted (IsChoice (IsRobustlyClosedIn blocks bits)) choices
    × (widest < choices)))
IsRobustlyTooWide most blocks bits NoMemory = Unit {0}

-- both counts are borne
abbrev pub IsRobustlyWithin : ℕ → List (List ℕ) → ℕ → Type 0
IsRobustlyWithin most blocks bits =
    (chains : ℕ) × (choices : ℕ) × IsCountedTo most (IsLongChain (IsHeld blocks bits)) chains
    × IsCounted (IsChoice (IsRobustlyClosedIn blocks bits)) choices
    × (chains ≤ most) × (choices ≤ widest)

-- what the shares of a ring give at 0, from the place `start` on
abbrev pub AreRobust : ℕ → List Held → ℕ → List ℕ → Type 0
AreRobust need ring start bytes =
    (k : ℕ) → k < length bytes
    → IsRobustAt need (map point_of ring) (bytes_held (start + k) ring) (slice_index bytes k)

-- a content that they give whole
abbrev pub IsRobustlyFixed : ℕ → List Held → List ℕ → Type 0
IsRobustlyFixed need ring content = (length content ≡ 992) × AreRobust need ring 0 content

-- at one of so many places from `start` on they have no robust polynomial
abbrev pub HasNoRobust : ℕ → List Held → ℕ → ℕ → Type 0
HasNoRobust need ring start count =
    (k : ℕ) × (k < count)
    × ((byte : ℕ) → IsRobustAt need (map point_of ring) (bytes_held (start + k) ring) byte → ⊥)
