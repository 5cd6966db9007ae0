-- Chains and rings of shards, and the content with which a ring closes.
use Rattle.std.specs.Prelude.{◌≡◌, ◌<◌, ◌≤◌, ℕ, List, [], ◌∷◌, length, map, slice_index}
use Rattle.pot_chains.specs.Paths.{last_of, AreLinked, AreAll}
use Rattle.pot_joins.specs.Joins.{IsOnOne}
use Rattle.pot_object.specs.Contents.{IsContent}
use Rattle.pot_object.specs.declared.content.FragmentHead.{FragmentHead}
use Rattle.pot_shard.specs.LinkedRings.{IsLinked}
use Rattle.pot_shard.specs.declared.shard.Shard.{Shard}

-- A chain is a list of 1 to m held shards that begins at x = 1, in which each is linked to the
-- next, m being that of its shards.
abbrev pub IsShardChain : (Shard → Type 0) → List Shard → Type 0
IsShardChain held [] = ⊥
IsShardChain held (s ∷ rest) =
    (s.x ≡ 1) × AreAll held (s ∷ rest) × AreLinked IsLinked s rest × (length (s ∷ rest) ≤ s.m)

-- A ring is n shards that begin at x = 1, each linked to the next and the last to the first.
abbrev pub IsRing : List Shard → Type 0
IsRing [] = ⊥
IsRing (s ∷ rest) =
    (s.x ≡ 1) × (length (s ∷ rest) ≡ s.n) × AreLinked IsLinked s rest × IsLinked (last_of s rest) s

-- the points of some shards
abbrev pub points_of : List Shard → List ℕ
points_of shards = map (λ (s : Shard). s.x) shards

-- what their shares have at place k
abbrev pub bytes_at : ℕ → List Shard → List ℕ
bytes_at k shards = map (λ (s : Shard). slice_index s.share k) shards

-- m of a ring, which all its shards have
abbrev pub need_of : List Shard → ℕ
need_of [] = 0
need_of (s ∷ rest) = s.m

-- a content of the grammar, whatever its head
abbrev pub IsAnyContent : List ℕ → Type 0
IsAnyContent content = (h : FragmentHead) × IsContent h content

-- A ring closes with a content where at each of the 992 places its shares lie on one polynomial of
-- degree below m, whose constant term is that byte of the content, and the content is in the
-- grammar.
pub record ClosesRing (ring : List Shard) (content : List ℕ) : Type 0 where
  pub places : (k : ℕ) → k < 992
      → IsOnOne (need_of ring) (points_of ring) (bytes_at k ring) (slice_index content k)
  pub grammar : IsAnyContent content

-- A closed fragment is a content with which a ring of held shards closes.
abbrev pub IsFragmentClosed : (Shard → Type 0) → List ℕ → Type 0
IsFragmentClosed held content = (ring : List Shard) × AreAll held ring × IsRing ring × ClosesRing ring content
