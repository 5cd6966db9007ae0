-- The open chains that begin at some points, and the parts at the points that they go over.
use Rattle.std.specs.Prelude.{◌≡◌, ◌↔◌, ◌⊎◌, ◌≤◌, ◌<◌, ◌+◌, ℕ, suc, zero, List, [], ◌∷◌, length}
use Rattle.std.specs.Prelude.{nat_eq, if◌then◌else◌}
use Rattle.pot_chains.specs.Listed.{IsIn, IsListed, HasGrown}
use Rattle.pot_recover.specs.Groups.{AreInside, AreLevelsOf, IsAt, IsHoldable, parts_of, shards_at}
use Rattle.pot_recover.specs.Open.{IsOpenChain}
use Rattle.pot_recover.specs.Points.{ArePoints}
use Rattle.pot_recover.specs.Rings.{need_of, points_of, ClosesRing}
use Rattle.pot_recover.specs.declared.group.Group.{Group}
use Rattle.pot_recover.specs.declared.window.Start.{Start}
use Rattle.pot_shard.specs.declared.shard.Shard.{Shard}

-- the point after x of n
abbrev pub after : ℕ → ℕ → ℕ
after n x = if nat_eq x n then 1 else x + 1

-- so many points from x on
abbrev pub points_from : ℕ → ℕ → ℕ → List ℕ
points_from n x zero = []
points_from n x (suc k) = x ∷ points_from n (after n x) k

-- the shards of the points from x on, each once
abbrev pub AreWindow : List Shard → ℕ → ℕ → ℕ → ℕ → List (List Shard) → Type 0
AreWindow shards m n bits x [] = Unit {0}
AreWindow shards m n bits x (part ∷ parts) =
    IsListed (λ s. IsIn shards s × IsAt m n bits x s) part
    × AreWindow shards m n bits (after n x) parts

-- a part and a level for each of the m points from x on
pub record IsWindow (shards : List Shard) (m n x : ℕ) (g : Group) : Type 0 where
  pub some : 1 ≤ m
  pub few : m ≤ n
  pub small : n ≤ 16
  pub first : 1 ≤ x
  pub last : x ≤ n
  pub counted : length (parts_of g.bits g.parts.items) ≡ m
  pub parts : AreWindow shards m n g.bits x (parts_of g.bits g.parts.items)
  pub levels : AreLevelsOf (parts_of g.bits g.parts.items) g.levels.items
  pub holdable : (s : Shard) → IsIn shards s → IsHoldable s
  pub blurred : (s : Shard) → IsIn shards s → s.blur ≡ g.bits

-- an open chain whose first shard is one of these
abbrev pub IsOpenChainIn : List Shard → (Shard → Type 0) → List Shard → Type 0
IsOpenChainIn shards scope [] = ⊥
IsOpenChainIn shards scope (s ∷ rest) = IsOpenChain (IsIn shards) (s ∷ rest) × scope s

-- a content that such a chain of m shards gives
abbrev pub IsOpenlyFound : List Shard → (Shard → Type 0) → List ℕ → Type 0
IsOpenlyFound shards scope c =
    (chain : List Shard) × IsOpenChainIn shards scope chain × (length chain ≡ need_of chain)
    × ClosesRing chain c

-- a content that the shards at one of these positions give
abbrev pub IsGivenAmong : List (List Shard) → List (List ℕ) → List ℕ → Type 0
IsGivenAmong parts chains c =
    (path : List ℕ) × IsIn chains path × ClosesRing (shards_at parts path) c

-- the chains that begin so are counted, and what they give was added
pub record HasSearchedOpen (shards : List Shard) (scope : Shard → Type 0) (before now : ℕ)
    (old new : List (List ℕ)) : Type 0 where
  pub chains : HasGrown (IsOpenChainIn shards scope) before now
  pub found : (c : List ℕ) → IsIn new c ↔ (IsIn old c ⊎ IsOpenlyFound shards scope c)

-- a chain of m held shards, whose points may be joined
pub record IsJoinable (chain : List Shard) : Type 0 where
  pub some : 0 < length chain
  pub few : length chain ≤ 16
  pub whole : length chain ≡ need_of chain
  pub points : ArePoints (points_of chain)
  pub holdable : (s : Shard) → IsIn chain s → IsHoldable s

-- each of these positions leads to such a chain
abbrev pub AreJoinable : List (List Shard) → List (List ℕ) → Type 0
AreJoinable parts chains =
    (path : List ℕ) → IsIn chains path → AreInside parts path × IsJoinable (shards_at parts path)

-- m, n and a first point that shards may have
pub record IsOpenStart (start : Start) : Type 0 where
  pub some : 1 ≤ start.need
  pub few : start.need ≤ start.shards
  pub small : start.shards ≤ 16
  pub first : 1 ≤ start.first
  pub last : start.first ≤ start.shards

-- where chains begin: shards of this m and n, at this point
abbrev pub BeginsAt : ℕ → ℕ → ℕ → Shard → Type 0
BeginsAt m n x s = ((s.m ≡ m) × (s.n ≡ n)) × (s.x ≡ x)
