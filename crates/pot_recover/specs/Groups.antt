-- The shards of one m and n, by point.
use Rattle.std.specs.Prelude.{◌≡◌, ◌<◌, ◌≤◌, ℕ, suc, ◌^◌, List, [], ◌∷◌, map, filter, length}
use Rattle.std.specs.Borrow.{Bor}
use Rattle.std.specs.List.{flat_map, slice_index_or}
use Rattle.pot_chains.specs.Listed.{IsIn, IsListed}
use Rattle.pot_chains.specs.declared.levels.Level.{Level}
use Rattle.pot_bytes.specs.Lists.{AreBytes}
use Rattle.pot_recover.specs.HeldShards.{shard_of, stands_at}
use Rattle.pot_recover.specs.Rings.{IsShardChain}
use Rattle.pot_recover.specs.declared.group.Group.{Group}
use Rattle.pot_recover.specs.declared.held.Held.{Held}
use Rattle.pot_shard.specs.Shards.{IsShard}
use Rattle.pot_shard.specs.declared.shard.Shard.{Shard}

-- a shard of this m, n and blur at the point x
pub record IsAt (m n bits x : ℕ) (t : Shard) : Type 0 where
  pub need : t.m ≡ m
  pub count : t.n ≡ n
  pub bits_are : t.blur ≡ bits
  pub point : t.x ≡ x

-- the held shards of the points from x on, each once
abbrev pub AreParts : List Shard → ℕ → ℕ → ℕ → ℕ → List (List Shard) → Type 0
AreParts shards m n bits x [] = Unit {0}
AreParts shards m n bits x (part ∷ parts) =
    IsListed (λ s. IsIn shards s × IsAt m n bits x s) part × AreParts shards m n bits (suc x) parts

-- a point as the search sees it
pub record IsLevelOf (part : List Shard) (level : Level) : Type 0 where
  pub pointers : level.pointers.items ≡ map (λ (s : Shard). s.pointer) part
  pub names : level.index ≡ map (λ (s : Shard). s.name) part
  pub short : length part < 2 ^ 32

abbrev pub AreLevelsOf : List (List Shard) → List Level → Type 0
AreLevelsOf [] [] = Unit {0}
AreLevelsOf [] (l ∷ ls) = ⊥
AreLevelsOf (p ∷ ps) [] = ⊥
AreLevelsOf (p ∷ ps) (l ∷ ls) = IsLevelOf p l × AreLevelsOf ps ls

-- what stands for none
abbrev pub no_shard : Shard
no_shard = record { x = 0; m = 0; n = 0; blur = 0; name = 0; pointer = 0; share = [] }

-- the shards at these positions, one in each part
abbrev pub shards_at : List (List Shard) → List ℕ → List Shard
shards_at parts [] = []
shards_at [] (p ∷ ps) = []
shards_at (part ∷ parts) (p ∷ ps) = slice_index_or part p no_shard ∷ shards_at parts ps

-- each position is one of its part
abbrev pub AreInside : List (List Shard) → List ℕ → Type 0
AreInside parts [] = Unit {0}
AreInside [] (p ∷ ps) = ⊥
AreInside (part ∷ parts) (p ∷ ps) = (p < length part) × AreInside parts ps

-- the parts of a group, without where their shares lie
abbrev pub parts_of : ℕ → List (Bor (List Held)) → List (List Shard)
parts_of bits parts = map (λ part. map (shard_of bits) part.now) parts

-- where the shards of m, n and x stand among these
abbrev pub part_of : ℕ → ℕ → List Held → ℕ → List Held
part_of m n held x = filter (stands_at (m ∷ n ∷ x ∷ [])) held

abbrev pub now_of : Bor (List Held) → List Held
now_of part = part.now

-- the shards of a group
abbrev pub shards_in : Group → List Shard
shards_in g = flat_map (λ part. part) (parts_of g.bits g.parts.items)

-- a shard whose share is 992 bytes
pub record IsHoldable (s : Shard) : Type 0 where
  pub shard : IsShard s
  pub bytes : AreBytes s.share
  pub whole : length s.share ≡ 992

-- a group of m and n: a part and a level for each point
pub record IsGroup (g : Group) : Type 0 where
  pub some : 1 ≤ g.need
  pub need : g.need ≤ length g.parts.items
  pub few : length g.parts.items ≤ 16
  pub bits : g.bits ≤ 63
  pub parts : AreParts (shards_in g) g.need (length g.parts.items) g.bits 1
      (parts_of g.bits g.parts.items)
  pub levels : AreLevelsOf (parts_of g.bits g.parts.items) g.levels.items
  pub shards : (s : Shard) → IsIn (shards_in g) s → IsHoldable s

-- a chain of these m and n
abbrev pub IsChainOf : List Shard → ℕ → ℕ → List Shard → Type 0
IsChainOf shards m n [] = ⊥
IsChainOf shards m n (s ∷ rest) = IsShardChain (IsIn shards) (s ∷ rest) × (s.m ≡ m) × (s.n ≡ n)

-- a chain of m of n held shards
pub record IsWholeChain (shards : List Shard) (m n bits : ℕ) (chain : List Shard) : Type 0 where
  pub of : IsChainOf shards m n chain
  pub long : length chain ≡ m
  pub some : 1 ≤ m
  pub few : m ≤ n
  pub small : n ≤ 16
  pub holdable : (s : Shard) → IsIn shards s → IsHoldable s
  pub blurred : (s : Shard) → IsIn shards s → s.blur ≡ bits
