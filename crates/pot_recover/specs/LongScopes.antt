-- The chains of 1 to n and the robustly closed fragments of some m and n.
use Rattle.std.specs.Prelude.{◌≡◌, ◌↔◌, ◌⊎◌, ◌≤◌, ℕ, List, [], ◌∷◌, length}
use Rattle.pot_chains.specs.Listed.{IsIn, HasGrown}
use Rattle.pot_recover.specs.Groups.{shards_at, IsHoldable}
use Rattle.pot_recover.specs.Robust.{IsLongChain, ClosesRobustlyAsRing}
use Rattle.pot_shard.specs.declared.shard.Shard.{Shard}

-- a chain of these m and n
abbrev pub IsLongChainOf : List Shard → ℕ → ℕ → List Shard → Type 0
IsLongChainOf shards m n [] = ⊥
IsLongChainOf shards m n (s ∷ rest) = IsLongChain (IsIn shards) (s ∷ rest) × (s.m ≡ m) × (s.n ≡ n)

-- a chain of held shards whose m and n are among these
abbrev pub IsLongChainIn : List Shard → (ℕ → ℕ → Type 0) → List Shard → Type 0
IsLongChainIn shards scope [] = ⊥
IsLongChainIn shards scope (s ∷ rest) = IsLongChain (IsIn shards) (s ∷ rest) × scope s.m s.n

-- a content with which such a chain closes robustly as a ring
abbrev pub IsRobustlyFoundIn : List Shard → (ℕ → ℕ → Type 0) → List ℕ → Type 0
IsRobustlyFoundIn shards scope c =
    (chain : List Shard) × IsLongChainIn shards scope chain × ClosesRobustlyAsRing chain c

-- the same in a group
abbrev pub IsRobustlyFoundOf : List Shard → ℕ → ℕ → List ℕ → Type 0
IsRobustlyFoundOf shards m n c =
    (chain : List Shard) × IsLongChainOf shards m n chain × ClosesRobustlyAsRing chain c

-- a content with which the shards at one of these positions close
abbrev pub IsRobustlyFoundAmong : List (List Shard) → List (List ℕ) → List ℕ → Type 0
IsRobustlyFoundAmong parts chains c =
    (path : List ℕ) × IsIn chains path × ClosesRobustlyAsRing (shards_at parts path) c

-- the chains of these m and n are counted, and what they close with was added
pub record HasSearchedLong (shards : List Shard) (scope : ℕ → ℕ → Type 0) (before now : ℕ)
    (old new : List (List ℕ)) : Type 0 where
  pub chains : HasGrown (IsLongChainIn shards scope) before now
  pub found : (c : List ℕ) → IsIn new c ↔ (IsIn old c ⊎ IsRobustlyFoundIn shards scope c)

-- a chain of n held shards
pub record IsLongWhole (shards : List Shard) (m n bits : ℕ) (chain : List Shard) : Type 0 where
  pub of : IsLongChainOf shards m n chain
  pub long : length chain ≡ n
  pub some : 1 ≤ m
  pub few : m ≤ n
  pub small : n ≤ 16
  pub holdable : (s : Shard) → IsIn shards s → IsHoldable s
  pub blurred : (s : Shard) → IsIn shards s → s.blur ≡ bits
