-- The chains and the closed fragments of some m and n.
use Rattle.std.specs.Prelude.{◌≡◌, ◌↔◌, ◌⊎◌, ℕ, List, [], ◌∷◌, length}
use Rattle.pot_chains.specs.Listed.{IsIn, HasGrown}
use Rattle.pot_recover.specs.Groups.{IsChainOf, shards_at}
use Rattle.pot_recover.specs.Rings.{IsShardChain, need_of}
use Rattle.pot_recover.specs.Sets.{ClosesWith}
use Rattle.pot_shard.specs.declared.shard.Shard.{Shard}

-- a chain of held shards whose m and n are among these
abbrev pub IsChainIn : List Shard → (ℕ → ℕ → Type 0) → List Shard → Type 0
IsChainIn shards scope [] = ⊥
IsChainIn shards scope (s ∷ rest) = IsShardChain (IsIn shards) (s ∷ rest) × scope s.m s.n

-- a content that such a chain of m shards closes with
abbrev pub IsFoundIn : List Shard → (ℕ → ℕ → Type 0) → List ℕ → Type 0
IsFoundIn shards scope c =
    (chain : List Shard) × IsChainIn shards scope chain × (length chain ≡ need_of chain)
    × ClosesWith (IsIn shards) chain c

-- the same in a group
abbrev pub IsFoundOf : List Shard → ℕ → ℕ → List ℕ → Type 0
IsFoundOf shards m n c =
    (chain : List Shard) × IsChainOf shards m n chain × (length chain ≡ m)
    × ClosesWith (IsIn shards) chain c

-- a content that a chain at one of these positions closes with
abbrev pub IsFoundAmong : List Shard → List (List Shard) → List (List ℕ) → List ℕ → Type 0
IsFoundAmong shards parts chains c =
    (path : List ℕ) × IsIn chains path × ClosesWith (IsIn shards) (shards_at parts path) c

-- the chains of these m and n are counted, and what they close with was added
pub record HasSearched (shards : List Shard) (scope : ℕ → ℕ → Type 0) (before now : ℕ)
    (old new : List (List ℕ)) : Type 0 where
  pub chains : HasGrown (IsChainIn shards scope) before now
  pub found : (c : List ℕ) → IsIn new c ↔ (IsIn old c ⊎ IsFoundIn shards scope c)
