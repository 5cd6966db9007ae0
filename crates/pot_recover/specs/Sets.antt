-- How closed fragments are found: by chains of m shards, and past these by sets.
use Rattle.std.specs.Prelude.{◌≡◌, ◌↔◌, ◌<◌, ◌≤◌, ◌+◌, ◌-◌, ℕ, suc, List, [], ◌∷◌, length}
use Rattle.std.specs.Prelude.{slice_index}
use Rattle.pot_chains.specs.Paths.{last_of, AreLinked, IsReached}
use Rattle.pot_chains.specs.Listed.{IsIn}
use Rattle.pot_pointer.specs.Pointers.{blur}
use Rattle.pot_joins.specs.Joins.{IsJoinAt}
use Rattle.pot_bytes.specs.Lists.{AreBytes}
use Rattle.pot_shard.specs.LinkedRings.{IsLinked}
use Rattle.pot_shard.specs.declared.shard.Shard.{Shard}
use Rattle.pot_recover.specs.Held.{IsHeld}
use Rattle.pot_recover.specs.Rings.{points_of, bytes_at, need_of, IsShardChain, IsAnyContent}
use Rattle.pot_recover.specs.Recovered.{IsClosedIn}

-- What the shares of some shards fix at the point y: at each place the value there of the
-- polynomial through them.
abbrev pub IsFixed : List Shard → ℕ → List ℕ → Type 0
IsFixed chain y share =
    (k : ℕ) → k < 992 → IsJoinAt (points_of chain) (bytes_at k chain) y (slice_index share k)

-- a held shard that holds what the chain fixes at its point
abbrev pub FitsChain : (Shard → Type 0) → List Shard → Shard → Type 0
FitsChain held chain t = held t × IsFixed chain t.x t.share

-- of the sets past a chain the last has a shard that is linked to the first of the chain
abbrev pub ReturnsTo : (Shard → Type 0) → List Shard → Type 0
ReturnsTo held [] = ⊥
ReturnsTo held (s ∷ rest) =
    (t : Shard) × IsReached IsLinked (FitsChain held (s ∷ rest)) (last_of s rest) (s.n - s.m) t
    × IsLinked t s

-- a ring that begins with this chain closes with this content
abbrev pub ClosesWith : (Shard → Type 0) → List Shard → List ℕ → Type 0
ClosesWith held chain content =
    IsFixed chain 0 content × IsAnyContent content × ReturnsTo held chain

-- A content is found where a chain of m held shards fixes it at 0, it is in the grammar, and of the
-- sets past the chain the last has a shard that is linked to the first of the chain.
abbrev pub IsContentFound : (Shard → Type 0) → List ℕ → Type 0
IsContentFound held content =
    (chain : List Shard) × IsShardChain held chain × (length chain ≡ need_of chain)
    × ClosesWith held chain content

-- What is found is just what is closed.
pub record RingLaws : Type 0 where
  pub found : (blocks : List (List ℕ)) (bits : ℕ) (content : List ℕ)
      → ((s : Shard) → IsHeld blocks bits s → AreBytes s.share)
      → IsContentFound (IsHeld blocks bits) content ↔ IsClosedIn blocks bits content

-- p is the pointer of a shard of the set of k steps
abbrev pub IsPointed : (Shard → Type 0) → List Shard → Shard → ℕ → ℕ → Type 0
IsPointed held chain last k p =
    (t : Shard) × IsReached IsLinked (FitsChain held chain) last k t × (t.pointer ≡ p)

-- p is the pointer of a held shard of these m, n and blur at the point x, which holds the fixed
-- share and whose blurred name is an old pointer
abbrev pub IsNextShard : (Shard → Type 0) → List Shard → ℕ → ℕ → ℕ → ℕ → (ℕ → Type 0) → ℕ → Type 0
IsNextShard held chain m n bits x old p =
    (t : Shard) × held t × ((t.m ≡ m) × (t.n ≡ n) × (t.blur ≡ bits)) × (t.x ≡ x)
    × IsFixed chain t.x t.share × old (blur t.name bits) × (t.pointer ≡ p)

-- A set may be kept as the pointers of its shards.
pub record PointerLaws : Type 0 where
  pub first : (blocks : List (List ℕ)) (bits : ℕ) (s : Shard) (rest : List Shard) → s.x ≡ 1
      → AreLinked IsLinked s rest → length (s ∷ rest) ≤ s.n → s.blur ≡ bits
      → (p : ℕ)
      → ((last_of s rest).pointer ≡ p)
      ↔ IsPointed (IsHeld blocks bits) (s ∷ rest) (last_of s rest) 0 p
  pub next : (blocks : List (List ℕ)) (bits : ℕ) (s : Shard) (rest : List Shard) → s.x ≡ 1
      → AreLinked IsLinked s rest → length (s ∷ rest) ≡ s.m → s.m ≤ s.n → s.blur ≡ bits
      → (k : ℕ) (pointers found : List ℕ) → s.m + suc k ≤ s.n
      → ((p : ℕ) → IsIn pointers p ↔ IsPointed (IsHeld blocks bits) (s ∷ rest) (last_of s rest) k p)
      → ((p : ℕ)
      → IsIn found p
      ↔ IsNextShard (IsHeld blocks bits) (s ∷ rest) s.m s.n bits (s.m + suc k) (IsIn pointers) p)
      → (p : ℕ)
      → IsIn found p ↔ IsPointed (IsHeld blocks bits) (s ∷ rest) (last_of s rest) (suc k) p
