-- What chains give that are not closed to rings: where shards of a fragment are gone, m that follow
-- one another still have its content.
use Rattle.std.specs.Prelude.{◌≡◌, ◌↔◌, ◌<◌, ◌≤◌, ◌⊎◌, ℕ, List, [], ◌∷◌, length, AllPairs}
use Rattle.pot_chains.specs.Listed.{IsIn}
use Rattle.pot_chains.specs.Paths.{AreLinked, AreAll}
use Rattle.pot_recover.specs.Counts.{widest, IsCounted, IsCountedTo}
use Rattle.pot_recover.specs.Held.{IsHeld}
use Rattle.pot_recover.specs.Recovered.{IsBytesBefore, IsChoice, IsRecovered}
use Rattle.pot_recover.specs.Rings.{need_of, ClosesRing}
use Rattle.pot_recover.specs.declared.top.RecoverFault.{RecoverFault}
use Rattle.pot_recover.specs.declared.top.RecoverFault.TheVariants.{Wide, NoMemory}
use Rattle.pot_shard.specs.LinkedRings.{IsLinked}
use Rattle.pot_shard.specs.declared.shard.Shard.{Shard}

-- An open chain is a list of 1 to m held shards, each linked to the next, m being that of its
-- shards. It may begin at any point: the point after n is 1.
abbrev pub IsOpenChain : (Shard → Type 0) → List Shard → Type 0
IsOpenChain held [] = ⊥
IsOpenChain held (s ∷ rest) =
    AreAll held (s ∷ rest) × AreLinked IsLinked s rest × (length (s ∷ rest) ≤ s.m)

-- An open fragment is a content of the grammar, with the digest that it names, that the shares of
-- an open chain of m shards mean.
abbrev pub IsOpenFragment : (Shard → Type 0) → List ℕ → Type 0
IsOpenFragment held content =
    (chain : List Shard) × IsOpenChain held chain × (length chain ≡ need_of chain)
    × ClosesRing chain content

abbrev pub IsOpenFragmentIn : List (List ℕ) → ℕ → List ℕ → Type 0
IsOpenFragmentIn blocks bits = IsOpenFragment (IsHeld blocks bits)

-- These are the objects that the blocks give by open chains, by their bytes and each once.
pub record AreOpenlyRecovered (blocks : List (List ℕ)) (bits : ℕ) (objects : List (List ℕ)) : Type
    0 where
  pub each : (object : List ℕ)
      → IsIn objects object ↔ IsRecovered (IsOpenFragmentIn blocks bits) object
  pub order : AllPairs IsBytesBefore objects

-- the two counts, in the order of the plain recovery
abbrev pub IsOpenlyTooWide : ℕ → List (List ℕ) → ℕ → RecoverFault → Type 0
IsOpenlyTooWide most blocks bits (Wide chains choices) =
    IsCountedTo most (IsOpenChain (IsHeld blocks bits)) chains
    × (((most < chains) × (choices ≡ 0))
    ⊎ ((chains ≤ most) × IsCounted (IsChoice (IsOpenFragmentIn blocks bits)) choices
    × (widest < choices)))
IsOpenlyTooWide most blocks bits NoMemory = Unit {0}

-- both counts are borne
abbrev pub IsOpenlyWithin : ℕ → List (List ℕ) → ℕ → Type 0
IsOpenlyWithin most blocks bits =
    (chains : ℕ) × (choices : ℕ) × IsCountedTo most (IsOpenChain (IsHeld blocks bits)) chains
    × IsCounted (IsChoice (IsOpenFragmentIn blocks bits)) choices
    × (chains ≤ most) × (choices ≤ widest)
