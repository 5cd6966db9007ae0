-- When blocks are too wide for recovery.
use Rattle.std.specs.Prelude.{◌≡◌, ◌<◌, ◌≤◌, ◌⊎◌, ℕ, List}
use Rattle.pot_recover.specs.Counts.{widest, IsCounted, IsCountedTo}
use Rattle.pot_recover.specs.Held.{IsHeld}
use Rattle.pot_recover.specs.Recovered.{IsChoice, IsClosedIn}
use Rattle.pot_recover.specs.Rings.{IsShardChain}
use Rattle.pot_recover.specs.declared.top.RecoverFault.{RecoverFault}
use Rattle.pot_recover.specs.declared.top.RecoverFault.TheVariants.{Wide, NoMemory}

-- the two counts: the chains are counted to one more than `most`
abbrev pub IsChainCount : ℕ → List (List ℕ) → ℕ → ℕ → Type 0
IsChainCount most blocks bits n = IsCountedTo most (IsShardChain (IsHeld blocks bits)) n

abbrev pub IsChoiceCount : List (List ℕ) → ℕ → ℕ → Type 0
IsChoiceCount blocks bits n = IsCounted (IsChoice (IsClosedIn blocks bits)) n

-- The chains are counted first, and choices only where the chains are no more than are borne;
-- choices is else reported as 0.
abbrev pub IsTooWide : ℕ → List (List ℕ) → ℕ → RecoverFault → Type 0
IsTooWide most blocks bits (Wide chains choices) =
    IsChainCount most blocks bits chains
    × (((most < chains) × (choices ≡ 0))
    ⊎ ((chains ≤ most) × IsChoiceCount blocks bits choices × (widest < choices)))
IsTooWide most blocks bits NoMemory = Unit {0}

-- both counts are borne
abbrev pub IsWithin : ℕ → List (List ℕ) → ℕ → Type 0
IsWithin most blocks bits =
    (chains : ℕ) × (choices : ℕ) × IsChainCount most blocks bits chains
    × IsChoiceCount blocks bits choices × (chains ≤ most) × (choices ≤ widest)

-- the choices of these contents are borne
abbrev pub AreFew : (List ℕ → Type 0) → Type 0
AreFew closed = (choices : ℕ) × IsCounted (IsChoice closed) choices × (choices ≤ widest)

-- they are not, and both counts are told
abbrev pub AreTooWide : (List ℕ → Type 0) → ℕ → RecoverFault → Type 0
AreTooWide closed count (Wide chains choices) =
    (chains ≡ count) × IsCounted (IsChoice closed) choices × (widest < choices)
AreTooWide closed count NoMemory = Unit {0}
