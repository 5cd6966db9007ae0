-- The blocks that an archive in memory ever held, and the slots that hold one.
use Rattle.std.specs.Prelude.{◌≡◌, ◌<◌, ◌^◌, ℕ, Bool, true, List, Some, nat_eq}
use Rattle.std.specs.List.{list_any}
use Rattle.std.specs.Ordering.{nat_cmp}
use Rattle.std.specs.BTreeMap.{BTreeMap, get}
use Rattle.std.specs.Cmp.Lexicographic.{pointwise}

-- whether a block is among those that were ever held
abbrev pub is_among : List (List ℕ) → List ℕ → Bool
is_among past block = list_any (pointwise nat_eq block) past

-- every block that is held is among those that were ever held
abbrev pub AreBlocksKept : BTreeMap ℕ (List ℕ) → List (List ℕ) → Type 0
AreBlocksKept blocks past = (k : ℕ) (b : List ℕ) → get nat_cmp blocks k ≡ Some b → is_among past b ≡ true

-- no slot from 2^32 on holds a block
abbrev pub AreSlotsLow : BTreeMap ℕ (List ℕ) → Type 0
AreSlotsLow blocks = (k : ℕ) (b : List ℕ) → get nat_cmp blocks k ≡ Some b → k < 2 ^ 32
