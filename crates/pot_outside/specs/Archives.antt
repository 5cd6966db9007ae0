-- What an archive means, and what a call of one does to it.
use Rattle.std.specs.Prelude.{◌≡◌, ◌≤◌, ◌-◌, ◌^◌, ◌==◌, ◌⊎◌, ◌++◌, ℕ, List, [], ◌∷◌, Option}
use Rattle.std.specs.Prelude.{Some, None, Result, Ok, Err, Contains, ◌<◌, if◌then◌else◌, IsErr}
use Rattle.pot_bytes.specs.Lists.{IsBlock}
use Rattle.pot_outside.specs.Failing.{MayLeave}
use Rattle.pot_bytes.specs.Sums.{xor}
use Rattle.pot_bytes.specs.Weighted.{scaled}
use Rattle.pot_outside.specs.declared.archive.Held.{Held as IsHeld}
use Rattle.pot_outside.specs.declared.archive.Held.TheVariants.{Held, Absent}
use Rattle.pot_outside.specs.declared.archive.Marks.{Marks}
use Rattle.pot_outside.specs.declared.faults.Failed.{Failed}
use Rattle.pot_outside.specs.Counts.{Caused}

-- the block of each slot
abbrev pub HeldBlocks : Type 0
HeldBlocks = ℕ → Option (List ℕ)

-- the contents with this in the place of one slot's
abbrev pub at_slot : HeldBlocks → ℕ → Option (List ℕ) → HeldBlocks
at_slot held slot block k = if k == slot then block else held k

-- No block is new or altered. While the count of losses stays below its last value and does not
-- rise, none is gone.
pub record OnlyLoses (old new : HeldBlocks) (before now : ℕ) : Type 0 where
  pub later : before ≤ now
  pub keeps : (k : ℕ) (b : List ℕ) → new k ≡ Some b → old k ≡ Some b
  pub same : (k : ℕ) → now ≡ before → now < 2 ^ 64 - 1 → new k ≡ old k

-- `Held`: the buffer is the slot's block; `Absent`: the slot has none
abbrev pub ReadTells : HeldBlocks → ℕ → List ℕ → Result IsHeld Failed → Type 0
ReadTells held slot into (Ok Held) = held slot ≡ Some into
ReadTells held slot into (Ok Absent) = held slot ≡ None
ReadTells held slot into (Err e) = Unit {0}

-- `Held`: the sum became the old sum XOR the weight times the slot's block; `Absent`: the slot has
-- none
abbrev pub FoldTells : HeldBlocks → ℕ → ℕ → List ℕ → List ℕ → Result IsHeld Failed → Type 0
FoldTells held slot weight before after (Ok Held) =
    (block : List ℕ) × (held slot ≡ Some block) × IsBlock block
    × (after ≡ xor before (scaled weight block))
FoldTells held slot weight before after (Ok Absent) = held slot ≡ None
FoldTells held slot weight before after (Err e) = Unit {0}

-- where no block was added the sum is as it was
abbrev pub LeavesSum : List ℕ → List ℕ → Result IsHeld Failed → Type 0
LeavesSum before after (Ok Held) = Unit {0}
LeavesSum before after (Ok Absent) = after ≡ before
LeavesSum before after (Err e) = after ≡ before

-- a fold is heard with its slot and the sum before it, and one that fails may not be heard
abbrev pub HearsFold : List (ℕ × List ℕ) → List (ℕ × List ℕ) → ℕ → List ℕ → Result IsHeld Failed
    → Type 0
HearsFold old new slot sum (Ok h) = new ≡ old ++ (slot, sum) ∷ []
HearsFold old new slot sum (Err e) = (new ≡ old) ⊎ (new ≡ old ++ (slot, sum) ∷ [])

-- a write puts the block into its slot, or fails and leaves what it may; then blocks may be lost
abbrev pub WriteTells : HeldBlocks → HeldBlocks → ℕ → ℕ → ℕ → List ℕ → Result (Unit {0}) Failed → Type 0
WriteTells old new before now slot block (Ok u) =
    OnlyLoses (at_slot old slot (Some block)) new before now
WriteTells old new before now slot block (Err e) =
    (left : Option (List ℕ)) × MayLeave (old slot) block left
    × OnlyLoses (at_slot old slot left) new before now

-- a write adds its block to the blocks that were ever held, and one that fails may add none
abbrev pub Remembers : List (List ℕ) → List (List ℕ) → List ℕ → Result (Unit {0}) Failed → Type 0
Remembers old new block (Ok u) = new ≡ old ++ block ∷ []
Remembers old new block (Err e) = (new ≡ old) ⊎ (new ≡ old ++ block ∷ [])

-- every block that is held is among those that were ever held
abbrev pub IsRemembered : HeldBlocks → List (List ℕ) → Type 0
IsRemembered held history = (k : ℕ) (b : List ℕ) → held k ≡ Some b → Contains history b

-- no slot from 2^32 on holds a block: a slot's number has 32 bits
abbrev pub HoldsLow : HeldBlocks → Type 0
HoldsLow held = (k : ℕ) (b : List ℕ) → held k ≡ Some b → k < 2 ^ 32

-- What an archive means: the blocks, those ever held, the sums heard, and the two counts. Where
-- archives don't tell what they hold, only the count of faults is meant.
pub record Meaning : Type 0 where
  pub held : HeldBlocks
  pub history : List (List ℕ)
  pub heard : List (ℕ × List ℕ)
  pub faults : ℕ
  pub losses : ℕ

-- so every archive is that tells: it remembers each block that it holds, and holds none from slot
-- 2^32 on
pub record IsCoherent (m : Meaning) : Type 0 where
  pub past : IsRemembered m.held m.history
  pub low : HoldsLow m.held

-- an archive that holds no block and never held one, heard no sum, never failed and lost nothing
pub record IsVacant (m : Meaning) : Type 0 where
  pub blocks : (slot : ℕ) → m.held slot ≡ None
  pub past : m.history ≡ []
  pub sums : m.heard ≡ []
  pub faulted : m.faults ≡ 0
  pub lost : m.losses ≡ 0

-- two meanings say the same
pub record IsMeant (m n : Meaning) : Type 0 where
  pub blocks : (slot : ℕ) → n.held slot ≡ m.held slot
  pub past : n.history ≡ m.history
  pub sums : n.heard ≡ m.heard
  pub faulted : n.faults ≡ m.faults
  pub lost : n.losses ≡ m.losses

-- THE CALLS. `told` is whether the archive tells what it holds.

pub record Reads (told : Type 0) (slot : ℕ) (into : List ℕ) (result : Result IsHeld Failed)
    (old new : Meaning) : Type 0 where
  pub tells : told → ReadTells new.held slot into result
  pub loses : told → OnlyLoses old.held new.held old.losses new.losses
  pub past : told → new.history ≡ old.history
  pub hears : told → new.heard ≡ old.heard
  pub cause : Caused old.faults new.faults (IsErr result)

pub record Folds (told : Type 0) (slot weight : ℕ) (before after : List ℕ)
    (result : Result IsHeld Failed) (old new : Meaning) : Type 0 where
  pub tells : told → FoldTells new.held slot weight before after result
  pub leaves : LeavesSum before after result
  pub loses : told → OnlyLoses old.held new.held old.losses new.losses
  pub past : told → new.history ≡ old.history
  pub hears : told → HearsFold old.heard new.heard slot before result
  pub cause : Caused old.faults new.faults (IsErr result)

pub record Writes (told : Type 0) (slot : ℕ) (block : List ℕ) (result : Result (Unit {0}) Failed)
    (old new : Meaning) : Type 0 where
  pub tells : told → WriteTells old.held new.held old.losses new.losses slot block result
  pub past : told → Remembers old.history new.history block result
  pub hears : told → new.heard ≡ old.heard
  pub cause : Caused old.faults new.faults (IsErr result)

-- the counts now; each block that is held is among those ever held, and no slot from 2^32 on holds
-- one
pub record IsMarked (told : Type 0) (m : Meaning) (marks : Marks) : Type 0 where
  pub faults : marks.faults ≡ m.faults
  pub losses : told → marks.losses ≡ m.losses
  pub past : told → IsRemembered m.held m.history
  pub low : told → HoldsLow m.held
