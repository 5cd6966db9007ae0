-- A block of a wanted digest is brought from one slot to another.
use Rattle.std.specs.Prelude.{◌≡◌, ◌⊎◌, ◌<◌, ◌-◌, ◌^◌, ℕ, Bool, true, false, Option, Some, None}
use Rattle.std.specs.Prelude.{List, Result, Ok, Err, IsErr}
use Rattle.pot_bytes.specs.Digests.{digest_bytes}
use Rattle.pot_bytes.specs.declared.digest.Digest.{Digest}
use Rattle.pot_outside.specs.declared.faults.Failed.{Failed}
use Rattle.pot_outside.specs.Archives.{HeldBlocks, Meaning, OnlyLoses}
use Rattle.pot_outside.specs.Counts.{Caused, Rose}
use Rattle.pots_rescue.specs.declared.bringing.Brought.{Brought}
use Rattle.pots_rescue.specs.declared.bringing.Brought.TheVariants.{There, Copied, Nowhere}

-- the slot holds a block of this digest
abbrev pub HoldsDigest : Digest → Option (List ℕ) → Type 0
HoldsDigest d None = ⊥
HoldsDigest d (Some b) = digest_bytes b ≡ d.bytes

-- No block was lost between two moments: the count of losses is what it was, and below its last
-- value, where a rise can't be seen.
pub record NothingLost (old new : Meaning) : Type 0 where
  pub same : new.losses ≡ old.losses
  pub seen : new.losses < 2 ^ 64 - 1

-- each slot holds what it held
abbrev pub Same : HeldBlocks → HeldBlocks → Type 0
Same old new = (k : ℕ) → new k ≡ old k

-- each other slot holds what it held
abbrev pub SameButSlot : ℕ → HeldBlocks → HeldBlocks → Type 0
SameButSlot slot old new = (k : ℕ) → (k ≡ slot → ⊥) → new k ≡ old k

-- WHAT BECOMES OF A SLOT: what the source holds, what the target held, and what it holds then

abbrev pub IsBrought : Digest → Brought → Option (List ℕ) → Option (List ℕ)
    → Option (List ℕ) → Type 0
IsBrought d There source old new = HoldsDigest d old × (new ≡ old)
IsBrought d Copied source old new =
    (HoldsDigest d old → ⊥) × HoldsDigest d source × (new ≡ source)
IsBrought d Nowhere source old new =
    (HoldsDigest d old → ⊥) × (HoldsDigest d source → ⊥) × (new ≡ old)

-- A call that failed leaves the target's block, or the source's or none where the target had none
-- of the digest and the source has one.
abbrev pub IsTargetLeft : Digest → Option (List ℕ) → Option (List ℕ) → Option (List ℕ) → Type 0
IsTargetLeft d source old new =
    (new ≡ old)
    ⊎ ((HoldsDigest d old → ⊥) × HoldsDigest d source × ((new ≡ source) ⊎ (new ≡ None)))

abbrev pub BecomesBrought : Digest → Result Brought Failed → Option (List ℕ) → Option (List ℕ)
    → Option (List ℕ) → Type 0
BecomesBrought d (Ok brought) source old new = IsBrought d brought source old new
BecomesBrought d (Err e) source old new = IsTargetLeft d source old new

-- THE CALLS. `told` is whether the archive tells what it holds.

-- a slot is looked at: `true` where it holds a block of the digest, which is read, else `false`
pub record ReadsSound (told : Type 0) (d : Digest) (slot : ℕ) (into : List ℕ)
    (result : Result Bool Failed) (old new : Meaning) : Type 0 where
  pub digest : result ≡ Ok true → digest_bytes into ≡ d.bytes
  pub sound : told → result ≡ Ok true → new.held slot ≡ Some into
  pub unsound : told → result ≡ Ok false → HoldsDigest d (new.held slot) → ⊥
  pub loses : told → OnlyLoses old.held new.held old.losses new.losses
  pub cause : Caused old.faults new.faults (IsErr result)

-- what it comes to where neither archive lost a block: the source's archive is as it was, and so
-- are all slots of the target's but for the target
pub record BringsAll (d : Digest) (source target : ℕ) (result : Result Brought Failed)
    (from from_then to to_then : Meaning) : Type 0 where
  pub kept : Same from.held from_then.held
  pub others : SameButSlot target to.held to_then.held
  pub become : BecomesBrought d result (from.held source) (to.held target) (to_then.held target)

-- a block is brought from a slot of one archive to a slot of another
pub record BringsBlock (told told_too : Type 0) (d : Digest) (source target : ℕ)
    (result : Result Brought Failed) (from from_then to to_then : Meaning) : Type 0 where
  pub all : told → told_too → NothingLost from from_then → NothingLost to to_then
      → BringsAll d source target result from from_then to to_then
  -- whatever is lost: no block comes but one of the digest, at the target
  pub only : told_too → (k : ℕ) (b : List ℕ) → to_then.held k ≡ Some b
      → (to.held k ≡ Some b) ⊎ ((k ≡ target) × (digest_bytes b ≡ d.bytes))
  pub cause : IsErr result → Rose from.faults from_then.faults ⊎ Rose to.faults to_then.faults
