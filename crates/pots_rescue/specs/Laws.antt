-- What is proved of parity that is kept and put back. A slot is told by what it holds.
use Rattle.std.specs.Prelude.{◌≡◌, ℕ, Option, List, Result}
use Rattle.pot_bytes.specs.declared.digest.Digest.{Digest}
use Rattle.pot_outside.specs.declared.faults.Failed.{Failed}
use Rattle.pots_rescue.specs.declared.bringing.Brought.{Brought}
use Rattle.pots_rescue.specs.Bringing.{HoldsDigest, IsBrought, BecomesBrought}

-- what a slot holds
abbrev pub SlotContent : Type 0
SlotContent = Option (List ℕ)

-- KEPT: the parity slot holds a block of the digest, and the spare slot then holds one, whatever it
-- held. WRITTEN: the parity slot holds anything. PUT BACK: it holds a block of the digest.
abbrev pub KeptIsPutBack : Type 0
KeptIsPutBack =
    (d : Digest) (kept put : Brought) (parity spare kept_then written then : SlotContent)
    → HoldsDigest d parity → IsBrought d kept parity spare kept_then
    → IsBrought d put kept_then written then → HoldsDigest d then

-- The copying is stopped: the spare slot holds anything, and the parity slot what it held.
abbrev pub StoppedWhileKept : Type 0
StoppedWhileKept =
    (d : Digest) (put : Brought) (parity spare then : SlotContent)
    → HoldsDigest d parity → IsBrought d put spare parity then → then ≡ parity

-- The putting back is stopped or fails: the parity slot holds anything. It is done once more.
abbrev pub StoppedWhilePut : Type 0
StoppedWhilePut =
    (d : Digest) (put : Brought) (spare torn then : SlotContent)
    → HoldsDigest d spare → IsBrought d put spare torn then → HoldsDigest d then

-- A block of the digest stays in the parity slot, whatever the spare slot holds.
abbrev pub SoundStays : Type 0
SoundStays =
    (d : Digest) (result : Result Brought Failed) (spare parity then : SlotContent)
    → HoldsDigest d parity → BecomesBrought d result spare parity then → then ≡ parity

-- A copy of the digest stays in the spare slot, whatever the parity slot holds.
abbrev pub KeptStays : Type 0
KeptStays =
    (d : Digest) (result : Result Brought Failed) (parity spare then : SlotContent)
    → HoldsDigest d spare → BecomesBrought d result parity spare then → then ≡ spare
