-- The states of a slot, and how it passes from one to another.
use Rattle.std.specs.Prelude.{Bool, true, false, Option, Some, None, if◌then◌else◌}
use Rattle.pot_bytes.specs.declared.digest.Digest.{Digest}
use Rattle.pot_machine.specs.declared.slot.SlotState.{SlotState}
use Rattle.pot_machine.specs.declared.slot.SlotState.TheVariants.{Void, Live, Lost, Broken}
use Rattle.pot_machine.specs.declared.slot.Condition.{Condition}
use Rattle.pot_machine.specs.declared.slot.Condition.TheVariants as condition

-- the digest of the block that was put there
abbrev pub digest_in : SlotState → Option Digest
digest_in Void = None
digest_in (Live d) = Some d
digest_in (Lost d) = Some d
digest_in (Broken d) = Some d

abbrev pub is_void : SlotState → Bool
is_void Void = true
is_void _ = false

abbrev pub is_live : SlotState → Bool
is_live (Live d) = true
is_live _ = false

abbrev pub is_lost : SlotState → Bool
is_lost (Lost d) = true
is_lost _ = false

abbrev pub is_broken : SlotState → Bool
is_broken (Broken d) = true
is_broken _ = false

-- Lost or Broken
abbrev pub is_unsound : SlotState → Bool
is_unsound (Lost d) = true
is_unsound (Broken d) = true
is_unsound _ = false

-- the test that a condition of the code stands for
abbrev pub meets : Condition → SlotState → Bool
meets condition.Lost = is_lost
meets condition.Broken = is_broken
meets condition.Unsound = is_unsound

-- a Live slot becomes Lost with the same digest, and any other slot stays
abbrev pub lost_of : SlotState → SlotState
lost_of (Live d) = Lost d
lost_of slot = slot

-- the slot becomes Broken with the same digest
abbrev pub broken_of : SlotState → SlotState
broken_of Void = Void
broken_of (Live d) = Broken d
broken_of (Lost d) = Broken d
broken_of (Broken d) = Broken d

-- the slot becomes Live with the same digest
abbrev pub live_of : SlotState → SlotState
live_of Void = Void
live_of (Live d) = Live d
live_of (Lost d) = Live d
live_of (Broken d) = Live d

-- a parity slot after a put: Live where its new block was kept, else Lost
abbrev pub parity_slot : Digest → Bool → SlotState
parity_slot d kept = if kept then Live d else Lost d
