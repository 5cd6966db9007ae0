-- One stripe: what the table says of its slots, what the archives hold there, its fillings, and a
-- put into it.
use Rattle.std.specs.Prelude.{◌≡◌, ◌≢◌, ◌⊎◌, ℕ, suc, ◌+◌, ◌<◌, List, Option, Some}
use Rattle.pot_bytes.specs.declared.digest.Digest.{Digest}
use Rattle.pot_bytes.specs.Digests.{digest_of}
use Rattle.pot_bytes.specs.Sums.{xor, zero_block}
use Rattle.pot_bytes.specs.Weighted.{scaled}
use Rattle.pot_gf.specs.Field.{power}
use Rattle.pot_machine.specs.declared.slot.SlotState.{SlotState}
use Rattle.pot_machine.specs.declared.slot.SlotState.TheVariants.{Void, Live, Broken}
use Rattle.pot_machine.specs.Slot.{digest_in}
use Rattle.pot_bytes.specs.Lists.{IsBlock}
use Rattle.pot_steps.specs.Equations.{sum_at, p_weight, q_weight}

-- one stripe, by column: the slot, and the block that the archive that serves it holds there
pub record Stripe : Type 0 where
  pub slots : ℕ → SlotState
  pub held : ℕ → Option (List ℕ)

-- the slot is Live, and the archive that serves it holds this block, of the slot's digest
pub record IsSound (s : Stripe) (c : ℕ) (block : List ℕ) : Type 0 where
  pub digest : Digest
  pub live : s.slots c ≡ Live digest
  pub held : s.held c ≡ Some block
  pub right : digest_of block ≡ digest

-- the slot is sound
abbrev pub Sound : Stripe → ℕ → Type 0
Sound s c = (block : List ℕ) × IsSound s c block

-- no slot is Broken
abbrev pub NoneBroken : ℕ → ℕ → Stripe → Type 0
NoneBroken data_columns parity s =
    (c : ℕ) (d : Digest) → c < data_columns + parity → s.slots c ≢ Broken d

-- no slot is Broken, and each that is not Void is sound
pub record Whole (data_columns parity : ℕ) (s : Stripe) : Type 0 where
  pub none_broken : NoneBroken data_columns parity s
  pub sound : (c : ℕ) → c < data_columns + parity → (s.slots c ≡ Void) ⊎ Sound s c

-- a block for each column: zeros where the slot is Void, else a block of the slot's digest, and the
-- one held where the slot is sound. The sum of P is zero, and where there are two parity columns so
-- is the sum of Q
pub record Filling (data_columns parity : ℕ) (s : Stripe) (blocks : ℕ → List ℕ) : Type 0 where
  pub block : (c : ℕ) → c < data_columns + parity → IsBlock (blocks c)
  pub void : (c : ℕ) → c < data_columns + parity → s.slots c ≡ Void → blocks c ≡ zero_block
  pub digest : (c : ℕ) (d : Digest) → c < data_columns + parity → digest_in (s.slots c) ≡ Some d
      → digest_of (blocks c) ≡ d
  pub held : (c : ℕ) (b : List ℕ) → c < data_columns + parity → IsSound s c b → blocks c ≡ b
  pub p_sum : (k : ℕ) → sum_at (data_columns + parity) (p_weight data_columns) blocks k ≡ 0
  pub q_sum : parity ≡ 2 → (k : ℕ)
      → sum_at (data_columns + parity) (q_weight data_columns) blocks k ≡ 0

-- the stripe has a filling
abbrev pub HasFilling : ℕ → ℕ → Stripe → Type 0
HasFilling data_columns parity s = (blocks : ℕ → List ℕ) × Filling data_columns parity s blocks

-- the old block of a parity slot, which a put reads
abbrev pub IsOld : Stripe → ℕ → List ℕ → Type 0
IsOld s c old = ((s.slots c ≡ Void) × (old ≡ zero_block)) ⊎ IsSound s c old

-- the new block of a parity slot: its digest stands in the slot, which is Live only where the block
-- was written
pub record IsNewParity (s : Stripe) (c : ℕ) (new : List ℕ) : Type 0 where
  pub digest : digest_in (s.slots c) ≡ Some (digest_of new)
  pub kept : (d : Digest) → s.slots c ≡ Live d → s.held c ≡ Some new

-- A put of a block at column `c`: the data slot gets the block, P the old P XOR the block, and Q
-- the old Q XOR 3^c times the block.
pub record PutsIntoStripe (data_columns parity : ℕ) (s s' : Stripe) (c : ℕ) (block p q : List ℕ) : Type
    0 where
  pub is_block : IsBlock block
  pub column : c < data_columns
  pub empty : s.slots c ≡ Void
  pub slot : s'.slots c ≡ Live (digest_of block)
  pub written : s'.held c ≡ Some block
  pub old_p : IsOld s data_columns p
  pub new_p : IsNewParity s' data_columns (xor p block)
  pub old_q : parity ≡ 2 → IsOld s (suc data_columns) q
  pub new_q : parity ≡ 2 → IsNewParity s' (suc data_columns) (xor q (scaled (power 3 c) block))
  pub other_slots : (k : ℕ) → k < data_columns → k ≢ c → s'.slots k ≡ s.slots k
  pub other_held : (k : ℕ) → k < data_columns → k ≢ c → s'.held k ≡ s.held k
