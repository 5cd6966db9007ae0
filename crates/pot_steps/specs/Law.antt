-- The law of a stripe, what a loss and a repair do to it, and which places can be rebuilt.
use Rattle.std.specs.Prelude.{◌≡◌, ◌≢◌, ◌⊎◌, ◌↔◌, ℕ, suc, ◌+◌, ◌<◌, ◌≤◌, List, Option, Some, None}
use Rattle.std.specs.Prelude.{Bool, true, IsTrue, nat_eq, slice_index, if◌then◌else◌}
use Rattle.pot_bytes.specs.declared.digest.Digest.{Digest}
use Rattle.pot_bytes.specs.Totals.{total}
use Rattle.pot_bytes.specs.Sums.{zero_block}
use Rattle.pot_machine.specs.declared.slot.SlotState.TheVariants.{Void, Live, Broken}
use Rattle.pot_machine.specs.declared.relay.Relay.{Relay}
use Rattle.pot_machine.specs.Slot.{digest_in, is_lost}
use Rattle.pot_machine.specs.Table.{count}
use Rattle.pot_bytes.specs.Lists.{IsBlock}
use Rattle.pot_bytes.specs.Digests.{digest_of}
use Rattle.pot_steps.specs.Stripe.{Stripe, IsSound, Sound, NoneBroken, HasFilling}

-- how many slots are Lost
abbrev pub lost_count : ℕ → ℕ → Stripe → ℕ
lost_count data_columns parity s = count (data_columns + parity) (λ c. is_lost (s.slots c))

-- a stripe without a Broken slot that has a relay, or that has no more Lost slots than parity
-- columns, has a filling
abbrev pub StripeLaw : ℕ → ℕ → Stripe → Option Relay → Type 0
StripeLaw data_columns parity s relay =
    NoneBroken data_columns parity s → (relay ≢ None) ⊎ (lost_count data_columns parity s ≤ parity)
    → HasFilling data_columns parity s

-- the slots keep their digests, and none becomes Live; the archives may have lost blocks
pub record Worse (data_columns parity : ℕ) (s s' : Stripe) : Type 0 where
  pub digests : (c : ℕ) → c < data_columns + parity → digest_in (s'.slots c) ≡ digest_in (s.slots c)
  pub sound : (c : ℕ) (b : List ℕ) → c < data_columns + parity → IsSound s' c b → IsSound s c b
  pub lost : (c : ℕ) → c < data_columns + parity → is_lost (s.slots c) ≡ true
      → is_lost (s'.slots c) ≡ true
  pub broken : (c : ℕ) (d : Digest) → c < data_columns + parity → s.slots c ≡ Broken d
      → s'.slots c ≡ Broken d

-- a slot is repaired: the block is written, and the slot is Live with its digest
pub record Repairs (data_columns parity : ℕ) (s s' : Stripe) (t : ℕ) (block : List ℕ) : Type 0 where
  pub before : s.slots t ≢ Void
  pub digest : digest_in (s.slots t) ≡ Some (digest_of block)
  pub after : s'.slots t ≡ Live (digest_of block)
  pub written : s'.held t ≡ Some block
  pub other_slots : (k : ℕ) → k < data_columns + parity → k ≢ t → s'.slots k ≡ s.slots k
  pub other_held : (k : ℕ) → k < data_columns + parity → k ≢ t → s'.held k ≡ s.held k

-- each slot is Void or Live, as it must be where a put is legal
abbrev pub AllLive : ℕ → ℕ → Stripe → Type 0
AllLive data_columns parity s =
    (c : ℕ) → c < data_columns + parity → (s.slots c ≡ Void) ⊎ ((d : Digest) × (s.slots c ≡ Live d))

-- a block that was read at a column: the one held where the slot is sound, and zeros where it is
-- Void
abbrev pub IsRead : Stripe → ℕ → List ℕ → Type 0
IsRead s c block = IsSound s c block ⊎ ((s.slots c ≡ Void) × (block ≡ zero_block))

-- The law of a stripe with one parity column, said without a filling.
pub record SingleLaw (data_columns : ℕ) (s : Stripe) (blocks : ℕ → List ℕ) : Type 0 where
  -- where all slots that are not Void are sound, the XOR of their blocks is zero
  pub whole : ((c : ℕ) → c ≤ data_columns → IsRead s c (blocks c)) → (k : ℕ)
      → total (suc data_columns) (λ c. slice_index (blocks c) k) ≡ 0
  -- where one of them is not sound, the XOR of the others' blocks has that slot's digest
  pub but_one : (u : ℕ) (d : Digest) → u ≤ data_columns → digest_in (s.slots u) ≡ Some d
      → ((c : ℕ) → c ≤ data_columns → c ≢ u → IsRead s c (blocks c))
      → (rest : List ℕ) → IsBlock rest
      → ((k : ℕ)
      → slice_index rest k
      ≡ total (suc data_columns) (λ c. if nat_eq c u then 0 else slice_index (blocks c) k))
      → digest_of rest ≡ d

-- the test is true exactly at the slots that are not Void and not sound
abbrev pub FindsUnsound : ℕ → ℕ → Stripe → (ℕ → Bool) → Type 0
FindsUnsound data_columns parity s test =
    (c : ℕ) → c < data_columns + parity → IsTrue (test c) ↔ ((s.slots c ≢ Void) × (Sound s c → ⊥))

-- no more of the slots that are not Void are not sound than there are parity columns
abbrev pub FewUnsound : ℕ → ℕ → Stripe → Type 0
FewUnsound data_columns parity s =
    (test : ℕ → Bool) × FindsUnsound data_columns parity s test
    × (count (data_columns + parity) test ≤ parity)

-- a place that a relay can rebuild: its slot is not Void and not sound, no slot of its stripe is
-- Broken, and few are unsound
pub record Rebuildable (data_columns parity : ℕ) (s : Stripe) (c : ℕ) : Type 0 where
  pub column : c < data_columns + parity
  pub not_void : s.slots c ≢ Void
  pub not_sound : Sound s c → ⊥
  pub none_broken : NoneBroken data_columns parity s
  pub few : FewUnsound data_columns parity s
