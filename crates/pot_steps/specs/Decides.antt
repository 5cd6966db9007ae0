-- Whether a stripe of which all but two columns were read has a filling. With one parity column the
-- second of the two is column C+1, which such a stripe does not have.
use Rattle.std.specs.Prelude.{◌≡◌, ◌≢◌, ℕ, ◌+◌, ◌<◌, List, Some, nat_eq, slice_index, if◌then◌else◌}
use Rattle.pot_bytes.specs.declared.digest.Digest.{Digest}
use Rattle.pot_bytes.specs.Totals.{total}
use Rattle.pot_bytes.specs.Product.{byte_product}
use Rattle.pot_bytes.specs.Sums.{zero_block}
use Rattle.pot_machine.specs.declared.slot.SlotState.TheVariants.{Void}
use Rattle.pot_machine.specs.Slot.{digest_in}
use Rattle.pot_bytes.specs.Lists.{IsBlock}
use Rattle.pot_bytes.specs.Digests.{digest_of}
use Rattle.pot_steps.specs.Stripe.{Stripe, IsSound}
use Rattle.pot_steps.specs.Law.{IsRead}
use Rattle.pot_steps.specs.Flight.{weight}

-- the block of column `t` by the sum that leaves column `u` out
pub record Computed (data_columns parity t u : ℕ) (base : ℕ → List ℕ) (x : List ℕ) : Type 0 where
  pub block : IsBlock x
  pub bytes : (k : ℕ)
      → slice_index x k
      ≡ total (data_columns + parity)
      (λ c. if nat_eq c t then 0
      else byte_product (weight data_columns t u c) (slice_index (base c) k))

-- the blocks that were read of the stripe, but for the columns `t` and `u`
abbrev pub IsStripeRead : ℕ → ℕ → Stripe → ℕ → ℕ → (ℕ → List ℕ) → Type 0
IsStripeRead data_columns parity s t u base =
    (c : ℕ) → c < data_columns + parity → c ≢ t → c ≢ u → IsBlock (base c) × IsRead s c (base c)

-- a block that may stand for a slot
pub record StandsForSlot (s : Stripe) (c : ℕ) (x : List ℕ) : Type 0 where
  pub void : s.slots c ≡ Void → x ≡ zero_block
  pub digest : (d : Digest) → digest_in (s.slots c) ≡ Some d → digest_of x ≡ d
  pub held : (b : List ℕ) → IsSound s c b → x ≡ b
