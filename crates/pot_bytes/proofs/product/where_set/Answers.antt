use Rattle.std.proofs.Common.{◌≡◌, ◌*◌, ◌<◌, ℕ, zero, suc, ◌+◌, ◌-◌, ◌%◌, bit_and, arith, sym, ◌∙◌}
use native.Mathlib.Nat.{zero-mul}
use Rattle.std.specs.Int.Bits.{and_zero_r}
use Rattle.std.proofs.lemmas.Nat.{and_mask}
use Rattle.pot_bytes.proofs.product.where_set.Goals as goal

-- all bits are set, or none
masked : (bit byte : ℕ) → bit < 2 → byte < 256 → bit_and byte ((0 + (256 - bit)) % 256) ≡ bit * byte
masked zero byte h k = and_zero_r byte ∙ sym (zero-mul byte)
masked (suc zero) byte h k = and_mask byte 8 ∙ omega arith
masked (suc (suc bit)) byte h k = absurd (omega arith)

pub returns : goal.returns
returns c = masked c.args.bit c.args.byte c.requires c.ranges.byte.fits
