use Rattle.std.proofs.Common.{◌≡◌, ◌<◌, ◌/◌, ◌^◌, bit_xor}
use Rattle.pot_bytes.specs.Product.{byte_product}
use Rattle.pot_bytes.proofs.product.gf_times.Given as goal

abbrev pub invariant-loop-bit : goal.invariant-loop-bit
invariant-loop-bit l = (bit_xor l.product (byte_product l.shifted (l.b / 2 ^ l.bit)) ≡ byte_product l.a l.b) × (l.shifted < 256)
