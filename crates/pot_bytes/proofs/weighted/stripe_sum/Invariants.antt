use Rattle.std.proofs.Common.{◌≡◌, drop, length}
use Rattle.pot_bytes.specs.Sums.{xor, sum_of}
use Rattle.pot_bytes.proofs.weighted.stripe_sum.Given as goal

abbrev pub invariant-loop-block : goal.invariant-loop-block
invariant-loop-block l = (xor l.sum (sum_of 1024 (drop l.block-index l.blocks)) ≡ sum_of 1024 l.blocks) × (length l.sum ≡ 1024)
