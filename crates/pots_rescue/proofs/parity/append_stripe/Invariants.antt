use Rattle.std.proofs.Common.{◌≡◌, ◌++◌}
use Rattle.std.specs.List.{flat_map, range_with_len}
use Rattle.pots_rescue.specs.Parity.{parity_at}
use Rattle.pots_rescue.proofs.parity.append_stripe.Given as goal

abbrev pub invariant-loop-number : goal.invariant-loop-number
invariant-loop-number l =
    l.list.items ≡ l.fn.list.items ++ flat_map (parity_at l.group l.table l.stripe) (range_with_len 0 l.number)
