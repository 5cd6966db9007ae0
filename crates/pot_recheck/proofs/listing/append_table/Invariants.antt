use Rattle.std.proofs.Common.{◌≡◌, ◌++◌}
use Rattle.std.specs.List.{flat_map, range_with_len}
use Rattle.pot_recheck.specs.Listing.{in_stripe}
use Rattle.pot_recheck.proofs.listing.append_table.Given as goal

abbrev pub invariant-loop-stripe : goal.invariant-loop-stripe
invariant-loop-stripe l =
    l.list.items ≡ l.fn.list.items ++ flat_map (in_stripe l.group l.table) (range_with_len 0 l.stripe)
