use Rattle.std.proofs.Common.{◌≡◌, ◌++◌}
use Rattle.std.specs.List.{flat_map, range_with_len}
use Rattle.pot_recheck.specs.Listing.{unsound_at}
use Rattle.pot_recheck.proofs.listing.append_stripe.Given as goal

abbrev pub invariant-loop-column : goal.invariant-loop-column
invariant-loop-column l =
    l.list.items ≡ l.fn.list.items ++ flat_map (unsound_at l.group l.table l.stripe) (range_with_len 0 l.column)
