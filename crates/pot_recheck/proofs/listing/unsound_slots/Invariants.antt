use Rattle.std.proofs.Common.{◌≡◌}
use Rattle.pot_recheck.specs.Listing.{in_groups}
use Rattle.pot_recheck.proofs.listing.unsound_slots.Given as goal

abbrev pub invariant-loop-group : goal.invariant-loop-group
invariant-loop-group l = l.list.items ≡ in_groups l.image.tables.items l.group
