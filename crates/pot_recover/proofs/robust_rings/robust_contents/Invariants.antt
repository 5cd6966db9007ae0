use Rattle.std.proofs.Common.{◌<◌, ◌≤◌, [], map}
use Rattle.pot_recover.specs.HeldShards.{shard_of}
use Rattle.pot_recover.specs.LongScopes.{HasSearchedLong}
use Rattle.pot_recover.proofs.robust_rings.robust_contents.Given as goal

abbrev pub invariant-loop-need : goal.invariant-loop-need
invariant-loop-need l = HasSearchedLong (map (shard_of l.bits) l.held) (λ m n. m < l.need) l.fn.count l.count [] l.found.items × (l.count ≤ 4000000)
