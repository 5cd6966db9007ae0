use Rattle.std.proofs.Common.{slice_index}
use Rattle.pot_lanes.proofs.Majority.{maj_short}
use Rattle.pot_lanes.proofs.words.maj.Goals as goal
use Rattle.pot_lanes.specs.Lanes.{by_lane}
use Rattle.pot_lanes.proofs.Four.{spread, same_lanes}

pub returns : goal.returns
unfolding by_lane
returns c = rw (spread c.args.x c.fits-x.0, spread c.args.y c.fits-y.0, spread c.args.z c.fits-z.0)
    (same_lanes _ _ (λ l. maj_short (slice_index c.args.x l) (slice_index c.args.y l) (slice_index c.args.z l)))
