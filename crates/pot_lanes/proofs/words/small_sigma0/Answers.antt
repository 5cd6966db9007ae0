use Rattle.std.proofs.Common.{slice_index}
use Rattle.pot_lanes.specs.Lanes.{by_lane}
use Rattle.pot_lanes.proofs.Four.{spread, same_lanes, lane_fits}
use Rattle.pot_lanes.proofs.Turning.{small0}
use Rattle.pot_lanes.proofs.words.small_sigma0.Goals as goal

pub returns : goal.returns
unfolding by_lane
returns c = rw (spread c.args.x c.fits-x.0)
    (same_lanes _ _ (λ l. small0 (slice_index c.args.x l) (lane_fits c.args.x l c.fits-x.1)))
