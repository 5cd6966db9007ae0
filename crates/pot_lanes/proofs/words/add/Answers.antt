use Rattle.std.proofs.Common.{refl}
use Rattle.pot_lanes.proofs.words.add.Goals as goal
use Rattle.pot_lanes.specs.Lanes.{by_lane}
use Rattle.pot_lanes.proofs.Four.{spread}

pub returns : goal.returns
unfolding by_lane
returns c = rw (spread c.args.x c.fits-x.0, spread c.args.y c.fits-y.0) refl
