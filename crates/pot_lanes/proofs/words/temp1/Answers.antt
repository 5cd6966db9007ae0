use Rattle.std.proofs.Common.{refl}
use Rattle.pot_lanes.proofs.words.temp1.Goals as goal
use Rattle.pot_lanes.specs.Lanes.{by_lane}
use Rattle.pot_lanes.proofs.Four.{spread}

pub returns : goal.returns
unfolding by_lane
returns c = rw (c.big_sigma1.ensures, c.ch.ensures, spread c.args.h c.fits-h.0, spread c.args.word c.fits-word.0) refl
