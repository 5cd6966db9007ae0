use Rattle.std.proofs.Common.{◌<◌, length}
use Rattle.pot_session.proofs.session.archives.least_place.Given as goal

abbrev pub invariant-loop-place : goal.invariant-loop-place
invariant-loop-place g l = l.least < length l.shelves
