use Rattle.std.proofs.Common.{arith}
use Rattle.pot_doubles.proofs.RoomLemmas.{archive_of-none}
use Rattle.pot_doubles.proofs.room.place_of.Goals as goal

pub returns : goal.returns
returns c = archive_of-none c.args.shelves.now c.args.number (λ k d l. c.loop-place.invariant k d (omega arith))
