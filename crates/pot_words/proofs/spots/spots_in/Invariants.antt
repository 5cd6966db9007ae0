use Rattle.std.proofs.Common.{◌≤◌, length}
use Rattle.pot_words.specs.Lists.{IsSpot, spot_rank, spot_text}
use Rattle.pot_words.proofs.ListLemmas.{IsReading, parts}
use Rattle.pot_words.proofs.spots.spots_in.Given as goal

abbrev pub invariant-loop-piece : goal.invariant-loop-piece
invariant-loop-piece l = IsReading spot_text IsSpot spot_rank 0 (parts l.fn.text) l.piece-iterator l.spots.items l.next × (length l.spots.items ≤ l.next)
