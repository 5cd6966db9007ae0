use Rattle.std.proofs.Common.{◌≡◌, ◌<◌, ℕ, false}
use Rattle.std.specs.Prelude.{is_none}
use Rattle.pot_session.specs.Listing.{least_of}
use Rattle.pot_session.proofs.recovery.listing.first_gap.Given as goal

abbrev pub invariant-loop-piece : goal.invariant-loop-piece
invariant-loop-piece l = (q : ℕ) → q < l.piece → is_none (least_of l.found l.object q) ≡ false
