use Rattle.std.proofs.Common.{◌≡◌, ◌<◌, ℕ, take, false}
use Rattle.std.specs.List.{list_any}
use Rattle.pot_recover.specs.Fronts.{has_front}
use Rattle.pot_session.specs.Listing.{front_at, object_at}
use Rattle.pot_session.proofs.recovery.listing.has_earlier.Given as goal

abbrev pub invariant-loop-piece : goal.invariant-loop-piece
invariant-loop-piece l = (q : ℕ) → q < l.piece → list_any (has_front (front_at (object_at l.found l.place) q)) (take l.place l.found) ≡ false
