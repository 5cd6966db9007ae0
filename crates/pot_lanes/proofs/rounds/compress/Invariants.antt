use Rattle.std.proofs.Common.{◌≡◌, ℕ, ◌<◌, length, slice_index, ◌*◌}
use Rattle.sha2.specs.Sha256.{IsRoundsAt, word_at}
use Rattle.pot_lanes.specs.Lanes.{lane, nth, window}
use Rattle.pot_lanes.proofs.rounds.compress.Given as goal

abbrev pub invariant-load : goal.invariant-load
invariant-load l =
    (length l.w ≡ 16)
    × ((n : ℕ) → n < 4 → (k : ℕ) → k < l.i → slice_index (window n l.w) k ≡ word_at (nth n l.a l.b l.c l.d) (4 * k))

abbrev pub invariant-schedule : goal.invariant-schedule
invariant-schedule l =
    (n : ℕ) → n < 4 → IsRoundsAt (nth n l.a l.b l.c l.d) (lane n l.state) (window n l.w) (lane n l.v) (16 * l.turn)
