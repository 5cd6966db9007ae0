use Rattle.std.proofs.Common.{◌≡◌, ◌<◌, ℕ}
use Rattle.sha2.specs.Sha256.{hash_after}
use Rattle.pot_lanes.specs.Lanes.{lane, nth}
use Rattle.pot_lanes.proofs.digest.absorb.Given as goal

abbrev pub invariant-blocks-2 : goal.invariant-blocks-2
invariant-blocks-2 l =
    (n : ℕ) → n < 4 → lane n l.state ≡ hash_after (lane n l.fn.state) (nth n l.a l.b l.c l.d) l.i
