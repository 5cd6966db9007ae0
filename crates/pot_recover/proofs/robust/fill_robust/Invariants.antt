use Rattle.std.proofs.Common.{◌≡◌, ◌<◌, ◌+◌, ℕ, map, length, get_or}
use Rattle.pot_recover.specs.HeldShards.{point_of, bytes_held}
use Rattle.pot_recover.specs.Robust.{IsRobustAt}
use Rattle.pot_recover.proofs.robust.fill_robust.Given as goal

abbrev pub invariant-loop-k : goal.invariant-loop-k
invariant-loop-k l = record {
  size : length l.into ≡ length l.fn.into;
  below : (j : ℕ) → j < l.k → IsRobustAt l.need (map point_of l.ring) (bytes_held (l.start + j) l.ring) (get_or l.into j 0);
}
