use Rattle.std.proofs.Common.{◌≡◌, ◌+◌, ◌<◌, ℕ, map, get_or, length}
use Rattle.pot_outside.specs.Disks.{seen}
use Rattle.pot_doubles.specs.Disks.{call_of}
use Rattle.pot_doubles.proofs.disk.fill_seen.Given as goal

abbrev pub invariant-loop-k : goal.invariant-loop-k
invariant-loop-k l = record {
  size : length l.into ≡ length l.fn.into;
  below : (j : ℕ) → j < l.k → get_or l.into j 0 ≡ seen (map call_of l.notes) (l.at + j);
}
