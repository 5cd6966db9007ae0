use Rattle.std.proofs.Common.{◌≡◌, take, length}
use Rattle.pot_recover.specs.HeldShards.{bytes_held}
use Rattle.pot_recover.proofs.robust.bytes_at.Given as goal

abbrev pub invariant-loop-held : goal.invariant-loop-held
invariant-loop-held l = record {
  bytes : l.bytes.items ≡ bytes_held l.place (take l.held-index l.ring);
  size : length l.bytes.items ≡ l.held-index;
}
