use Rattle.std.proofs.Common.{◌≡◌, take, length}
use Rattle.std.specs.Prelude.{vec_capacity}
use Rattle.pot_index.proofs.splits.Splits.copy.Given as goal

abbrev pub invariant-loop-split : goal.invariant-loop-split
invariant-loop-split l = record {
  copied : l.splits.items ≡ take l.split-index l.split-items;
  room : vec_capacity l.splits ≡ length l.split-items;
}
