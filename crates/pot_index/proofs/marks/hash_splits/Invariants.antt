use Rattle.std.proofs.Common.{take}
use Rattle.std.specs.List.{flat_map}
use Rattle.pot_index.specs.Records.{split_bytes}
use Rattle.pot_index.specs.Writing.{Hashes}
use Rattle.pot_index.proofs.marks.hash_splits.Given as goal

abbrev pub invariant-loop-split : goal.invariant-loop-split
invariant-loop-split l = Hashes l.fn.hasher l.hasher (flat_map split_bytes (take l.split-index l.splits))
