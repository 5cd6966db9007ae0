use Rattle.std.proofs.Common.{take, Ok}
use Rattle.std.specs.List.{flat_map}
use Rattle.pot_index.specs.Records.{split_bytes}
use Rattle.pot_index.specs.Writing.{Appends}
use Rattle.pot_index.proofs.writing.append_splits.Given as goal

abbrev pub invariant-loop-split : goal.invariant-loop-split
invariant-loop-split l = Appends l.fn.out l.out (Ok tt) (flat_map split_bytes (take l.split-index l.splits))
