use Rattle.std.proofs.Common.{◌≡◌, ◌≤◌, ◌++◌, length}
use Rattle.std.specs.Vec.{vec_capacity}
use Rattle.std.specs.Vec.Iter.{into_iter_items}
use Rattle.pot_script.proofs.grouping.take_lines.Given as goal

abbrev pub invariant-loop-taken : goal.invariant-loop-taken
invariant-loop-taken l = record {
  sofar : l.lines.items ++ into_iter_items l.commands ≡ into_iter_items l.fn.commands;
  many : length l.lines.items ≡ l._taken;
  room : l.fn.count ≤ vec_capacity l.lines;
}
