use Rattle.std.proofs.Common.{◌≡◌, ◌++◌, length}
use Rattle.std.specs.Prelude.{All}
use Rattle.pot_tree.specs.Entries.{IsEntry, list_text}
use Rattle.pot_tree.proofs.lines.read_list.Given as goal

-- these entries were read
abbrev pub invariant-loop-left : goal.invariant-loop-left
invariant-loop-left l = record {
  text_is : l.text ≡ list_text l.entries.items ++ l.left;
  each : All IsEntry l.entries.items;
}

abbrev pub decreases-loop-left : goal.decreases-loop-left
decreases-loop-left l = length l.left
