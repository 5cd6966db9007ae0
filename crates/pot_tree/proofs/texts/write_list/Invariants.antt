use Rattle.std.proofs.Common.{◌≡◌, take}
use Rattle.pot_tree.specs.Entries.{list_text}
use Rattle.pot_tree.proofs.texts.write_list.Given as goal

-- the lines of the entries so far are written
abbrev pub invariant-loop-entry : goal.invariant-loop-entry
invariant-loop-entry l = l.out.items ≡ list_text (take l.entry-index l.entries)
