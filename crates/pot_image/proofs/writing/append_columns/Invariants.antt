use Rattle.std.proofs.Common.{◌≡◌, ◌++◌, flat_map, take}
use Rattle.pot_image.specs.Spelling.{column_bytes}
use Rattle.pot_image.proofs.writing.append_columns.Given as goal

abbrev pub invariant-loop-column : goal.invariant-loop-column
invariant-loop-column l = l.out.items ≡ l.fn.out.items ++ flat_map column_bytes (take l.column-index l.columns)
