use Rattle.std.proofs.Common.{◌≡◌, ◌++◌, All, flat_map, take}
use Rattle.pot_image.specs.Rules.{HaveDigests}
use Rattle.pot_image.specs.Spelling.{table_bytes}
use Rattle.pot_image.proofs.image_writing.append_tables.Given as goal

abbrev pub invariant-loop-table : goal.invariant-loop-table
invariant-loop-table l = (l.out.items ≡ l.fn.out.items ++ flat_map table_bytes (take l.table-index l.tables)) × All HaveDigests (take l.table-index l.tables)
