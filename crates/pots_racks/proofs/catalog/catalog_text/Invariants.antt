use Rattle.std.proofs.Common.{◌≡◌, ◌++◌}
use Rattle.std.specs.Prelude.{flat_map, take}
use Rattle.pots_racks.specs.Catalog.{head, line_text}
use Rattle.pots_racks.proofs.catalog.catalog_text.Given as goal

-- the lines so far stand behind the head
abbrev pub invariant-loop-line : goal.invariant-loop-line
invariant-loop-line l = l.text.items ≡ head ++ flat_map line_text (take l.line-index l.lines)
