use Rattle.std.proofs.Common.{All}
use Rattle.pots_racks.specs.Catalog.{IsCatalogLine}
use Rattle.pots_racks.proofs.catalog_reading.lines_in.Given as goal

abbrev pub invariant-loop-bytes : goal.invariant-loop-bytes
invariant-loop-bytes l = All IsCatalogLine l.lines.items
