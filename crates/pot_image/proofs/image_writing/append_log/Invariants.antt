use Rattle.std.proofs.Common.{◌≡◌, ◌++◌, All, flat_map, take, length}
use Rattle.byteorder.specs.Endian.{big_bytes}
use Rattle.pot_image.specs.Rules.{IsWholeEntry}
use Rattle.pot_image.specs.Spelling.{entry_bytes}
use Rattle.pot_image.proofs.image_writing.append_log.Given as goal

abbrev pub invariant-loop-entry : goal.invariant-loop-entry
invariant-loop-entry l = (l.out.items ≡ (l.fn.out.items ++ big_bytes 4 (length l.entries)) ++ flat_map entry_bytes (take l.entry-index l.entries)) × All IsWholeEntry (take l.entry-index l.entries)
