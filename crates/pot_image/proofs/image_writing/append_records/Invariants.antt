use Rattle.std.proofs.Common.{◌≡◌, ◌++◌, All, flat_map, take, length}
use Rattle.byteorder.specs.Endian.{big_bytes}
use Rattle.pot_index.specs.Records.{record_bytes}
use Rattle.pot_image.specs.Rules.{IsWholeRecord}
use Rattle.pot_image.proofs.image_writing.append_records.Given as goal

abbrev pub invariant-loop-record : goal.invariant-loop-record
invariant-loop-record l = (l.out.items ≡ (l.fn.out.items ++ big_bytes 4 (length l.records)) ++ flat_map record_bytes (take l.record-index l.records)) × All IsWholeRecord (take l.record-index l.records)
