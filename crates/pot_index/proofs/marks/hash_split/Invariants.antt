use Rattle.std.proofs.Common.{◌++◌, take}
use Rattle.std.specs.List.{flat_map}
use Rattle.pot_index.specs.Records.{geometry_bytes, place_bytes}
use Rattle.pot_index.specs.Writing.{Hashes}
use Rattle.pot_index.proofs.marks.hash_split.Given as goal

abbrev pub invariant-loop-place : goal.invariant-loop-place
invariant-loop-place l = Hashes l.fn.hasher l.hasher (geometry_bytes l.fn.geometry ++ flat_map place_bytes (take l.place-index l.places))
