use Rattle.std.proofs.Common.{◌++◌, take, Ok}
use Rattle.std.specs.List.{flat_map}
use Rattle.pot_index.specs.Records.{geometry_bytes, place_bytes}
use Rattle.pot_index.specs.Writing.{Appends}
use Rattle.pot_index.proofs.writing.append_split.Given as goal

abbrev pub invariant-loop-place : goal.invariant-loop-place
invariant-loop-place l = Appends l.fn.out l.out (Ok tt) (geometry_bytes l.fn.geometry ++ flat_map place_bytes (take l.place-index l.places))
