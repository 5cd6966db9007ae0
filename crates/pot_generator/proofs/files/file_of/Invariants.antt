use Rattle.std.proofs.Common.{◌≡◌, map}
use Rattle.std.specs.List.{range_with_len}
use Rattle.pot_generator.specs.Generated.{byte_of}
use Rattle.pot_generator.proofs.files.file_of.Given as goal

abbrev pub invariant-loop-at : goal.invariant-loop-at
invariant-loop-at l = l.bytes.items ≡ map (byte_of l.number l.place) (range_with_len 0 l.at)
