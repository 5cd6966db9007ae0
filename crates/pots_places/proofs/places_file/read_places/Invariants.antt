use Rattle.std.proofs.Common.{◌≡◌, ◌++◌, length}
use Rattle.std.specs.Prelude.{All, flat_map}
use Rattle.pots_places.specs.Places.{IsPlaceName, head, line}
use Rattle.pots_places.proofs.places_file.read_places.Given as goal

-- these names were read
abbrev pub invariant-loop-name : goal.invariant-loop-name
invariant-loop-name l = record {
  text_is : l.text ≡ (head ++ flat_map line l.names.items) ++ l.left;
  each : All IsPlaceName l.names.items;
}

abbrev pub decreases-loop-name : goal.decreases-loop-name
decreases-loop-name l = length l.left
