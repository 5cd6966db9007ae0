use Rattle.std.proofs.Common.{◌≡◌, ◌++◌}
use Rattle.std.specs.Prelude.{flat_map, take}
use Rattle.pots_places.specs.Places.{head, line}
use Rattle.pots_places.proofs.places_file.places_text.Given as goal

-- the lines of the names so far stand behind the head
abbrev pub invariant-loop-name : goal.invariant-loop-name
invariant-loop-name l = l.text.items ≡ head ++ flat_map line (take l.name-index l.names)
