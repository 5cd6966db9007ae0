-- The pointers of a ring.
use Rattle.std.specs.Prelude.{ℕ, List, map, take, drop, ◌++◌}
use Rattle.pot_pointer.specs.Pointers.{blur}

-- each shard points to the next one by the blur of its name, and the last to the first
abbrev pub ring : List ℕ → ℕ → List ℕ
ring names bits = map (λ name. blur name bits) (drop 1 names ++ take 1 names)
