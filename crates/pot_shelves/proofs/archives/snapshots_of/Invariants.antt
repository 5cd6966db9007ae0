use Rattle.std.proofs.Common.{◌≡◌, ◌≤◌, length, map, take}
use Rattle.std.specs.Prelude.{vec_len, vec_capacity}
use Rattle.pot_shelves.proofs.archives.snapshots_of.Given as goal

abbrev pub invariant-loop-shelf : goal.invariant-loop-shelf
invariant-loop-shelf g l = record {
  count : vec_len l.taken ≡ l.shelf-index;
  room : length l.shelves ≤ vec_capacity l.taken;
  values : map (λ s. s.value) l.taken.items ≡ take l.shelf-index l.shelves;
}
