use Rattle.std.proofs.Common.{◌≡◌, ◌<◌, ℕ, slice_index_or}
use Rattle.pot_store.specs.declared.visiting.Point.TheVariants as point
use Rattle.pot_store.proofs.points.Points.clear.Given as goal

abbrev pub invariant-loop-x : goal.invariant-loop-x
invariant-loop-x l = (y : ℕ) → y < l.x → slice_index_or l.self.known.items y point.Unknown ≡ point.Unknown
