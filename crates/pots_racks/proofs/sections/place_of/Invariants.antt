use Rattle.std.proofs.Common.{◌≡◌, ◌<◌, ℕ, false, get_or}
use Rattle.pots_racks.specs.declared.catalog.Line.{Line}
use Rattle.pots_racks.specs.Catalog.{is_of}
use Rattle.pots_racks.proofs.sections.place_of.Given as goal

abbrev pub invariant-loop-at : goal.invariant-loop-at
invariant-loop-at l = (j : ℕ) (d : Line) → j < l.at → is_of l.rack (get_or l.lines j d) ≡ false
