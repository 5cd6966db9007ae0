use Rattle.std.proofs.Common.{◌≡◌, ◌<◌, ℕ, true, get_or}
use Rattle.pots_racks.specs.declared.catalog.Line.{Line}
use Rattle.pots_racks.specs.Catalog.{is_file}
use Rattle.pots_racks.proofs.sections.count_files.Given as goal

abbrev pub invariant-loop-at : goal.invariant-loop-at
invariant-loop-at l = (j : ℕ) (d : Line) → j < l.at → is_file (get_or l.lines j d) ≡ true
