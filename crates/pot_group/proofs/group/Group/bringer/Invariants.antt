use Rattle.std.proofs.Common.{◌≡◌, drop}
use Rattle.std.specs.Prelude.{find}
use Rattle.pot_group.specs.Uses.{brings}
use Rattle.pot_group.proofs.group.Group.bringer.Given as goal

abbrev pub invariant-loop-entry : goal.invariant-loop-entry
invariant-loop-entry g l = find (brings l.number) (drop l.entry-index l.entry-items) ≡ find (brings l.number) l.self.log
