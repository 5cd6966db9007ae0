use Rattle.std.proofs.Common.{◌≡◌, ◌*◌, ◌++◌, drop}
use Rattle.pot_split.specs.Threshold.{changed_rows}
use Rattle.pot_veil.proofs.explaining.add_rows.Given as goal

abbrev pub invariant-loop-row : goal.invariant-loop-row
invariant-loop-row l = l.rows ≡ changed_rows l.difference l.factors 1 l.row l.initial.rows ++ drop (l.row * 992) l.initial.rows
