use Rattle.std.proofs.Common.{◌≡◌, take}
use Rattle.pot_session.specs.Audits.{loose_lines}
use Rattle.pot_session.proofs.auditing.loose_lines.Given as goal

abbrev pub invariant-loop-loose : goal.invariant-loop-loose
invariant-loop-loose l = l.text.items ≡ loose_lines (take l.loose-index l.columns)
