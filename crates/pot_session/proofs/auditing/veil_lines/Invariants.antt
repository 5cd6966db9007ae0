use Rattle.std.proofs.Common.{◌≡◌, take}
use Rattle.pot_session.specs.Audits.{veil_lines}
use Rattle.pot_session.proofs.auditing.veil_lines.Given as goal

abbrev pub invariant-loop-veil : goal.invariant-loop-veil
invariant-loop-veil l = l.text.items ≡ veil_lines l.name (take l.veil-index l.veils)
