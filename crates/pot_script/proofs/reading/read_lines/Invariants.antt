use Rattle.std.proofs.Common.{◌≡◌, ◌+◌, length}
use Rattle.pot_script.proofs.ScriptLemmas.{IsRead}
use Rattle.pot_script.proofs.reading.read_lines.Given as goal

-- the commands that were read stand before the rest, and each takes a byte at least
abbrev pub invariant-loop-spelled : goal.invariant-loop-spelled
invariant-loop-spelled l = record {
  read : IsRead l.rack l.bytes l.commands.items l.batch l.rest;
  counted : l.number ≡ length l.commands.items + 1;
}

abbrev pub decreases-loop-spelled : goal.decreases-loop-spelled
decreases-loop-spelled l = length l.rest
